use Rattle.std.proofs.Common.{◌≡◌, ℕ, ◌-◌, List}
use Rattle.std.specs.Prelude.{IfSome}
use Rattle.weed_base.specs.Files.{content}
use Rattle.weed_base.specs.Images.{OnlyReads}
use Rattle.meta_log.specs.Stretch.{IsOf}
use Rattle.meta_log.specs.Skip.{IsAhead, AreLate, PassesTo}
use Rattle.meta_log.proofs.rising.skip_past.Given as goal

-- only records up to the time were skipped, and the disk is as it was
abbrev pub invariant-skipping : goal.invariant-skipping
invariant-skipping g l = record {
  files : g.D.Disk.files l.disk ≡ g.D.Disk.files l.fn.disk;
  of : IfSome (g.D.Disk.files l.fn.disk) (λ files. IsOf (content files l.name) l.reading);
  skipped : IfSome (g.D.Disk.files l.fn.disk) (λ files.
      (past : List (List ℕ)) → IsAhead (content files l.name) l.gate l.after l.fn.reading.at past → AreLate l.after past → IsAhead (content files l.name) l.gate l.after l.reading.at past);
  passed : IfSome (g.D.Disk.files l.fn.disk) (λ files. PassesTo (content files l.name) l.gate l.after l.fn.reading.at l.reading.at);
  faults : g.D.Disk.faults l.disk ≡ g.D.Disk.faults l.fn.disk;
  beside : g.D.Disk.beside l.disk ≡ g.D.Disk.beside l.fn.disk;
  still : OnlyReads g.D.Disk.tick g.D.Disk.images g.D.Disk.image_since l.fn.disk l.disk;
}

abbrev pub decreases-skipping : goal.decreases-skipping
decreases-skipping g l = l.reading.size - l.reading.at
