use Rattle.std.proofs.Common.{◌≡◌, ◌-◌, ◌≤◌}
use Rattle.std.specs.Prelude.{IfSome}
use Rattle.weed_base.specs.Files.{content}
use Rattle.weed_base.specs.Images.{OnlyReads}
use Rattle.meta_log.specs.LogText.{segment_name}
use Rattle.meta_log.specs.Scan.{IsScanned}
use Rattle.meta_log.proofs.scan.scan.Given as goal

-- up to where the reading is stand items that were let through, and the disk is as it was
abbrev pub invariant-loop-reading : goal.invariant-loop-reading
invariant-loop-reading g l =
    (l.name ≡ segment_name l.fn.stem 1)
    × (g.C.Check.count l.check ≤ l.reading.at)
    × (g.D.Disk.files l.disk ≡ g.D.Disk.files l.fn.disk)
    × IfSome (g.D.Disk.files l.fn.disk) (λ files. IsScanned (g.C.Check.passed l.check) (content files l.name) l.reading)
    × (g.D.Disk.faults l.disk ≡ g.D.Disk.faults l.fn.disk)
    × (g.D.Disk.beside l.disk ≡ g.D.Disk.beside l.fn.disk)
    × OnlyReads g.D.Disk.tick g.D.Disk.images g.D.Disk.image_since l.fn.disk l.disk

abbrev pub decreases-loop-reading : goal.decreases-loop-reading
decreases-loop-reading g l = l.reading.size - l.reading.at
