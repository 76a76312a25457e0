use Rattle.std.proofs.Common.{◌≡◌, ◌-◌}
use Rattle.std.specs.Prelude.{IfSome}
use Rattle.std.specs.FinMap.{empty}
use Rattle.weed_base.specs.Files.{content}
use Rattle.weed_base.specs.Images.{OnlyReads}
use Rattle.meta_log.specs.Held.{gate_of}
use Rattle.meta_log.specs.Kept.{HoldsMetaLog, front_of}
use Rattle.meta_log.specs.LogText.{segment_name}
use Rattle.meta_log.specs.declared.stem.Stem.TheVariants.{Log}
use Rattle.weed_command.specs.NameTable.{names_of}
use Rattle.weed_command.specs.Replay.{HoldsTaken, TakesMany, TakesFrom}
use Rattle.weed_command.proofs.replay.replay.Given as goal

abbrev pub invariant-loop-rest : goal.invariant-loop-rest
invariant-loop-rest g l =
    let disk = g.D.Disk in
    record {
      files : disk.files l.disk ≡ disk.files l.fn.disk;
      taken : HoldsMetaLog (disk.files l.fn.disk) l.log → HoldsTaken (disk.files l.fn.disk) l.log l.names l.rest.place l.rest.count;
      takes : IfSome (disk.files l.fn.disk) (λ files.
          TakesFrom (content files (segment_name Log 1)) (gate_of l.log.log) 0 l.rest.place.at (front_of l.log).count l.rest.count empty (names_of l.names));
      all : TakesMany ((front_of l.log).count - l.rest.count) empty (names_of l.names);
      still : OnlyReads disk.tick disk.images disk.image_since l.fn.disk l.disk;
      faults : disk.faults l.disk ≡ disk.faults l.fn.disk;
      beside : disk.beside l.disk ≡ disk.beside l.fn.disk;
    }

abbrev pub decreases-loop-rest : goal.decreases-loop-rest
decreases-loop-rest g l = l.rest.count
