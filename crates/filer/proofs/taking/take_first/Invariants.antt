use Rattle.std.proofs.Common.{◌≡◌, ◌≤◌, ◌-◌, [], None}
use Rattle.weed_base.specs.Images.{OnlyReads}
use Rattle.meta_log.specs.Kept.{HoldsMetaLog, front_of}
use Rattle.filer.specs.Taken.{TakesMany, AreNamesOf, HoldsTaken}
use Rattle.filer.proofs.taking.take_first.Given as goal

abbrev pub invariant-loop-rest : goal.invariant-loop-rest
invariant-loop-rest g l =
    let disk = g.D.Disk in
    let names = g.K.Names in
    record {
      files : disk.files l.disk ≡ disk.files l.fn.disk;
      count : l.rest.count ≤ (front_of l.log).count;
      all : TakesMany ((front_of l.log).count - l.rest.count) (names.map l.fn.keeper) (names.map l.keeper);
      taken : HoldsMetaLog (disk.files l.fn.disk) l.log → AreNamesOf [] (names.map l.fn.keeper)
          → HoldsTaken (disk.files l.fn.disk) l.log (names.map l.keeper) l.rest.place l.rest.count;
      left : HoldsMetaLog (disk.files l.fn.disk) l.log → HoldsTaken (disk.files l.fn.disk) l.log None l.rest.place l.rest.count;
      still : OnlyReads disk.tick disk.images disk.image_since l.fn.disk l.disk;
      faults : disk.faults l.disk ≡ disk.faults l.fn.disk;
      beside : disk.beside l.disk ≡ disk.beside l.fn.disk;
      keeper_faults : names.faults l.keeper ≡ names.faults l.fn.keeper;
      keeper_beside : names.beside l.keeper ≡ names.beside l.fn.keeper;
    }

abbrev pub decreases-loop-rest : goal.decreases-loop-rest
decreases-loop-rest g l = l.rest.count
