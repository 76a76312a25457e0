use Rattle.std.proofs.Common.{length, ◌-◌, ◌≡◌, ◌≤◌, take}
use Rattle.weed_base.specs.Told.{Consumes}
use Rattle.weed_base.proofs.whole.read_full.Given as goal

abbrev pub invariant-loop-done : goal.invariant-loop-done
invariant-loop-done g l =
    let source = g.S.Source in
    record {
      within : l.done ≤ length l.room;
      bytes : Consumes (source.left l.fn.from) (source.left l.from) (take l.done l.room);
      faults : source.faults l.from ≡ source.faults l.fn.from;
      beside : source.beside l.from ≡ source.beside l.fn.from;
      course : (start : _) → g.S.Course.course start l.fn.from → g.S.Course.course start l.from;
    }

abbrev pub decreases-loop-done : goal.decreases-loop-done
decreases-loop-done g l = length l.room - l.done
