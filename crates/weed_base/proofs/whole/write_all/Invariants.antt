use Rattle.std.proofs.Common.{length, ◌-◌, ◌≡◌, ◌≤◌, take}
use Rattle.weed_base.specs.Told.{Appends}
use Rattle.weed_base.proofs.whole.write_all.Given as goal

abbrev pub invariant-loop-done : goal.invariant-loop-done
invariant-loop-done g l =
    let sink = g.K.Sink in
    record {
      within : l.done ≤ length l.bytes;
      bytes : Appends (sink.written l.fn.to) (sink.written l.to) (take l.done l.bytes);
      faults : sink.faults l.to ≡ sink.faults l.fn.to;
      beside : sink.beside l.to ≡ sink.beside l.fn.to;
      course : (start : _) → g.K.Course.course start l.fn.to → g.K.Course.course start l.to;
    }

abbrev pub decreases-loop-done : goal.decreases-loop-done
decreases-loop-done g l = length l.bytes - l.done
