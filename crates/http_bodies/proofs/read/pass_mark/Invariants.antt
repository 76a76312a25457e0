use Rattle.std.proofs.Common.{◌≡◌, ◌-◌, length}
use Rattle.http_wire.specs.Inbox.{left_of}
use Rattle.http_bodies.proofs.read.pass_mark.Given as goal

abbrev pub invariant-loop-inbox : goal.invariant-loop-inbox
invariant-loop-inbox g l =
    let source = g.S.Source in
    record {
      body : l.body ≡ l.fn.body;
      left : left_of l.inbox (source.left l.from) ≡ left_of l.fn.inbox (source.left l.fn.from);
      faults : source.faults l.from ≡ source.faults l.fn.from;
      beside : source.beside l.from ≡ source.beside l.fn.from;
      course : (start : _) → g.S.Course.course start l.fn.from → g.S.Course.course start l.from;
    }

abbrev pub decreases-loop-inbox : goal.decreases-loop-inbox
decreases-loop-inbox g l = 32768 - length l.inbox
