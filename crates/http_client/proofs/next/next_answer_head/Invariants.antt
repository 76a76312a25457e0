use Rattle.std.proofs.Common.{◌≡◌, ◌-◌, length}
use Rattle.http_wire.specs.Inbox.{left_of}
use Rattle.http_client.proofs.next.next_answer_head.Given as goal

abbrev pub invariant-loop-head : goal.invariant-loop-head
invariant-loop-head g l =
    let source = g.S.Source in
    record {
      left : left_of l.inbox (source.left l.from) ≡ left_of l.fn.inbox (source.left l.fn.from);
      faults : source.faults l.from ≡ source.faults l.fn.from;
      beside : source.beside l.from ≡ source.beside l.fn.from;
      course : (start : _) → g.S.Course.course start l.fn.from → g.S.Course.course start l.from;
    }

abbrev pub decreases-loop-head : goal.decreases-loop-head
decreases-loop-head g l = 32768 - length l.inbox
