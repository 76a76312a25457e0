use Rattle.std.proofs.Common.{◌≡◌, []}
use Rattle.http_wire.specs.Inbox.{left_of}
use Rattle.http_bodies.specs.Stage.{turns}
use Rattle.http_bodies.specs.Body.{Moves}
use Rattle.http_bodies.proofs.read.pass_marks.Given as goal

abbrev pub invariant-loop-from : goal.invariant-loop-from
invariant-loop-from g l =
    let source = g.S.Source in
    record {
      moves : Moves l.fn.body l.body (left_of l.fn.inbox (source.left l.fn.from)) (left_of l.inbox (source.left l.from)) [];
      faults : source.faults l.from ≡ source.faults l.fn.from;
      beside : source.beside l.from ≡ source.beside l.fn.from;
      course : (start : _) → g.S.Course.course start l.fn.from → g.S.Course.course start l.from;
    }

abbrev pub decreases-loop-from : goal.decreases-loop-from
decreases-loop-from g l = turns l.body
