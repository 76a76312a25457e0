use Rattle.std.proofs.Common.{◌≡◌, ◌-◌, ◌^◌, length}
use Rattle.http_wire.specs.Inbox.{left_of}
use Rattle.http_whole.specs.Whole.{Grows}
use Rattle.http_whole.proofs.whole.read_all.Given as goal

abbrev pub invariant-loop : goal.invariant-loop
invariant-loop g l =
    let source = g.S.Source in
    record {
      grows : Grows l.fn.body l.body (left_of l.fn.inbox (source.left l.fn.from)) (left_of l.inbox (source.left l.from)) l.fn.held.items l.held.items;
      faults : source.faults l.from ≡ source.faults l.fn.from;
      beside : source.beside l.from ≡ source.beside l.fn.from;
      course : (start : _) → g.S.Course.course start l.fn.from → g.S.Course.course start l.from;
    }

abbrev pub decreases-loop : goal.decreases-loop
decreases-loop g l = 2 ^ 64 - length l.held.items
