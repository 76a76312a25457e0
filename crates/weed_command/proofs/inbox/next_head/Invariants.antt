use Rattle.std.proofs.Common.{◌≡◌, ◌-◌, ◌≤◌, length}
use Rattle.weed_command.specs.HeadEnd.{HasNoEndBelow}
use Rattle.weed_command.specs.Inbox.{left_of}
use Rattle.weed_command.proofs.inbox.next_head.Given as goal

abbrev pub invariant-loop-count : goal.invariant-loop-count
invariant-loop-count g l =
    let source = g.S.Source in
    record {
      within : l.searched ≤ length l.inbox.pending;
      none : HasNoEndBelow l.inbox.pending l.searched;
      left : left_of l.inbox.pending (source.left l.from) ≡ left_of l.fn.inbox.pending (source.left l.fn.from);
      faults : source.faults l.from ≡ source.faults l.fn.from;
    }

abbrev pub decreases-loop-count : goal.decreases-loop-count
decreases-loop-count g l = 16384 - length l.inbox.pending
