use Rattle.std.proofs.Common.{◌≤◌, length, drop}
use Rattle.weed_base.specs.History.{AreOpen}
use Rattle.weed_base.proofs.mem.replay.settled_count.Given as goal

abbrev pub invariant-loop-count : goal.invariant-loop-count
invariant-loop-count l = (l.count ≤ length l.calls) × AreOpen (drop l.count l.calls)

abbrev pub decreases-loop-count : goal.decreases-loop-count
decreases-loop-count l = l.count
