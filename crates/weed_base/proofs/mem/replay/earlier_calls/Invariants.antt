use Rattle.std.proofs.Common.{◌≡◌, ◌≤◌, length, take, reverse}
use Rattle.weed_base.specs.History.{earlier}
use Rattle.weed_base.proofs.mem.replay.earlier_calls.Given as goal

abbrev pub invariant-loop-count : goal.invariant-loop-count
invariant-loop-count l = (l.count ≤ length l.calls) × (earlier l.tick (reverse (take l.count l.calls)) ≡ earlier l.tick (reverse l.calls))

abbrev pub decreases-loop-count : goal.decreases-loop-count
decreases-loop-count l = l.count
