use Rattle.std.proofs.Common.{◌-◌}
use Rattle.mem_keeper.proofs.spares.Spares.reserve.Given as goal

-- The nodes that are missing
abbrev pub decreases-loop-alloc : goal.decreases-loop-alloc
decreases-loop-alloc l = l.count - l.self
