use Rattle.std.proofs.Common.{take}
use Rattle.topology.specs.Picks.{shown, IsPick}
use Rattle.topology.proofs.placing.pick.Given as goal

abbrev pub invariant-loop-member : goal.invariant-loop-member
invariant-loop-member l = IsPick l.part l.main l.count (take l.member-index (shown l.free)) (shown l.picked.items)
