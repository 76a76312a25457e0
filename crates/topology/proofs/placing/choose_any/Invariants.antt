use Rattle.std.proofs.Common.{take}
use Rattle.topology.specs.Picks.{shown, NoneAround}
use Rattle.std.specs.List.{Contains}
use Rattle.topology.specs.declared.member.Member.{Member}
use Rattle.topology.proofs.placing.choose_any.Given as goal

abbrev pub invariant-loop-main : goal.invariant-loop-main
invariant-loop-main l = (main : Member) → Contains (take l.main-index (shown l.free)) main → NoneAround l.placement main (shown l.free)
