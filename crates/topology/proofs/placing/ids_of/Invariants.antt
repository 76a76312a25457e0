use Rattle.std.proofs.Common.{◌≡◌, take, map}
use Rattle.topology.specs.Choices.{id_of}
use Rattle.topology.specs.Picks.{shown}
use Rattle.topology.proofs.placing.ids_of.Given as goal

abbrev pub invariant-loop-member : goal.invariant-loop-member
invariant-loop-member l = l.ids.items ≡ map id_of (take l.member-index (shown l.members))
