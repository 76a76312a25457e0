use Rattle.std.proofs.Common.{◌≡◌, take, filter}
use Rattle.topology.specs.Choices.{has_room}
use Rattle.topology.specs.Picks.{shown}
use Rattle.topology.proofs.placing.free_members.Given as goal

abbrev pub invariant-loop-member : goal.invariant-loop-member
invariant-loop-member l = shown l.free.items ≡ filter has_room (take l.member-index l.members)
