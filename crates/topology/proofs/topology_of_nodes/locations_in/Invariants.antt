use Rattle.std.proofs.Common.{◌≡◌, take}
use Rattle.topology.specs.Told.{locations_in}
use Rattle.topology.proofs.topology_of_nodes.locations_in.Given as goal

abbrev pub invariant-loop-member : goal.invariant-loop-member
invariant-loop-member l = l.locations.items ≡ locations_in l.volume (take l.member-index l.members)
