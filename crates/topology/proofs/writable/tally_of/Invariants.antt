use Rattle.std.proofs.Common.{◌≡◌, take}
use Rattle.topology.specs.Tallies.{tally_of}
use Rattle.topology.proofs.writable.tally_of.Given as goal

abbrev pub invariant-loop-member : goal.invariant-loop-member
invariant-loop-member l = l.tally ≡ tally_of l.kind (take l.member-index l.members) l.volume
