use Rattle.std.proofs.Common.{◌≡◌, ℕ, take}
use Rattle.topology.specs.Tallies.{tally_at, tally_of}
use Rattle.topology.proofs.writable.tallies_of.Given as goal

abbrev pub invariant-loop-member : goal.invariant-loop-member
invariant-loop-member l = (volume : ℕ) → tally_at l.kind l.tallies volume ≡ tally_of l.kind (take l.member-index l.members) volume
