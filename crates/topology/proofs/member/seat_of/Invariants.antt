use Rattle.std.proofs.Common.{◌≡◌, ℕ, ◌<◌, get_or, false}
use Rattle.topology.specs.Nodes.{is_from}
use Rattle.topology.specs.declared.member.Member.{Member}
use Rattle.topology.proofs.member.seat_of.Given as goal

abbrev pub invariant-loop-at : goal.invariant-loop-at
invariant-loop-at l = (k : ℕ) (d : Member) → k < l.at → is_from l.id (get_or l.members k d) ≡ false
