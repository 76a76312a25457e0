use Rattle.std.proofs.Common.{◌≡◌, ◌+◌, count_by, nat_eq, take}
use Rattle.weed_base.proofs.path.end_of_parts.Given as goal

abbrev pub invariant-loop-at : goal.invariant-loop-at
invariant-loop-at l = l.left + count_by (λ b. nat_eq b 47) (take l.at l.bytes) ≡ l.parts
