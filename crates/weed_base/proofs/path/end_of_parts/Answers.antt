use Rattle.std.proofs.Common.{◌≡◌, ◌≤◌, ap, arith, count_by, length, nat_eq, refl, take}
use Rattle.std.proofs.lemmas.List.{take_all}
use Rattle.weed_base.proofs.PathLemmas.{take_all_parts}
use Rattle.weed_base.proofs.path.end_of_parts.Goals as goal

pub returns-clause-cut : goal.returns-clause-cut
returns-clause-cut c =
    let bytes = c.args.bytes.now in
    let whole : take c.loop-at.at bytes ≡ bytes = take_all c.loop-at.at bytes (omega arith) in
    let count : count_by (λ b. nat_eq b 47) bytes ≤ c.args.parts = omega (arith, c.loop-at.invariant, ap (count_by (λ b. nat_eq b 47)) whole) in
    take_all_parts bytes (length bytes) c.args.parts refl count
