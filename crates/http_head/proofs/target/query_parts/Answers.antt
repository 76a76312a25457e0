use Rattle.std.proofs.Common.{rules, tests, ◌∙◌, ap}
use Rattle.std.specs.Prelude.{map}
use Rattle.std.proofs.lemmas.Iterator.Consumers.{YieldsList-end}
use Rattle.std.proofs.lemmas.Iterator.Splits.{YieldsList-from_slice_split}
use Rattle.http_head.specs.Target.{query_part, is_ampersand}
use Rattle.http_head.proofs.target.query_parts.Goals as goal

pub returns : goal.returns
returns c =
    let parts = YieldsList-from_slice_split _ is_ampersand c.args.query.now (cc) (cc) (cc) (λ x b q k. search (rules, tests)) in
    let end = YieldsList-end parts c.loop-part.yielded _ c.loop-part.yielded_by _ _ c.in-None.is c.next.ensures.steps in
    c.loop-part.invariant ∙ ap (map query_part) end.0
