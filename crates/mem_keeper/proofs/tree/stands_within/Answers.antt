use Rattle.std.proofs.Common.{true, cond, ap, sym, ◌∙◌}
use Rattle.mem_keeper.proofs.WithinLemmas.{within_is}
use Rattle.mem_keeper.proofs.tree.stands_within.Goals as goal

pub returns-then-is_top : goal.returns-then-is_top
returns-then-is_top c =
    let both = within_is c.args.top.now c.args.path.now c.is-is_top.result c.is_below-is_below.result c.is-is_top.ensures c.is_below-is_below.ensures in
    c.if-is_top.true ∙ sym (ap (λ b. cond b true c.is_below-is_below.result) c.if-is_top.true) ∙ both

pub returns-else-is_top : goal.returns-else-is_top
returns-else-is_top c =
    let both = within_is c.args.top.now c.args.path.now c.is-is_top.result c.is_below-is_below.result c.is-is_top.ensures c.is_below-is_below.ensures in
    sym (ap (λ b. cond b true c.is_below-is_below.result) c.if-is_top.false) ∙ both
