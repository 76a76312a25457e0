use Rattle.std.proofs.Common.{sym, subst, rules}
use Rattle.name_core.specs.Pages.{IsPage}
use Rattle.mem_keeper.specs.Places.{StandsAt}
use Rattle.sql_keeper.specs.Follows.{Follows}
use Rattle.sql_keeper.proofs.PageLemmas.{page_more, not_root}
use Rattle.sql_keeper.proofs.page.add.Goals as goal

pub returns-in_ok-push-in-Within : goal.returns-in_ok-push-in-Within
returns-in_ok-push-in-Within g c page =
    let belongs = g.W.Wanted.belongs c.args.wanted.now in
    subst (IsPage c.args.room belongs) (sym c.in_ok-push-in-Within.ensures.items)
    (page_more c.args.room belongs c.args.page.now.items c.args.item page (search rules)
    (subst (λ items. Follows items c.args.item.0) c.deref.ensures.value (c.follows.ensures c.if-not-follows.false))
    (c.text.ensures.valid, not_root c.name.result c.args.item.0 (search rules) c.name.ensures.last, c.requires.valid)
    (subst (StandsAt belongs c.args.item.0) c.in-Within.is c.in_ok-place.ensures))
