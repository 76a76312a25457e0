use Rattle.std.proofs.Common.{sym, ap, ◌∙◌, is_lt, option_copied}
use Rattle.sql_keeper.proofs.PageLemmas.{last_follows, last_is}
use Rattle.sql_keeper.proofs.page.follows.Goals as goal

pub returns-in-Some : goal.returns-in-Some
returns-in-Some c so = last_follows c.args.page.now c.in-Some.item.now c.args.path.now (last_is c.args.page.now c.in-Some.item.now (sym c.last.ensures.value ∙ ap option_copied c.in-Some.is)) (ap is_lt (sym c.order.ensures) ∙ sym c.is_lt.ensures ∙ so)
