use Rattle.std.proofs.Common.{rules, tests, ◌∙◌, ap}
use Rattle.std.proofs.lemmas.Iterator.Search.{YieldsList-from_take_while}
use Rattle.std.proofs.lemmas.Iterator.Consumers.{count_from_yields_List}
use Rattle.std.proofs.lemmas.List.Folds.{length-prefix_len}
use Rattle.std.specs.Prelude.{◌-◌, length, take, reverse}
use Rattle.http_head.specs.Words.{is_blank}
use Rattle.std.proofs.lemmas.Iterator.Adapters.{YieldsList-from_rev_slice}
use Rattle.http_form.proofs.trim.without_end.Goals as goal

pub returns : goal.returns
returns c =
    let text = c.args.text.now in
    let blanks = count_from_yields_List c.take_while.result _ c.count-blanks.ensures.ran (YieldsList-from_take_while _ is_blank (YieldsList-from_rev_slice text (cc)) c.take_while.ensures.closure c.take_while.ensures.done (λ x b q k. search (rules, tests))) ∙ length-prefix_len is_blank (reverse text) in
    ap (λ n. take (length text - n) text) blanks
