use Rattle.std.proofs.Common.{rules, tests, ◌∙◌, ap, sym, option_map}
use Rattle.std.proofs.lemmas.Iterator.{YieldsList-from_slice}
use Rattle.std.proofs.lemmas.Iterator.Search.{find_from_yields_List}
use Rattle.httparse.specs.Borrowed.{header_parts}
use Rattle.http_head.specs.Lines.{is_named}
use Rattle.http_head.proofs.LineLemmas.{first_value_is}
use Rattle.http_head.proofs.lines.first_value.Goals as goal

pub returns-in-Some : goal.returns-in-Some
returns-in-Some c =
    ap (λ o. option_map (λ line. line.now.value.now) o) (sym c.in-Some.is)
    ∙ first_value_is c.args.name.now c.args.lines.now c.find.result (find_from_yields_List (λ line. is_named c.args.name.now (header_parts line)) _ _ _ c.find.ensures.ran (YieldsList-from_slice c.args.lines.now (cc)) (λ x b q k. search (rules, tests)))

pub returns-in-None : goal.returns-in-None
returns-in-None c =
    ap (λ o. option_map (λ line. line.now.value.now) o) (sym c.in-None.is)
    ∙ first_value_is c.args.name.now c.args.lines.now c.find.result (find_from_yields_List (λ line. is_named c.args.name.now (header_parts line)) _ _ _ c.find.ensures.ran (YieldsList-from_slice c.args.lines.now (cc)) (λ x b q k. search (rules, tests)))
