use Rattle.std.proofs.Common.{◌≡◌, codes, [], ◌∷◌, ◌++◌, ap, sym, subst, ◌∙◌, rules}
use Rattle.std.proofs.lemmas.Result.{on_ok_weaker}
use Rattle.filer_answers.specs.Lines.{range_line}
use Rattle.filer_answers.specs.Heads.{range_text, part_lines}
use Rattle.filer_answers.proofs.LineLemmas.{two_added}
use Rattle.filer_answers.proofs.heads.push_part.Goals as goal

pub returns-in_ok-push_line-in-Between : goal.returns-in_ok-push_line-in-Between
returns-in_ok-push_line-in-Between c =
    let old = c.args.lines.now.items in
    let text : c.as_bytes.result.now ≡ range_text c.in-Between.from c.in-Between.to c.args.length = search rules in
    let ranged = c.in_ok-push_line-in-Between.ensures ∙ ap (λ value. old ++ range_line value ∷ []) text in
    on_ok_weaker c.push_length-in-Between.result
    (λ added. two_added old _ _ _ _ ranged added ∙ ap (λ part. old ++ part_lines part c.args.length) (sym c.in-Between.is))
    c.push_length-in-Between.ensures
