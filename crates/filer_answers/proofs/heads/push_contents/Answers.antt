use Rattle.std.proofs.Common.{codes, [], ◌∷◌, ◌++◌, ap, ◌∙◌}
use Rattle.std.proofs.lemmas.Result.{on_ok_weaker}
use Rattle.filer_answers.specs.Lines.{type_line}
use Rattle.filer_answers.specs.Heads.{etag_lines}
use Rattle.filer_answers.proofs.LineLemmas.{three_added}
use Rattle.filer_answers.proofs.heads.push_contents.Goals as goal

pub returns : goal.returns
returns c =
    let old = c.args.lines.now.items in
    let typed = c.in_ok-push_line.ensures ∙ ap (λ mime. old ++ type_line mime ∷ []) c.shown_mime.ensures in
    on_ok_weaker c.push_line-2.result
    (λ added. three_added old _ _ _ (etag_lines c.args.attributes.now.md5) _ _ typed c.in_ok-push_etag.ensures added)
    c.push_line-2.ensures
