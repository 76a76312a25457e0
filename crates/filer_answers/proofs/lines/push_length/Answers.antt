use Rattle.std.proofs.Common.{codes, [], ◌∷◌, ◌++◌, ap, ◌∙◌}
use Rattle.std.proofs.lemmas.Result.{on_ok_weaker}
use Rattle.filer_answers.proofs.lines.push_length.Goals as goal

pub returns : goal.returns
returns c =
    on_ok_weaker c.push_line.result
    (λ added. added ∙ ap (λ value. c.args.lines.now.items ++ (codes "Content-Length", value) ∷ []) (c.as_bytes.ensures.value ∙ c.format.ensures.text))
    c.push_line.ensures
