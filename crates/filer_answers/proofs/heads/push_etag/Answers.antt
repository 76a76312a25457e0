use Rattle.std.proofs.Common.{◌≡◌, codes, [], ◌∷◌, ◌++◌, ap, ◌∙◌, rules}
use Rattle.std.proofs.lemmas.Result.{on_ok_weaker}
use Rattle.filer_answers.specs.Heads.{etag_lines}
use Rattle.filer_answers.proofs.heads.push_etag.Goals as goal

pub returns-in_ok-etag-in-Some : goal.returns-in_ok-etag-in-Some
returns-in_ok-etag-in-Some c =
    let line : (codes "ETag", c.as_bytes.result.now) ∷ [] ≡ etag_lines c.args.md5.now = search rules in
    on_ok_weaker c.push_line.result (λ added. added ∙ ap (λ lines. c.args.lines.now.items ++ lines) line) c.push_line.ensures
