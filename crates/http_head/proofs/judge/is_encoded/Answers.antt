use Rattle.std.proofs.Common.{rules, tests, ◌∙◌}
use Rattle.std.specs.Prelude.{◌&&◌, not, codes}
use Rattle.std.proofs.lemmas.Iterator.{YieldsList-from_slice}
use Rattle.std.proofs.lemmas.Iterator.Search.{any_from_yields_List}
use Rattle.httparse.specs.Borrowed.{header_parts}
use Rattle.http_head.specs.Lines.{Line, is_named}
use Rattle.http_head.specs.Words.{is_word}
use Rattle.http_head.proofs.LineLemmas.{any_line}
use Rattle.http_head.proofs.judge.is_encoded.Goals as goal

pub returns : goal.returns
returns c =
    let test = λ (line : Line). is_named (codes "content-encoding") line && not (is_word line.1 (codes "identity")) in
    any_from_yields_List (λ line. test (header_parts line)) _ _ _ c.any.ensures.ran (YieldsList-from_slice c.args.lines.now (cc)) (λ x b q k. search (rules, tests))
    ∙ any_line test c.args.lines.now
