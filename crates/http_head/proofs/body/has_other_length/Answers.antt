use Rattle.std.proofs.Common.{rules, tests, ◌∙◌}
use Rattle.std.proofs.lemmas.Iterator.{YieldsList-from_slice}
use Rattle.std.proofs.lemmas.Iterator.Search.{any_from_yields_List}
use Rattle.std.specs.Prelude.{◌&&◌, not}
use Rattle.httparse.specs.Borrowed.{header_parts}
use Rattle.http_head.specs.Lines.{Line, is_named}
use Rattle.http_head.specs.Words.{read_number}
use Rattle.http_head.specs.Body.{length_name, is_that}
use Rattle.http_head.proofs.LineLemmas.{any_line}
use Rattle.http_head.proofs.body.has_other_length.Goals as goal

pub returns : goal.returns
returns c =
    let test = λ (line : Line). is_named length_name line && not (is_that c.args.count (read_number line.1)) in
    any_from_yields_List (λ line. test (header_parts line)) _ _ _ c.any.ensures.ran (YieldsList-from_slice c.args.lines.now (cc)) (λ x b q k. search (rules, tests))
    ∙ any_line test c.args.lines.now
