use Rattle.std.proofs.Common.{rules, tests, ◌∙◌, ap}
use Rattle.std.proofs.lemmas.Iterator.{YieldsList-from_slice}
use Rattle.std.specs.Prelude.{nat_lt}
use Rattle.httparse.specs.Borrowed.{header_parts}
use Rattle.http_head.specs.Lines.{is_named}
use Rattle.http_head.specs.Body.{coding_name}
use Rattle.http_head.proofs.LineLemmas.{count_lines}
use Rattle.std.proofs.lemmas.Iterator.Consumers.{count_from_yields_List, YieldsList-from_filter}
use Rattle.http_head.proofs.body.has_several_codings.Goals as goal

pub returns : goal.returns
returns c =
    let several = count_from_yields_List c.filter.result _ c.count.ensures.ran (YieldsList-from_filter _ (λ line. is_named coding_name (header_parts line)) (YieldsList-from_slice c.args.lines.now (cc)) c.filter.ensures.closure (λ x b q k. search (rules, tests)))
    ∙ count_lines (is_named coding_name) c.args.lines.now in
    ap (nat_lt 1) several
