use Rattle.std.proofs.Common.{sym, subst, List}
use Rattle.spans.specs.declared.seen_spans.Span.{Span}
use Rattle.spans.specs.Visible.{Grows, place_of}
use Rattle.spans.proofs.Joined.{grows_none}
use Rattle.spans.proofs.seen_spans.add_stretch.Goals as goal

pub returns-in-None : goal.returns-in-None
returns-in-None c =
    let old : List Span = c.args.spans.now.items in
    subst (λ seen. Grows c.args.at c.args.stretch.now.to (place_of seen) old old) (sym c.in-None.is)
    (grows_none old c.args.at c.args.stretch.now.to c.requires.apart c.requires.ended)
