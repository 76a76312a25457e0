use Rattle.std.proofs.Common.{◌++◌, ◌∷◌, [], Some, List, refl, sym, ap, subst, ◌∙◌, arith}
use Rattle.spans.specs.declared.seen_spans.Span.{Span}
use Rattle.spans.specs.Visible.{Grows}
use Rattle.spans.proofs.Joined.{grows_more, grows_longer}
use Rattle.spans.proofs.seen_spans.add_behind.Goals as goal
use Rattle.spans.proofs.seen_spans.add_behind.Goals.{else-last-span-via-then-last-span+else-last-span-2, else-last-span-via-else-last-span}

pub returns-then-last-span-2 : goal.returns-then-last-span-2
returns-then-last-span-2 c =
    let old : List Span = c.args.spans.now.items in
    let longer : Span = record c.args.span { from = c.args.last.from } in
    subst (Grows c.args.span.from c.args.span.to (Some c.args.span.chunk) (old ++ c.args.last ∷ [])) (sym c.in_ok-push.ensures.items)
    (grows_longer old c.args.last longer c.args.span c.requires.filled (omega arith) (omega arith) refl refl refl c.requires.apart c.requires.ended)

pub returns : goal.returns
returns c =
    let old : List Span = c.args.spans.now.items in
    subst (Grows c.args.span.from c.args.span.to (Some c.args.span.chunk) (old ++ c.args.last ∷ [])) (sym (c.in_ok-push-3.ensures.items ∙ ap (λ xs. xs ++ c.args.span ∷ []) c.in_ok-push-2.ensures.items))
    (grows_more old c.args.last c.args.span c.requires.filled c.requires.apart c.requires.ended (λ touch same. elim c.else-last-span.branch [ else-last-span-via-then-last-span+else-last-span-2 w ↦ omega arith | else-last-span-via-else-last-span w ↦ omega arith ]))
