use Rattle.std.proofs.Common.{◌≡◌, List, ◌++◌, None, length, inl, inr, ◌⊎◌, ap, ◌∙◌, rules}
use Rattle.spans.specs.declared.stretch.Stretch.{Stretch}
use Rattle.spans.specs.Stretches.{seen_in, topmost}
use Rattle.spans.proofs.Stretches.{overlay_more, overlay_rest}
use Rattle.spans.proofs.stretch.overlay.Goals as goal
use Rattle.spans.proofs.stretch.overlay.Goals.{then-loop-first-test+else-not-is_empty, else-loop-first-test}

pub loop-first-preserved : goal.loop-first-preserved
loop-first-preserved c p =
    let below : List Stretch = c.loop-first.below.now in
    let above : List Stretch = c.loop-first.above.now in
    let below_rest : List Stretch = c.past-below.result.now in
    let above_rest : List Stretch = c.past-above.result.now in
    let first : Stretch = c.first_of-first.result in
    let whole = topmost (seen_in below_rest None p) (seen_in above_rest None p) in
    ap (λ made. seen_in made whole p) c.in_ok-push.ensures.items
    ∙ overlay_more c.loop-first.made.items below above below_rest above_rest first first p (search rules) (search rules) (c.first_of-first.ensures.to first) (c.first_of-first.ensures.seen first)
    (λ after. c.past-below.ensures.same p after) (λ after. c.past-above.ensures.same p after)
    ∙ c.loop-first.invariant p

pub returns : goal.returns
returns c p =
    let below : List Stretch = c.loop-first.below.now in
    let above : List Stretch = c.loop-first.above.now in
    let made : List Stretch = c.loop-first.made.items in
    let ends : (length below ≡ 0) ⊎ (length above ≡ 0) =
    elim c.loop-first-test.branch [
      | then-loop-first-test+else-not-is_empty w ↦ inr (search rules)
      | else-loop-first-test w ↦ inl (search rules)
    ] in
    ap (λ all. seen_in all None p) (c.in_ok-extend_from_slice-2.ensures.items ∙ ap (λ front. front ++ above) c.in_ok-extend_from_slice.ensures.items)
    ∙ overlay_rest made below above p ends
    ∙ c.loop-first.invariant p
