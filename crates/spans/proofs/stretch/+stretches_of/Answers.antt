use Rattle.std.proofs.Common.{◌≡◌, ◌+◌, ◌++◌, List, length, refl, sym, subst}
use Rattle.std.proofs.lemmas.Result.{IfOk-weaker}
use Rattle.entry.specs.declared.chunk.Chunk.{Chunk}
use Rattle.spans.specs.Stretches.{AreStretches}
use Rattle.spans.proofs.Stretches.{halves}
use Rattle.spans.proofs.stretch.+stretches_of.Goals as goal

pub returns : goal.returns
returns t c =
    let front : List Chunk = c.split_at.result.0.now in
    let behind : List Chunk = c.split_at.result.1.now in
    let parts : c.args.chunks.now ≡ front ++ behind = c.split_at.ensures.by_index.0 in
    let below : AreStretches c.args.first front c.deref.result.now = subst (AreStretches c.args.first front) (sym c.deref.ensures.value) c.in_ok-below.ensures in
    let above : AreStretches (c.args.first + length front) behind c.deref-2.result.now =
    subst (AreStretches (c.args.first + length front) behind) (sym c.deref-2.ensures.value) c.in_ok-above.ensures in
    IfOk-weaker c.overlay.result _ _ (λ made made_is. halves c.args.first (c.args.first + length front) c.args.chunks.now front behind c.deref.result.now c.deref-2.result.now made.items parts refl below above made_is) c.overlay.ensures
