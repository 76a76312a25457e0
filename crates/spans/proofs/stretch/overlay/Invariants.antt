use Rattle.std.proofs.Common.{◌≡◌, ◌+◌, ℕ, None, length}
use Rattle.spans.specs.Stretches.{seen_in, topmost}
use Rattle.spans.proofs.stretch.overlay.Given as goal

-- With what is left of both behind what was made, the same is seen as at the start.
abbrev pub invariant-loop-first : goal.invariant-loop-first
invariant-loop-first l =
    (p : ℕ) → seen_in l.made.items (topmost (seen_in l.below None p) (seen_in l.above None p)) p ≡ topmost (seen_in l.initial.below None p) (seen_in l.initial.above None p)

abbrev pub decreases-loop-first : goal.decreases-loop-first
decreases-loop-first l = length l.below + length l.above
