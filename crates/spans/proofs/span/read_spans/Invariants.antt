use Rattle.std.proofs.Common.{◌≡◌, ◌+◌, ◌-◌, ◌≤◌, length}
use Rattle.std.specs.Prelude.{IfSome}
use Rattle.entry.specs.Needles.{Counts}
use Rattle.spans.specs.Denotation.{denoted}
use Rattle.spans.specs.Spans.{AreServed}
use Rattle.spans.specs.Visible.{AreApart, TellFrom}
use Rattle.spans.proofs.span.read_spans.Given as goal

-- The bytes so far are those up to here, and each position before was read.
abbrev pub invariant-loop-at : goal.invariant-loop-at
invariant-loop-at g l =
    (l.from ≤ l.at) × (l.at ≤ l.to)
    × (l.from + length l.bytes.items ≡ l.at)
    × IfSome (g.B.Blobs.needles l.fn.blobs) (λ needles. l.bytes.items ≡ denoted needles l.chunks l.from l.at)
    × AreServed (g.B.Blobs.needles l.fn.blobs) l.chunks l.from l.at
    × (g.B.Blobs.needles l.blobs ≡ g.B.Blobs.needles l.fn.blobs)
    × (g.B.Blobs.beside l.blobs ≡ g.B.Blobs.beside l.fn.blobs)
    × Counts (g.B.Blobs.faults l.fn.blobs) (g.B.Blobs.faults l.blobs) ⊥
    × Counts (g.B.Blobs.misses l.fn.blobs) (g.B.Blobs.misses l.blobs) ⊥
    × AreApart l.rest × TellFrom l.at l.chunks l.rest

abbrev pub decreases-loop-at : goal.decreases-loop-at
decreases-loop-at g l = l.to - l.at
