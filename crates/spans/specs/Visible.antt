-- The spans of chunks: the maximal runs of positions in which one chunk is seen, rising.
use Rattle.std.specs.Prelude.{◌≡◌, ◌≢◌, ℕ, ◌≤◌, ◌<◌, ◌⊎◌, max, nat_le, nat_lt, ◌&&◌, if◌then◌else◌, List, [], ◌∷◌, Option, None, Some, option_map}
use Rattle.entry.specs.declared.chunk.Chunk.{Chunk}
use Rattle.spans.specs.declared.stretch.Seen.{Seen}
use Rattle.spans.specs.declared.stretch.Stretch.{Stretch}
use Rattle.spans.specs.declared.seen_spans.Span.{Span}
use Rattle.spans.specs.Denotation.{seen_at}
use Rattle.spans.specs.Stretches.{seen_in}

-- The place in the list of the chunk that is seen at a position.
abbrev pub place_seen : List Chunk → ℕ → Option ℕ
place_seen chunks position = option_map (λ placed. placed.place) (seen_at chunks position)

-- The place that the first span with that position names, and `past` where none has it.
abbrev pub place_in : List Span → Option ℕ → ℕ → Option ℕ
place_in [] past position = past
place_in (span ∷ spans) past position =
    if nat_le span.from position && nat_lt position span.to then Some span.chunk else place_in spans past position

-- A span ends before the next begins, or just where it begins, and is then of another chunk.
abbrev pub IsApart : Span → Span → Type 0
IsApart one next = (one.to < next.from) ⊎ ((one.to ≡ next.from) × (one.chunk ≢ next.chunk))

-- Each span has a position, and stands apart from the next.
abbrev pub AreApart : List Span → Type 0
AreApart [] = Unit {0}
AreApart (one ∷ []) = one.from < one.to
AreApart (one ∷ next ∷ rest) = (one.from < one.to) × IsApart one next × AreApart (next ∷ rest)

-- At each position the spans name the chunk that is seen there, and none could be longer.
pub record IsVisible (chunks : List Chunk) (spans : List Span) : Type 0 where
  pub seen : (position : ℕ) → place_in spans None position ≡ place_seen chunks position
  pub apart : AreApart spans

-- The first span, if there is one, ends behind a position.
abbrev pub EndsAfter : ℕ → List Span → Type 0
EndsAfter position [] = Unit {0}
EndsAfter position (span ∷ spans) = position < span.to

-- From a position on the spans name the chunk that is seen.
abbrev pub TellFrom : ℕ → List Chunk → List Span → Type 0
TellFrom from chunks spans = (position : ℕ) → from ≤ position → place_in spans None position ≡ place_seen chunks position

-- ---- Spans made of stretches, one after another

-- All spans end by a position.
abbrev pub EndBy : ℕ → List Span → Type 0
EndBy at [] = Unit {0}
EndBy at (span ∷ spans) = (span.to ≤ at) × EndBy at spans

-- The place of what is seen.
abbrev pub place_of : Option Seen → Option ℕ
place_of seen = option_map (λ s. s.place) seen

-- Spans that stand apart have one more, which covers the positions from one to before another.
pub record Grows (from to : ℕ) (place : Option ℕ) (old new : List Span) : Type 0 where
  pub apart : AreApart new
  pub ended : EndBy (max from to) new
  pub places : (position : ℕ) → place_in new None position ≡ (if nat_le from position && nat_lt position to then place else place_in old None position)

-- The spans name what is seen in the stretches.
pub record AreJoined (stretches : List Stretch) (spans : List Span) : Type 0 where
  pub seen : (position : ℕ) → place_in spans None position ≡ place_of (seen_in stretches None position)
  pub apart : AreApart spans
