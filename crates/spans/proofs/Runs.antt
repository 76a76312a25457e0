-- What is seen from a position on, by the spans from there on.
use Rattle.std.proofs.Common.{◌≡◌, ℕ, suc, ◌+◌, ◌-◌, ◌<◌, ◌≤◌, Bool, true, false, cond, List, [], ◌∷◌, length, filter, Option, None, Some, refl, sym, ap, ◌∙◌, subst, inl, inr, ◌⊎◌, arith, get_or}
use Rattle.std.specs.Prelude.{option_map, nat_lt}
use Rattle.std.proofs.lemmas.Bool.{cases_lt, false≢true}
use Rattle.std.proofs.lemmas.Option.{none-some}
use Rattle.entry.specs.declared.chunk.Chunk.{Chunk}
use Rattle.entry.proofs.Lengths.{no_chunk}
use Rattle.spans.specs.declared.seen_spans.Span.{Span}
use Rattle.spans.specs.Denotation.{covers, Placed, placed_from, newer, newest, seen_at, chunk_seen_at, Reaches}
use Rattle.spans.specs.Visible.{place_seen, place_in, AreApart, EndsAfter, TellFrom}
use Rattle.spans.proofs.Joined.{within, below, behind}

-- What stands for a span where there is none
abbrev pub no_span : Span
no_span = record { from = 0; to = 0; chunk = 0 }

-- ---- The chunk that a place names

-- A chunk stands at its place, from a first one on, and passes a test.
record StandsAt (test : Placed → Bool) (first : ℕ) (chunks : List Chunk) (placed : Placed) : Type 0 where
  low : first ≤ placed.place
  high : placed.place < first + length chunks
  chunk : get_or chunks (placed.place - first) no_chunk ≡ placed.chunk
  passes : test placed ≡ true

stands_first : (test : Placed → Bool) (first : ℕ) (x : Chunk) (xs : List Chunk) → test (record { chunk = x; place = first }) ≡ true → StandsAt test first (x ∷ xs) (record { chunk = x; place = first })
stands_first test first x xs passes = record {
  low = omega arith;
  high = omega arith;
  chunk = ap (λ i. get_or (x ∷ xs) i no_chunk) (let e : first - first ≡ 0 = omega arith in e);
  passes = passes;
}

stands_later : (test : Placed → Bool) (first : ℕ) (x : Chunk) (xs : List Chunk) (placed : Placed) → StandsAt test (first + 1) xs placed → StandsAt test first (x ∷ xs) placed
stands_later test first x xs placed at = record {
  low = omega (arith, at.low);
  high = omega (arith, at.high);
  chunk = ap (λ i. get_or (x ∷ xs) i no_chunk) (let e : placed.place - first ≡ suc (placed.place - (first + 1)) = omega (arith, at.low) in e) ∙ at.chunk;
  passes = at.passes;
}

one_of : (test : Bool) (one two placed : Placed) → Some (cond test one two) ≡ Some placed → (one ≡ placed) ⊎ (two ≡ placed)
one_of true one two placed is = inl (cc)
one_of false one two placed is = inr (cc)

top : (one : Placed) (rest : Option Placed) (placed : Placed) → Some (newer one rest) ≡ Some placed → (one ≡ placed) ⊎ (rest ≡ Some placed)
top one None placed is = inl (cc)
top one (Some two) placed is =
    elim (one_of (nat_lt two.chunk.modified one.chunk.modified) one two placed is) as (λ _. (one ≡ placed) ⊎ (Some two ≡ Some placed)) [ inl first ↦ inl first | inr second ↦ inr (ap Some second) ]

stands_more : (test : Placed → Bool) (first : ℕ) (x : Chunk) (xs : List Chunk) (placed : Placed) (passes : Bool) (rest : List Placed) → test (record { chunk = x; place = first }) ≡ passes
    → ((other : Placed) → newest rest ≡ Some other → StandsAt test (first + 1) xs other)
    → newest (cond passes (record { chunk = x; place = first } ∷ rest) rest) ≡ Some placed → StandsAt test first (x ∷ xs) placed
stands_more test first x xs placed true rest passes others is =
    elim (top (record { chunk = x; place = first }) (newest rest) placed is) as (λ _. StandsAt test first (x ∷ xs) placed) [
      | inl here ↦ subst (StandsAt test first (x ∷ xs)) here (stands_first test first x xs passes)
      | inr later ↦ stands_later test first x xs placed (others placed later)
    ]
stands_more test first x xs placed false rest passes others is = stands_later test first x xs placed (others placed is)

stands_in : (test : Placed → Bool) (first : ℕ) (xs : List Chunk) (placed : Placed) → newest (filter test (placed_from first xs)) ≡ Some placed → StandsAt test first xs placed
stands_in test first [] placed is = absurd (none-some placed is)
stands_in test first (x ∷ xs) placed is =
    stands_more test first x xs placed (test (record { chunk = x; place = first })) (filter test (placed_from (first + 1) xs)) refl (λ other other_is. stands_in test (first + 1) xs other other_is) is

-- The chunk of a place that is seen: it is in the list, is what is seen, and covers the position.
pub record IsNamed (chunks : List Chunk) (position place : ℕ) : Type 0 where
  pub inside : place < length chunks
  pub seen : chunk_seen_at chunks position ≡ Some (get_or chunks place no_chunk)
  pub covered : covers position (get_or chunks place no_chunk) ≡ true

named_one : (chunks : List Chunk) (position place : ℕ) (seen : Option Placed) → seen_at chunks position ≡ seen → option_map (λ placed. placed.place) seen ≡ Some place → IsNamed chunks position place
named_one chunks position place None seen_is is = absurd (none-some place is)
named_one chunks position place (Some placed) seen_is is =
    let at = stands_in (λ one. covers position one.chunk) 0 chunks placed seen_is in
    let place_is : placed.place ≡ place = cc in
    let chunk_is : get_or chunks place no_chunk ≡ placed.chunk =
    ap (λ i. get_or chunks i no_chunk) (let e : place ≡ placed.place - 0 = omega arith in e) ∙ at.chunk in
    record {
      inside = omega (arith, at.high);
      seen = ap (option_map (λ one. one.chunk)) seen_is ∙ ap Some (sym chunk_is);
      covered = ap (covers position) chunk_is ∙ at.passes;
    }

pub named : (chunks : List Chunk) (position place : ℕ) → place_seen chunks position ≡ Some place → IsNamed chunks position place
named chunks position place is = named_one chunks position place (seen_at chunks position) refl is

none_one : (seen : Option Placed) → option_map (λ placed. placed.place) seen ≡ None → option_map (λ placed. placed.chunk) seen ≡ None
none_one None is = refl
none_one (Some placed) is = absurd (none-some placed.place (sym is))

pub none_named : (chunks : List Chunk) (position : ℕ) → place_seen chunks position ≡ None → chunk_seen_at chunks position ≡ None
none_named chunks position is = none_one (seen_at chunks position) is

-- ---- Where a run ends

pub place_before : (spans : List Span) (p : ℕ) (d : Span) → AreApart spans → 0 < length spans → p < (get_or spans 0 d).from → place_in spans None p ≡ None
place_before [] p d apart some before = refl
place_before (x ∷ []) p d apart some before = ap (λ test. cond test (Some x.chunk) None) (below x.from x.to p before)
place_before (x ∷ y ∷ xs) p d apart some before =
    let next : p < y.from = elim apart.1 as (λ _. p < y.from) [ inl gap ↦ omega (arith, gap, apart.0) | inr touch ↦ omega (arith, touch.0, apart.0) ] in
    ap (λ test. cond test (Some x.chunk) (place_in (y ∷ xs) None p)) (below x.from x.to p before) ∙ place_before (y ∷ xs) p d apart.2 (omega arith) next

pub place_first : (spans : List Span) (p : ℕ) (d : Span) → 0 < length spans → (get_or spans 0 d).from ≤ p → p < (get_or spans 0 d).to → place_in spans None p ≡ Some (get_or spans 0 d).chunk
place_first [] p d some after before = absurd (omega (arith, some))
place_first (x ∷ xs) p d some after before = ap (λ test. cond test (Some x.chunk) (place_in xs None p)) (within x.from x.to p after before)

pub ends_after : (spans : List Span) (position : ℕ) (d : Span) → 0 < length spans → EndsAfter position spans → position < (get_or spans 0 d).to
ends_after [] position d some after = absurd (omega (arith, some))
ends_after (x ∷ xs) position d some after = after

pub covered_by : (position : ℕ) (chunk : Chunk) → covers position chunk ≡ true → (chunk.offset ≤ position) × (position < chunk.offset + chunk.size)
covered_by position chunk is =
    elim (cases_lt position chunk.offset) as (λ _. (chunk.offset ≤ position) × (position < chunk.offset + chunk.size)) [
      | inl before ↦ absurd (false≢true (sym (below chunk.offset (chunk.offset + chunk.size) position before) ∙ is))
      | inr from ↦ elim (cases_lt position (chunk.offset + chunk.size)) as (λ _. (chunk.offset ≤ position) × (position < chunk.offset + chunk.size)) [
        | inl inside ↦ (from, inside)
        | inr past ↦ absurd (false≢true (sym (behind chunk.offset (chunk.offset + chunk.size) position from past) ∙ is))
      ]
    ]

-- In a gap nothing is seen
pub gap_seen : (chunks : List Chunk) (spans : List Span) (from p : ℕ) (d : Span) → AreApart spans → TellFrom from chunks spans → 0 < length spans → from ≤ p → p < (get_or spans 0 d).from → chunk_seen_at chunks p ≡ None
gap_seen chunks spans from p d apart tell some after before = none_named chunks p (sym (tell p after) ∙ place_before spans p d apart some before)

-- In the first span its chunk is seen
pub span_seen : (chunks : List Chunk) (spans : List Span) (from p : ℕ) (d : Span) → TellFrom from chunks spans → 0 < length spans → (get_or spans 0 d).from ≤ from → from ≤ p → p < (get_or spans 0 d).to
    → IsNamed chunks p (get_or spans 0 d).chunk
span_seen chunks spans from p d tell some start after before =
    named chunks p (get_or spans 0 d).chunk (sym (tell p after) ∙ place_first spans p d some (omega arith) before)

-- and it reaches over all of it
pub span_reaches : (chunks : List Chunk) (spans : List Span) (from to : ℕ) (d : Span) → TellFrom from chunks spans → 0 < length spans → (get_or spans 0 d).from ≤ from → from < to → to ≤ (get_or spans 0 d).to
    → Reaches (Some (get_or chunks (get_or spans 0 d).chunk no_chunk)) from to
span_reaches chunks spans from to d tell some start filled within_span =
    let chunk : Chunk = get_or chunks (get_or spans 0 d).chunk no_chunk in
    let first = covered_by from chunk (span_seen chunks spans from from d tell some start (omega arith) (omega arith)).covered in
    let last = covered_by (to - 1) chunk (span_seen chunks spans from (to - 1) d tell some start (omega arith) (omega arith)).covered in
    (first.0, omega (arith, last.1, filled))
