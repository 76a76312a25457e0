-- Spans, one behind another.
use Rattle.std.proofs.Common.{◌≡◌, ◌≢◌, ℕ, ◌<◌, ◌≤◌, max, Bool, true, false, cond, List, [], ◌∷◌, ◌++◌, length, drop, Option, None, Some, refl, sym, ap, ◌∙◌, inl, inr, arith}
use Rattle.std.specs.Prelude.{nat_lt, nat_le, ◌&&◌}
use Rattle.std.proofs.lemmas.Bool.{lt-ltb, le-ltb, lt-leb, le-leb, cases_lt}
use Rattle.std.proofs.lemmas.List.{drop_all}
use Rattle.spans.specs.declared.stretch.Stretch.{Stretch}
use Rattle.spans.specs.declared.seen_spans.Span.{Span}
use Rattle.spans.specs.Stretches.{seen_in}
use Rattle.spans.specs.Visible.{place_in, IsApart, AreApart, EndBy, place_of, Grows, AreJoined}

-- ---- Which span has a position

pub within : (from to p : ℕ) → from ≤ p → p < to → nat_le from p && nat_lt p to ≡ true
within from to p after before = rw (le-leb from p after, lt-ltb p to before) refl

pub below : (from to p : ℕ) → p < from → nat_le from p && nat_lt p to ≡ false
below from to p before = rw (lt-leb from p before) refl

pub behind : (from to p : ℕ) → from ≤ p → to ≤ p → nat_le from p && nat_lt p to ≡ false
behind from to p after past = rw (le-leb from p after, le-ltb p to past) refl

place_in-append : (xs ys : List Span) (past : Option ℕ) (p : ℕ) → place_in (xs ++ ys) past p ≡ place_in xs (place_in ys past p) p
place_in-append [] ys past p = refl
place_in-append (x ∷ xs) ys past p = ap (cond (nat_le x.from p && nat_lt p x.to) (Some x.chunk)) (place_in-append xs ys past p)

place_behind : (xs : List Span) (past : Option ℕ) (at p : ℕ) → EndBy at xs → at ≤ p → place_in xs past p ≡ past
place_behind [] past at p ended after = refl
place_behind (x ∷ xs) past at p ended after =
    let out : nat_le x.from p && nat_lt p x.to ≡ false =
    elim (cases_lt p x.from) [ inl before ↦ below x.from x.to p before | inr from ↦ behind x.from x.to p from (omega (arith, ended.0)) ] in
    ap (λ test. cond test (Some x.chunk) (place_in xs past p)) out ∙ place_behind xs past at p ended.1 after

ends_more : (xs : List Span) (at later : ℕ) → at ≤ later → EndBy at xs → EndBy later xs
ends_more [] at later more ended = tt
ends_more (x ∷ xs) at later more ended = (omega (arith, ended.0), ends_more xs at later more ended.1)

ends-append : (xs ys : List Span) (at : ℕ) → EndBy at xs → EndBy at ys → EndBy at (xs ++ ys)
ends-append [] ys at first second = second
ends-append (x ∷ xs) ys at first second = (first.0, ends-append xs ys at first.1 second)

ends_front : (xs ys : List Span) (at : ℕ) → EndBy at (xs ++ ys) → EndBy at xs
ends_front [] ys at ended = tt
ends_front (x ∷ xs) ys at ended = (ended.0, ends_front xs ys at ended.1)

ends_last : (xs : List Span) (last : Span) (at : ℕ) → EndBy at (xs ++ last ∷ []) → last.to ≤ at
ends_last [] last at ended = ended.0
ends_last (x ∷ xs) last at ended = ends_last xs last at ended.1

-- ---- Spans that stand apart

filled_last : (xs : List Span) (last : Span) → AreApart (xs ++ last ∷ []) → last.from < last.to
filled_last [] last apart = apart
filled_last (x ∷ []) last apart = apart.2
filled_last (x ∷ y ∷ xs) last apart = filled_last (y ∷ xs) last apart.2

apart_longer : (xs : List Span) (last longer : Span) → longer.from ≡ last.from → longer.chunk ≡ last.chunk → longer.from < longer.to → AreApart (xs ++ last ∷ []) → AreApart (xs ++ longer ∷ [])
apart_longer [] last longer from_is chunk_is filled apart = filled
apart_longer (x ∷ []) last longer from_is chunk_is filled apart =
    (apart.0, elim apart.1 as (λ _. IsApart x longer) [ inl gap ↦ inl (omega arith) | inr touch ↦ inr (touch.0 ∙ sym from_is, λ same. touch.1 (same ∙ chunk_is)) ], filled)
apart_longer (x ∷ y ∷ xs) last longer from_is chunk_is filled apart = (apart.0, apart.1, apart_longer (y ∷ xs) last longer from_is chunk_is filled apart.2)

apart_more : (xs : List Span) (last next : Span) → IsApart last next → next.from < next.to → AreApart (xs ++ last ∷ []) → AreApart ((xs ++ last ∷ []) ++ next ∷ [])
apart_more [] last next between filled apart = (apart, between, filled)
apart_more (x ∷ []) last next between filled apart = (apart.0, apart.1, (apart.2, between, filled))
apart_more (x ∷ y ∷ xs) last next between filled apart = (apart.0, apart.1, apart_more (y ∷ xs) last next between filled apart.2)

-- ---- One span more

-- behind the others
places_more : (xs : List Span) (span : Span) (p : ℕ) → EndBy span.from xs
    → place_in (xs ++ span ∷ []) None p ≡ cond (nat_le span.from p && nat_lt p span.to) (Some span.chunk) (place_in xs None p)
places_more xs span p ended =
    place_in-append xs (span ∷ []) None p
    ∙ elim (cases_lt p span.from) [
      | inl before ↦ rw (below span.from span.to p before) refl
      | inr after ↦ place_behind xs (cond (nat_le span.from p && nat_lt p span.to) (Some span.chunk) None) span.from p ended after
          ∙ ap (cond (nat_le span.from p && nat_lt p span.to) (Some span.chunk)) (sym (place_behind xs None span.from p ended after))
    ]

pub grows_more : (xs : List Span) (last span : Span) → span.from < span.to → AreApart (xs ++ last ∷ []) → EndBy span.from (xs ++ last ∷ []) → (last.to ≡ span.from → last.chunk ≢ span.chunk)
    → Grows span.from span.to (Some span.chunk) (xs ++ last ∷ []) ((xs ++ last ∷ []) ++ span ∷ [])
grows_more xs last span filled apart ended other =
    let by : last.to ≤ span.from = ends_last xs last span.from ended in
    let between : IsApart last span =
    elim (cases_lt last.to span.from) as (λ _. IsApart last span) [ inl gap ↦ inl gap | inr touch ↦ inr (omega arith, other (omega arith)) ] in
    record {
      apart = apart_more xs last span between filled apart;
      ended = ends-append (xs ++ last ∷ []) (span ∷ []) (max span.from span.to) (ends_more (xs ++ last ∷ []) span.from (max span.from span.to) (omega arith) ended) (omega (arith, filled), tt);
      places = λ p. places_more (xs ++ last ∷ []) span p ended;
    }

-- put to the last one
longer_before : (last longer span : Span) (p : ℕ) → p < span.from → last.to ≡ span.from → last.chunk ≡ span.chunk → span.from < span.to
    → longer.from ≡ last.from → longer.to ≡ span.to → longer.chunk ≡ span.chunk
    → cond (nat_le longer.from p && nat_lt p longer.to) (Some longer.chunk) None ≡ cond (nat_le last.from p && nat_lt p last.to) (Some last.chunk) None
longer_before last longer span p before touch same filled from_is to_is chunk_is =
    elim (cases_lt p last.from) as (λ _. cond (nat_le longer.from p && nat_lt p longer.to) (Some longer.chunk) None ≡ cond (nat_le last.from p && nat_lt p last.to) (Some last.chunk) None) [
      | inl early ↦ ap (λ test. cond test (Some longer.chunk) None) (below longer.from longer.to p (omega arith)) ∙ sym (ap (λ test. cond test (Some last.chunk) None) (below last.from last.to p early))
      | inr here ↦ ap (λ test. cond test (Some longer.chunk) None) (within longer.from longer.to p (omega arith) (omega arith)) ∙ ap Some (chunk_is ∙ sym same)
          ∙ sym (ap (λ test. cond test (Some last.chunk) None) (within last.from last.to p here (omega arith)))
    ]

longer_after : (last longer span : Span) (p : ℕ) → span.from ≤ p → last.from < last.to → last.to ≡ span.from → longer.from ≡ last.from → longer.to ≡ span.to → longer.chunk ≡ span.chunk
    → cond (nat_le longer.from p && nat_lt p longer.to) (Some longer.chunk) None
    ≡ cond (nat_le span.from p && nat_lt p span.to) (Some span.chunk) (cond (nat_le last.from p && nat_lt p last.to) (Some last.chunk) None)
longer_after last longer span p after last_filled touch from_is to_is chunk_is =
    let out : cond (nat_le last.from p && nat_lt p last.to) (Some last.chunk) None ≡ None =
    ap (λ test. cond test (Some last.chunk) None) (behind last.from last.to p (omega arith) (omega arith)) in
    elim (cases_lt p span.to) as (λ _. cond (nat_le longer.from p && nat_lt p longer.to) (Some longer.chunk) None
    ≡ cond (nat_le span.from p && nat_lt p span.to) (Some span.chunk) (cond (nat_le last.from p && nat_lt p last.to) (Some last.chunk) None)) [
      | inl before ↦ ap (λ test. cond test (Some longer.chunk) None) (within longer.from longer.to p (omega arith) (omega arith)) ∙ ap Some chunk_is
          ∙ sym (ap (λ test. cond test (Some span.chunk) (cond (nat_le last.from p && nat_lt p last.to) (Some last.chunk) None)) (within span.from span.to p after before))
      | inr past ↦ ap (λ test. cond test (Some longer.chunk) None) (behind longer.from longer.to p (omega arith) (omega arith)) ∙ sym out
          ∙ sym (ap (λ test. cond test (Some span.chunk) (cond (nat_le last.from p && nat_lt p last.to) (Some last.chunk) None)) (behind span.from span.to p after past))
    ]

places_longer : (xs : List Span) (last longer span : Span) (p : ℕ) → span.from < span.to → last.from < last.to → last.to ≡ span.from → last.chunk ≡ span.chunk
    → longer.from ≡ last.from → longer.to ≡ span.to → longer.chunk ≡ span.chunk → EndBy span.from xs
    → place_in (xs ++ longer ∷ []) None p ≡ cond (nat_le span.from p && nat_lt p span.to) (Some span.chunk) (place_in (xs ++ last ∷ []) None p)
places_longer xs last longer span p filled last_filled touch same from_is to_is chunk_is ended =
    let mine : Option ℕ = cond (nat_le longer.from p && nat_lt p longer.to) (Some longer.chunk) None in
    let older : Option ℕ = cond (nat_le last.from p && nat_lt p last.to) (Some last.chunk) None in
    place_in-append xs (longer ∷ []) None p
    ∙ elim (cases_lt p span.from) as (λ _. place_in xs mine p ≡ cond (nat_le span.from p && nat_lt p span.to) (Some span.chunk) (place_in (xs ++ last ∷ []) None p)) [
      | inl before ↦ ap (λ o. place_in xs o p) (longer_before last longer span p before touch same filled from_is to_is chunk_is) ∙ sym (place_in-append xs (last ∷ []) None p)
          ∙ sym (ap (λ test. cond test (Some span.chunk) (place_in (xs ++ last ∷ []) None p)) (below span.from span.to p before))
      | inr after ↦ place_behind xs mine span.from p ended after ∙ longer_after last longer span p after last_filled touch from_is to_is chunk_is
          ∙ ap (cond (nat_le span.from p && nat_lt p span.to) (Some span.chunk)) (sym (place_in-append xs (last ∷ []) None p ∙ place_behind xs older span.from p ended after))
    ]

pub grows_longer : (xs : List Span) (last longer span : Span) → span.from < span.to → last.to ≡ span.from → last.chunk ≡ span.chunk
    → longer.from ≡ last.from → longer.to ≡ span.to → longer.chunk ≡ span.chunk → AreApart (xs ++ last ∷ []) → EndBy span.from (xs ++ last ∷ [])
    → Grows span.from span.to (Some span.chunk) (xs ++ last ∷ []) (xs ++ longer ∷ [])
grows_longer xs last longer span filled touch same from_is to_is chunk_is apart ended =
    let last_filled : last.from < last.to = filled_last xs last apart in
    let front : EndBy span.from xs = ends_front xs (last ∷ []) span.from ended in
    record {
      apart = apart_longer xs last longer from_is (chunk_is ∙ sym same) (omega arith) apart;
      ended = ends-append xs (longer ∷ []) (max span.from span.to) (ends_more xs span.from (max span.from span.to) (omega arith) front) (omega arith, tt);
      places = λ p. places_longer xs last longer span p filled last_filled touch same from_is to_is chunk_is front;
    }

none_of : (test : Bool) → cond {A = Option ℕ} test None None ≡ None
none_of true = refl
none_of false = refl

-- nothing
pub grows_none : (xs : List Span) (at to : ℕ) → AreApart xs → EndBy at xs → Grows at to None xs xs
grows_none xs at to apart ended = record {
  apart = apart;
  ended = ends_more xs at (max at to) (omega arith) ended;
  places = λ p. elim (cases_lt p at) as (λ _. place_in xs None p ≡ cond (nat_le at p && nat_lt p to) None (place_in xs None p)) [
    | inl before ↦ rw (below at to p before) refl
    | inr after ↦ place_behind xs None at p ended after ∙ sym (ap (cond (nat_le at p && nat_lt p to) None) (place_behind xs None at p ended after) ∙ none_of (nat_le at p && nat_lt p to))
  ];
}

-- ---- A list of stretches

pub joined_all : (stretches : List Stretch) (spans : List Span) (i at : ℕ) → length stretches ≤ i → AreApart spans → EndBy at spans
    → ((p : ℕ) → at ≤ p → seen_in (drop i stretches) None p ≡ seen_in stretches None p) → ((p : ℕ) → p < at → place_in spans None p ≡ place_of (seen_in stretches None p))
    → AreJoined stretches spans
joined_all stretches spans i at all apart ended rest so_far = record {
  apart = apart;
  seen = λ p. elim (cases_lt p at) as (λ _. place_in spans None p ≡ place_of (seen_in stretches None p)) [
    | inl before ↦ so_far p before
    | inr after ↦ place_behind spans None at p ended after ∙ ap (λ xs. place_of (seen_in xs None p)) (sym (drop_all i stretches all)) ∙ ap place_of (rest p after)
  ];
}
