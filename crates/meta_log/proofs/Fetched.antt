-- What is read of a log from a place on.
use Rattle.std.proofs.Common.{◌≡◌, ◌⊎◌, inl, inr, ℕ, zero, suc, ◌+◌, ◌≤◌, ◌<◌, min, List, [], ◌∷◌, ◌++◌, length, take, drop, refl, sym, ◌∙◌, ap, subst, arith, append_assoc, length-append, take-append-drop, Option, Some, None}
use Rattle.std.specs.Prelude.{IfSome, All, sum_by}
use Rattle.std.proofs.lemmas.Bool.Decides.{nat_tests}
use Rattle.std.proofs.lemmas.List.{drop_at}
use Rattle.std.proofs.lemmas.List.Sums.{sum_by-cons}
use Rattle.std.proofs.lemmas.List.Elements.{All-drop}
use Rattle.weed_base.specs.Files.{Files, content}
use Rattle.meta_log.specs.Segment.{IsShort, item, items}
use Rattle.meta_log.specs.LogText.{segment_name}
use Rattle.meta_log.specs.Stretch.{Stretch, IsOf}
use Rattle.meta_log.specs.Held.{HoldsPayloads}
use Rattle.meta_log.specs.Left.{IsLeft, batch_from, FillsOrEnds}
use Rattle.meta_log.specs.Places.{place_behind, HoldsPlace, IsNext}
use Rattle.meta_log.specs.declared.gate_log.GateLog.{GateLog}
use Rattle.meta_log.specs.declared.place.Place.{Place}
use Rattle.meta_log.proofs.Frames.{items-append, length-framed}

-- behind some payloads of the log the others are left
pub left_of_held : (files : Files) (log : GateLog) (before past : List (List ℕ)) → HoldsPayloads files log (before ++ past) → IsLeft (content files (segment_name log.stem 1)) log.gate (length (items before)) past
left_of_held files log before past held =
    let segment = held.segment.segment in
    let rest = segment.gate ∷ segment.rest in
    record {
      tail = rest;
      spelled = ap (λ (l : List ℕ). drop (length (items before)) l) (segment.spelled ∙ ap (λ (l : List ℕ). l ++ rest) (items-append before past) ∙ append_assoc (items before) (items past) rest)
          ∙ drop_at (items before) (items past ++ rest) (length (items before)) refl;
      place = held.gate ∙ ap length (items-append before past) ∙ length-append (items before) (items past);
      short = subst (All IsShort) (drop_at before past (length before) refl) (All-drop IsShort (length before) (before ++ past) segment.short);
    }

-- a bound that isn't reached bounds nothing
pub batch_all : (most room had : ℕ) (left : List (List ℕ)) → had + length (items left) < most → batch_from most room had left ≡ take room left
batch_all most zero had left within = refl
batch_all most (suc room) had [] within = refl
batch_all most (suc room) had (text ∷ left) within =
    let long = length-append (item text) (items left) in
    let rest : batch_from most room (had + length text) left ≡ take room left = batch_all most room (had + length text) left (omega (arith, within, long, length-framed text)) in
    let below : had < most = omega (arith, within) in
    one_more most room had text left below ∙ ap (λ (l : List (List ℕ)). text ∷ l) rest
  where
    one_more : (most room had : ℕ) (text : List ℕ) (left : List (List ℕ)) → had < most → batch_from most (suc room) had (text ∷ left) ≡ text ∷ batch_from most room (had + length text) left
    one_more most room had text left below = grind (arith, nat_tests)

place_is : (files : Files) (log : GateLog) (before past : List (List ℕ)) (place : Place) (at : ℕ) → HoldsPayloads files log (before ++ past) → place ≡ place_behind before
    → at ≡ min place.at (length (content files (segment_name log.stem 1))) → at ≡ length (items before)
place_is files log before past place at held behind is =
    let segment = held.segment.segment in
    let there : place.at ≡ length (items before) = ap (λ (p : Place). p.at) behind in
    let long = ap length (segment.spelled ∙ ap (λ (l : List ℕ). l ++ segment.gate ∷ segment.rest) (items-append before past)) in
    omega (arith, is, there, long, length-append (items before ++ items past) (segment.gate ∷ segment.rest), length-append (items before) (items past))

left_at : (files : Files) (log : GateLog) (before past : List (List ℕ)) (at : ℕ) → HoldsPayloads files log (before ++ past) → at ≡ length (items before) → IsLeft (content files (segment_name log.stem 1)) log.gate at past
left_at files log before past at held is =
    subst (λ (n : ℕ). IsLeft (content files (segment_name log.stem 1)) log.gate n past) (sym is) (left_of_held files log before past held)

-- A reading began at the place, and a batch with no bound on its bytes was collected.
module _ (name : List ℕ) (log : GateLog) (name_is : name ≡ segment_name log.stem 1) (place : Place) (reading : Stretch) (room most : ℕ) (below : log.gate < most) where
  Begins : Files → Type 0
  Begins files = IsOf (content files name) reading × (reading.at ≡ min place.at (length (content files name)))

  next_in : (files : Files) (texts : List (List ℕ)) (next : ℕ) → reading.at ≡ min place.at (length (content files name))
      → ((left : List (List ℕ)) → IsLeft (content files name) log.gate reading.at left → texts ≡ batch_from most room 0 left) → next ≡ reading.at + length (items texts)
      → (before past : List (List ℕ)) → HoldsPayloads files log (before ++ past) → place ≡ place_behind before → (texts ≡ take room past) × (record { segment = 1; at = next } ≡ place_behind (before ++ take room past))
  next_in files texts next at_is collected next_is before past held behind =
      let at_place = place_is files log before past place reading.at held behind (at_is ∙ ap (λ (n : List ℕ). min place.at (length (content files n))) name_is) in
      let here = subst (λ (n : List ℕ). IsLeft (content files n) log.gate reading.at past) (sym name_is) (left_at files log before past reading.at held at_place) in
      let bounded : 0 + length (items past) < most = omega (arith, here.place, below) in
      let taken = collected past here ∙ batch_all most room 0 past bounded in
      let end : next ≡ length (items (before ++ take room past)) =
      omega (arith, next_is, at_place, ap (λ (l : List (List ℕ)). length (items l)) taken, ap length (items-append before (take room past)), length-append (items before) (items (take room past))) in
      (taken, ap (λ (n : ℕ). let p : Place = record { segment = 1; at = n } in p) end)

pub told_next : (told now : Option Files) (name : List ℕ) (log : GateLog) → name ≡ segment_name log.stem 1 → (place : Place) (reading : Stretch) (room most : ℕ) → log.gate < most → (collected texts : List (List ℕ)) (next : ℕ) → now ≡ told → texts ≡ collected
    → IfSome told (λ files. IsOf (content files name) reading × (reading.at ≡ min place.at (length (content files name))))
    → IfSome now (λ files. (left : List (List ℕ)) → IsLeft (content files name) log.gate reading.at left → collected ≡ batch_from most room 0 left) → next ≡ reading.at + length (items collected)
    → IsNext told log place room texts (record { segment = 1; at = next })
told_next None now name log name_is place reading room most below collected texts next same texts_is begins batch next_is = tt
told_next (Some files) now name log name_is place reading room most below collected texts next same texts_is begins batch next_is = λ before past held behind.
    let here = subst (λ o. IfSome o (λ f. (left : List (List ℕ)) → IsLeft (content f name) log.gate reading.at left → collected ≡ batch_from most room 0 left)) same batch in
    let found = next_in name log name_is place reading room most below files collected next begins.1 here next_is before past held behind in
    (texts_is ∙ found.0, found.1)

-- Of a disk that holds the place no damage is told.
pub told_undamaged : (told now : Option Files) (name : List ℕ) (log : GateLog) → name ≡ segment_name log.stem 1 → (place : Place) (reading : Stretch) → now ≡ told → HoldsPlace told log place
    → IfSome told (λ files. IsOf (content files name) reading × (reading.at ≡ min place.at (length (content files name))))
    → IfSome now (λ files. (left : List (List ℕ)) → ¬ IsLeft (content files name) log.gate reading.at left) → told ≡ None
told_undamaged None now name log name_is place reading same holds begins refuted = refl
told_undamaged (Some files) now name log name_is place reading same holds begins refuted =
    let none = subst (λ o. IfSome o (λ f. (left : List (List ℕ)) → ¬ IsLeft (content f name) log.gate reading.at left)) same refuted in
    let at_place = place_is files log holds.0 holds.1 place reading.at holds.2 holds.3 (begins.1 ∙ ap (λ (n : List ℕ). min place.at (length (content files n))) name_is) in
    let here = left_at files log holds.0 holds.1 reading.at holds.2 at_place in
    absurd (none holds.1 (subst (λ (n : List ℕ). IsLeft (content files n) log.gate reading.at holds.1) (sym name_is) here))

-- all of it is left at the start
pub left_at_start : (files : Files) (log : GateLog) (payloads : List (List ℕ)) (at : ℕ) → HoldsPayloads files log payloads → at ≡ 0 → IsLeft (content files (segment_name log.stem 1)) log.gate at payloads
left_at_start files log payloads at held is = left_at files log [] payloads at held is

-- The next place lies behind payloads of the log too.
pub told_behind : (told now : Option Files) (log : GateLog) (place next : Place) (room : ℕ) (texts : List (List ℕ)) → now ≡ told → HoldsPlace told log place → IsNext told log place room texts next → HoldsPlace now log next
told_behind None now log place next room texts same holds is_next = subst (λ o. HoldsPlace o log next) (sym same) tt
told_behind (Some files) now log place next room texts same holds is_next =
    let found = is_next holds.0 holds.1 holds.2 holds.3 in
    let whole : holds.0 ++ holds.1 ≡ (holds.0 ++ take room holds.1) ++ drop room holds.1 =
    ap (λ (l : List (List ℕ)). holds.0 ++ l) (sym (take-append-drop room holds.1)) ∙ sym (append_assoc holds.0 (take room holds.1) (drop room holds.1)) in
    subst (λ o. HoldsPlace o log next) (sym same) (holds.0 ++ take room holds.1, drop room holds.1, subst (HoldsPayloads files log) whole holds.2, found.1)

-- the items of texts are longer than the texts
bytes_within : (texts : List (List ℕ)) → sum_by length texts ≤ length (items texts)
bytes_within [] = omega arith
bytes_within (text ∷ texts) = omega (arith, bytes_within texts, sum_by-cons length text texts, length-append (item text) (items texts), length-framed text)

items_past : (texts : List (List ℕ)) (most : ℕ) → 0 < most → most ≤ sum_by length texts → most + 5 ≤ length (items texts)
items_past [] most some reach = absurd (omega (arith, some, reach))
items_past (text ∷ texts) most some reach = omega (arith, reach, bytes_within texts, sum_by-cons length text texts, length-append (item text) (items texts), length-framed text)

-- Where no file is so long that they reach the bound, they fill the room, or the gate is reached.
pub whole_by_room : (room most gate at begun next : ℕ) (collected texts : List (List ℕ)) → texts ≡ collected → next ≡ at → at ≡ begun + length (items collected) → 0 < most → next < most + 5
    → FillsOrEnds room most gate at collected → (length texts ≡ room) ⊎ (gate ≤ next)
whole_by_room room most gate at begun next collected texts same next_is at_is some below (inl full) = inl (ap length same ∙ full)
whole_by_room room most gate at begun next collected texts same next_is at_is some below (inr (inl reach)) = absurd (omega (arith, items_past collected most some reach, at_is, next_is, below))
whole_by_room room most gate at begun next collected texts same next_is at_is some below (inr (inr end)) = inr (omega (arith, end, next_is))
