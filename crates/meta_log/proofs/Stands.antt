-- What stands in a file, whatever its bytes are.
use Rattle.std.proofs.Common.{◌≡◌, inl, inr, ℕ, zero, suc, ◌+◌, ◌≤◌, ◌<◌, min, List, [], ◌∷◌, ◌++◌, length, take, drop, sym, ◌∙◌, ap, subst, arith, length-append, length-drop, Option, Some, None}
use Rattle.std.specs.Prelude.{IfSome, MatchOption, sum_by}
use Rattle.std.proofs.lemmas.Bool.{cases_lt}
use Rattle.std.proofs.lemmas.List.Sums.{sum_by-cons}
use Rattle.weed_base.specs.Files.{Files, content}
use Rattle.meta_log.specs.Segment.{item, items, IsCut}
use Rattle.meta_log.specs.Head.{IsNextHead}
use Rattle.meta_log.specs.Left.{among_items, batch_from, StandsAt, NoItemAt, StandFrom, IsHeadAt, BreaksAt}
use Rattle.meta_log.specs.Places.{begins_at, ReadsFrom}
use Rattle.meta_log.specs.Stretch.{Stretch, IsOf}
use Rattle.meta_log.specs.declared.head.Head.{Head}
use Rattle.meta_log.specs.declared.place.Place.{Place}
use Rattle.meta_log.specs.declared.head.Head.TheVariants.{Closed, Broken, Item}
use Rattle.meta_log.proofs.Frames.{length-framed}
use Rattle.meta_log.proofs.Scans.{payload_held}
use Rattle.meta_log.proofs.Unique.{frame_unique, tails, heads}
use Rattle.meta_log.proofs.Lefts.{not_cut}
use Rattle.meta_log.proofs.Collected.{batch_more, batch_none, batch_full}

-- at one place stands one text
pub one_stands : (bytes : List ℕ) (at : ℕ) (a b : List ℕ) → StandsAt bytes at a → StandsAt bytes at b → a ≡ b
one_stands bytes at a b one two = (frame_unique a b one.0 two.0 one.2 two.2 (tails 1 1 _ _ (sym one.1 ∙ two.1))).0

module _ (bytes : List ℕ) (gate at : ℕ) where
  pub head_at : (head : Head) → at < gate → IsNextHead (drop at bytes) head → IsHeadAt bytes gate at (among_items head)
  head_at Closed inside next = (inside, λ text stands. next.3 (sym (heads 1 next.0 _ _ (sym stands.1 ∙ next.2))))
  head_at Broken inside (inl none) = (inside, λ text stands. let e = sym stands.1 ∙ none in absurd (cc))
  head_at Broken inside (inr cut) = (inside, λ text stands. not_cut text stands.0 stands.2 (subst IsCut (tails 1 1 _ _ (sym cut.1 ∙ stands.1)) cut.2))
  head_at (Item size) inside next = (inside, (next.0, (next.1, next.2, next.4), next.3))

-- The texts of one stretch and of the next
pub stand_both : (bytes : List ℕ) (gate at later : ℕ) (texts more : List (List ℕ)) → later ≡ at + length (items texts) → StandFrom bytes gate at texts → StandFrom bytes gate later more → StandFrom bytes gate at (texts ++ more)
stand_both bytes gate at later [] more is front back = subst (λ (n : ℕ). StandFrom bytes gate n more) (omega (arith, is)) back
stand_both bytes gate at later (text ∷ texts) more is front back =
    (front.0, front.1, stand_both bytes gate (at + length (item text)) later texts more (omega (arith, is, length-append (item text) (items texts))) front.2 back)

-- what stands in a file ends within it
pub stand_within : (bytes : List ℕ) (gate at : ℕ) (texts : List (List ℕ)) → at ≤ length bytes → StandFrom bytes gate at texts → at + length (items texts) ≤ length bytes
stand_within bytes gate at [] within stand = omega (arith, within)
stand_within bytes gate at (text ∷ texts) within stand =
    let there : at + length (item text) ≤ length bytes = omega (arith, ap (λ (l : List ℕ). length l) stand.1.1, length-drop at bytes, length-append (item text) stand.1.0, length-framed text) in
    omega (arith, length-append (item text) (items texts), stand_within bytes gate (at + length (item text)) texts there stand.2)

-- one more of a batch that isn't full
pub batch_push : (most room had : ℕ) (texts : List (List ℕ)) (text : List ℕ) → length texts < room → had + sum_by length texts < most → batch_from most room had (texts ++ text ∷ []) ≡ texts ++ text ∷ []
batch_push most zero had texts text few small = absurd (omega (arith, few))
batch_push most (suc room) had [] text few small =
    batch_more most room had text [] (omega (arith, small)) ∙ ap (λ (l : List (List ℕ)). text ∷ l) (batch_none most room (had + length text))
batch_push most (suc room) had (first ∷ texts) text few small =
    let sum = sum_by-cons length first texts in
    batch_more most room had first (texts ++ text ∷ []) (omega (arith, small, sum))
    ∙ ap (λ (l : List (List ℕ)). first ∷ l) (batch_push most room (had + length first) texts text (omega (arith, few)) (omega (arith, small, sum)))

-- The same over a disk that is told or isn't.
pub told_head_at : (told : Option Files) (name : List ℕ) (gate at place : ℕ) (head result : Head) (now : Stretch) → at < gate → at ≡ place → result ≡ among_items head
    → IfSome told (λ files. IsOf (content files name) now × IsNextHead (drop place (content files name)) head) → IfSome told (λ files. IsHeadAt (content files name) gate place result)
told_head_at None name gate at place head result now inside is result_is next = tt
told_head_at (Some files) name gate at place head result now inside is result_is next =
    subst (IsHeadAt (content files name) gate place) (sym result_is) (head_at (content files name) gate place head (omega (arith, inside, is)) next.1)

pub told_at_gate : (told : Option Files) (name : List ℕ) (gate at place : ℕ) → gate ≤ at → at ≡ place → IfSome told (λ files. gate ≤ place)
told_at_gate None name gate at place past is = tt
told_at_gate (Some files) name gate at place past is = omega (arith, past, is)

pub told_closed_at : (told : Option Files) (name : List ℕ) (gate at : ℕ) (head : Head) → head ≡ Closed → IfSome told (λ files. IsHeadAt (content files name) gate at head) → IfSome told (λ files. gate ≤ at)
told_closed_at None name gate at head is here = tt
told_closed_at (Some files) name gate at head is here = subst (IsHeadAt (content files name) gate at) is here

pub told_no_item : (told : Option Files) (name : List ℕ) (gate at now : ℕ) (head : Head) → head ≡ Broken → now ≡ at → IfSome told (λ files. IsHeadAt (content files name) gate at head) → IfSome told (λ files. NoItemAt (content files name) now)
told_no_item None name gate at now head is same here = tt
told_no_item (Some files) name gate at now head is same here =
    let found = subst (IsHeadAt (content files name) gate at) is here in
    subst (λ (n : ℕ). NoItemAt (content files name) n) (sym same) found.1

-- The text that is held stands at the place of the reading.
module _ (bytes : List ℕ) (gate : ℕ) (old : Stretch) (place : ℕ) (same : old.at ≡ place) (is_of : IsOf bytes old) (size n : ℕ) (n_is : n ≡ size) (there : 5 + size ≤ length old.held) (text held : List ℕ) (held_is : held ≡ old.held) (text_is : text ≡ take n (drop 5 held)) where
  stands_there : IsHeadAt bytes gate place (Item size) → (place < gate) × StandsAt bytes place text
  stands_there here =
      let stands = here.1.1 in
      let spelled = ap (λ (m : ℕ). drop m bytes) same ∙ stands.1 in
      let is = text_is ∙ ap (λ (l : List ℕ). take n (drop 5 l)) held_is ∙ payload_held bytes old here.1.0 stands.0 size n is_of spelled here.1.2 n_is there in
      (here.0, subst (StandsAt bytes place) (sym is) stands)

pub told_stands : (told : Option Files) (name : List ℕ) (gate : ℕ) (old : Stretch) (place size n : ℕ) (head : Head) (text held : List ℕ) → head ≡ Item size → old.at ≡ place → n ≡ size → 5 + size ≤ length old.held → held ≡ old.held → text ≡ take n (drop 5 held)
    → IfSome told (λ files. IsOf (content files name) old) → IfSome told (λ files. IsHeadAt (content files name) gate place head) → IfSome told (λ files. (place < gate) × StandsAt (content files name) place text)
told_stands None name gate old place size n head text held is same n_is there held_is text_is is_of here = tt
told_stands (Some files) name gate old place size n head text held is same n_is there held_is text_is is_of here =
    stands_there (content files name) gate old place same is_of size n n_is there text held held_is text_is (subst (IsHeadAt (content files name) gate place) is here)

-- A text that was taken stands behind those before it.
pub told_stand_more : (told now : Option Files) (name : List ℕ) (gate start at : ℕ) (texts after : List (List ℕ)) (text : List ℕ) (taken : Option (List ℕ)) → now ≡ told → taken ≡ Some text → after ≡ texts ++ text ∷ [] → at ≡ start + length (items texts)
    → IfSome told (λ files. StandFrom (content files name) gate start texts) → IfSome now (λ files. MatchOption taken (gate ≤ at) (λ t. (at < gate) × StandsAt (content files name) at t)) → IfSome told (λ files. StandFrom (content files name) gate start after)
told_stand_more None now name gate start at texts after text taken same is after_is place stand stands = tt
told_stand_more (Some files) now name gate start at texts after text taken same is after_is place stand stands =
    let bytes = content files name in
    let took = subst (λ o. IfSome o (λ f. MatchOption taken (gate ≤ at) (λ t. (at < gate) × StandsAt (content f name) at t))) same stands in
    let next = subst (λ o. MatchOption o (gate ≤ at) (λ t. (at < gate) × StandsAt bytes at t)) is took in
    subst (StandFrom bytes gate start) (sym after_is) (stand_both bytes gate start at texts (text ∷ []) place stand (next.0, next.1, tt))

-- No item stands behind those that were taken.
pub told_breaks : (told now : Option Files) (name : List ℕ) (gate room most start reached at : ℕ) (texts : List (List ℕ)) → now ≡ told → reached ≡ start + length (items texts) → length texts < room → sum_by length texts < most → at < gate
    → IfSome told (λ files. StandFrom (content files name) gate start texts) → (at ≡ reached) × IfSome now (λ files. NoItemAt (content files name) at) → IfSome told (λ files. BreaksAt (content files name) gate room most start at)
told_breaks None now name gate room most start reached at texts same place few small inside stand none = tt
told_breaks (Some files) now name gate room most start reached at texts same place few small inside stand none = record {
  texts = texts;
  stand = stand;
  few = few;
  small = small;
  place = none.0 ∙ place;
  inside = inside;
  none = subst (λ o. IfSome o (λ f. NoItemAt (content f name) at)) same none.1;
}

-- a batch has no more texts than there is room
length-batch : (most room had : ℕ) (texts : List (List ℕ)) → length (batch_from most room had texts) ≤ room
length-batch most zero had texts = omega arith
length-batch most (suc room) had [] = omega arith
length-batch most (suc room) had (text ∷ texts) =
    elim (cases_lt had most) [
      | inl within ↦ omega (arith, ap (λ (l : List (List ℕ)). length l) (batch_more most room had text texts within), length-batch most room (had + length text) texts)
      | inr full ↦ omega (arith, ap (λ (l : List (List ℕ)). length l) (batch_full most (suc room) had (text ∷ texts) full))
    ]

-- A reading began at the place, and a batch was collected.
pub told_reads : (told now : Option Files) (name file : List ℕ) (gate : ℕ) (place : Place) (reading : Stretch) (room most : ℕ) (collected texts : List (List ℕ)) (next : ℕ) → name ≡ file → now ≡ told → texts ≡ collected
    → IfSome told (λ files. IsOf (content files name) reading × (reading.at ≡ min place.at (length (content files name))))
    → IfSome now (λ files. StandFrom (content files name) gate reading.at collected) → batch_from most room 0 collected ≡ collected → next ≡ reading.at + length (items collected)
    → IfSome told (λ files. ReadsFrom (content files file) gate place room texts (record { segment = 1; at = next }))
told_reads None now name file gate place reading room most collected texts next name_is same texts_is begins stand few next_is = tt
told_reads (Some files) now name file gate place reading room most collected texts next name_is same texts_is begins stand few next_is =
    let bytes = content files name in
    let here = subst (λ o. IfSome o (λ f. StandFrom (content f name) gate reading.at collected)) same stand in
    let P : List ℕ → Type 0 = λ n. ReadsFrom (content files n) gate place room texts (record { segment = 1; at = next }) in
    let at_place : StandFrom bytes gate (begins_at bytes place) collected = subst (λ (n : ℕ). StandFrom bytes gate n collected) begins.1 here in
    subst P name_is (record {
      stand = subst (StandFrom bytes gate (begins_at bytes place)) (sym texts_is) at_place;
      few = omega (arith, length-batch most room 0 collected, ap (λ (l : List (List ℕ)). length l) few, ap (λ (l : List (List ℕ)). length l) texts_is);
      next_is = ap (λ (n : ℕ). let p : Place = record { segment = 1; at = n } in p)
          (omega (arith, next_is, begins.1, ap (λ (l : List (List ℕ)). length (items l)) texts_is));
    })

pub told_breaks_from : (told now : Option Files) (name file : List ℕ) (gate : ℕ) (place : Place) (reading : Stretch) (room most at : ℕ) → name ≡ file → now ≡ told
    → IfSome told (λ files. IsOf (content files name) reading × (reading.at ≡ min place.at (length (content files name))))
    → IfSome now (λ files. BreaksAt (content files name) gate room most reading.at at) → IfSome told (λ files. BreaksAt (content files file) gate room most (begins_at (content files file) place) at)
told_breaks_from None now name file gate place reading room most at name_is same begins breaks = tt
told_breaks_from (Some files) now name file gate place reading room most at name_is same begins breaks =
    let here = subst (λ o. IfSome o (λ f. BreaksAt (content f name) gate room most reading.at at)) same breaks in
    let P : List ℕ → Type 0 = λ n. BreaksAt (content files n) gate room most (begins_at (content files n) place) at in
    subst P name_is (subst (λ (n : ℕ). BreaksAt (content files name) gate room most n at) begins.1 here)
