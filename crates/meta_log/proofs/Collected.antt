-- Texts that were collected so far.
use Rattle.std.proofs.Common.{◌≡◌, ◌⊎◌, inl, inr, ℕ, zero, suc, ◌+◌, ◌-◌, ◌≤◌, ◌<◌, List, [], ◌∷◌, ◌++◌, length, refl, sym, ◌∙◌, ap, subst, arith, append_assoc, Option, Some, None}
use Rattle.std.specs.Prelude.{IfSome}
use Rattle.std.proofs.lemmas.Bool.Decides.{nat_tests}
use Rattle.std.proofs.lemmas.List.{append-nil, length_push}
use Rattle.weed_base.specs.Files.{Files, content}
use Rattle.meta_log.specs.Left.{IsLeft, TakesNext, batch_from}

-- Of what was left at first these texts were taken, and the rest of the batch is that of what is left now.
pub record IsCollected (bytes : List ℕ) (gate at most room had : ℕ) (first texts : List (List ℕ)) : Type 0 where
  pub left : List (List ℕ)
  pub here : IsLeft bytes gate at left
  pub same : batch_from most room 0 first ≡ texts ++ batch_from most (room - length texts) had left

-- one more of the batch
pub batch_more : (most room had : ℕ) (text : List ℕ) (rest : List (List ℕ)) → had < most → batch_from most (suc room) had (text ∷ rest) ≡ text ∷ batch_from most room (had + length text) rest
batch_more most room had text rest within = grind (arith, nat_tests)

-- none more
pub batch_full : (most room had : ℕ) (rest : List (List ℕ)) → most ≤ had → batch_from most room had rest ≡ []
batch_full most zero had rest full = refl
batch_full most (suc room) had [] full = refl
batch_full most (suc room) had (text ∷ rest) full = grind (arith, nat_tests)

pub batch_none : (most room had : ℕ) → batch_from most room had [] ≡ []
batch_none most zero had = refl
batch_none most (suc room) had = refl

one_room : (room count : ℕ) → count < room → room - count ≡ suc (room - (count + 1))
one_room room count within = omega arith

module _ (bytes : List ℕ) (gate most room : ℕ) (first : List (List ℕ)) where
  pub begun : (at : ℕ) → IsLeft bytes gate at first → IsCollected bytes gate at most room 0 first []
  begun at here = record { left = first; here = here; same = ap (λ (n : ℕ). batch_from most n 0 first) (omega arith) }

  pub goes_on : (at later had : ℕ) (texts : List (List ℕ)) (text : List ℕ) → (was : IsCollected bytes gate at most room had first texts) → length texts < room → had < most
      → (rest : List (List ℕ)) → was.left ≡ text ∷ rest → IsLeft bytes gate later rest → IsCollected bytes gate later most room (had + length text) first (texts ++ text ∷ [])
  goes_on at later had texts text was within below rest is here = record {
    left = rest;
    here = here;
    same = was.same
        ∙ ap (λ (l : List (List ℕ)). texts ++ batch_from most (room - length texts) had l) is
        ∙ ap (λ (n : ℕ). texts ++ batch_from most n had (text ∷ rest)) (one_room room (length texts) within)
        ∙ ap (λ (l : List (List ℕ)). texts ++ l) (batch_more most (room - (length texts + 1)) had text rest below)
        ∙ sym (append_assoc texts (text ∷ []) (batch_from most (room - (length texts + 1)) (had + length text) rest))
        ∙ ap (λ (n : ℕ). (texts ++ text ∷ []) ++ batch_from most (room - n) (had + length text) rest) (sym (length_push texts text));
  }

  finished : (texts more : List (List ℕ)) → batch_from most room 0 first ≡ texts ++ more → more ≡ [] → texts ≡ batch_from most room 0 first
  finished texts more same none = sym (same ∙ ap (λ (l : List (List ℕ)). texts ++ l) none ∙ append-nil texts)

  -- nothing is left
  pub ends_empty : (at had : ℕ) (texts : List (List ℕ)) → (was : IsCollected bytes gate at most room had first texts) → was.left ≡ [] → texts ≡ batch_from most room 0 first
  ends_empty at had texts was none =
      finished texts _ was.same (ap (λ (l : List (List ℕ)). batch_from most (room - length texts) had l) none ∙ batch_none most (room - length texts) had)

  -- there is no more room
  pub ends_full : (at had : ℕ) (texts : List (List ℕ)) → IsCollected bytes gate at most room had first texts → (room ≤ length texts) ⊎ (most ≤ had) → texts ≡ batch_from most room 0 first
  ends_full at had texts was (inl full) =
      let none : room - length texts ≡ 0 = omega (arith, full) in
      finished texts _ was.same (ap (λ (n : ℕ). batch_from most n had was.left) none)
  ends_full at had texts was (inr full) = finished texts _ was.same (batch_full most (room - length texts) had was.left full)

-- The same over a disk that is told or isn't.
module _ (told : Option Files) (name : List ℕ) (gate start most room : ℕ) where
  abbrev pub Collects : ℕ → ℕ → List (List ℕ) → Type 0
  Collects at had texts = IfSome told (λ files. (first : List (List ℕ)) → IsLeft (content files name) gate start first → IsCollected (content files name) gate at most room had first texts)

pub told_goes_on : (told now : Option Files) (name : List ℕ) (gate start most room at later had more : ℕ) (texts after : List (List ℕ)) (text : List ℕ) (taken : Option (List ℕ)) → now ≡ told → taken ≡ Some text → more ≡ had + length text → after ≡ texts ++ text ∷ [] → length texts < room → had < most
    → Collects told name gate start most room at had texts → IfSome now (λ files. (left : List (List ℕ)) → IsLeft (content files name) gate at left → TakesNext (content files name) gate later left taken)
    → Collects told name gate start most room later more after
told_goes_on None now name gate start most room at later had more texts after text taken same is more_is after_is within below was takes = tt
told_goes_on (Some files) now name gate start most room at later had more texts after text taken same is more_is after_is within below was takes = λ first here.
    let bytes = content files name in
    let so_far = was first here in
    let took = subst (λ o. IfSome o (λ f. (left : List (List ℕ)) → IsLeft (content f name) gate at left → TakesNext (content f name) gate later left taken)) same takes in
    let next = subst (TakesNext bytes gate later so_far.left) is (took so_far.left so_far.here) in
    let one = goes_on bytes gate most room first at later had texts text so_far within below next.0 next.1 next.2 in
    let P : List (List ℕ) → Type 0 = λ l. IsCollected bytes gate later most room more first l in
    subst P (sym after_is) (subst (λ (n : ℕ). IsCollected bytes gate later most room n first (texts ++ text ∷ [])) (sym more_is) one)

pub told_ends_full : (told : Option Files) (name : List ℕ) (gate start most room at had : ℕ) (texts : List (List ℕ)) → Collects told name gate start most room at had texts → (room ≤ length texts) ⊎ (most ≤ had)
    → IfSome told (λ files. (left : List (List ℕ)) → IsLeft (content files name) gate start left → texts ≡ batch_from most room 0 left)
told_ends_full None name gate start most room at had texts was full = tt
told_ends_full (Some files) name gate start most room at had texts was full = λ first here. ends_full (content files name) gate most room first at had texts (was first here) full

pub told_ends_empty : (told now : Option Files) (name : List ℕ) (gate start most room at later had : ℕ) (texts : List (List ℕ)) (taken : Option (List ℕ)) → now ≡ told → taken ≡ None → Collects told name gate start most room at had texts
    → IfSome now (λ files. (left : List (List ℕ)) → IsLeft (content files name) gate at left → TakesNext (content files name) gate later left taken)
    → IfSome told (λ files. (left : List (List ℕ)) → IsLeft (content files name) gate start left → texts ≡ batch_from most room 0 left)
told_ends_empty None now name gate start most room at later had texts taken same is was takes = tt
told_ends_empty (Some files) now name gate start most room at later had texts taken same is was takes = λ first here.
    let bytes = content files name in
    let so_far = was first here in
    let took = subst (λ o. IfSome o (λ f. (left : List (List ℕ)) → IsLeft (content f name) gate at left → TakesNext (content f name) gate later left taken)) same takes in
    ends_empty bytes gate most room first at had texts so_far (subst (TakesNext bytes gate later so_far.left) is (took so_far.left so_far.here))

pub told_refutes : (told now : Option Files) (name : List ℕ) (gate start most room at had : ℕ) (texts : List (List ℕ)) → now ≡ told → Collects told name gate start most room at had texts
    → IfSome now (λ files. (left : List (List ℕ)) → ¬ IsLeft (content files name) gate at left) → IfSome told (λ files. (left : List (List ℕ)) → ¬ IsLeft (content files name) gate start left)
told_refutes None now name gate start most room at had texts same was refuted = tt
told_refutes (Some files) now name gate start most room at had texts same was refuted = λ first here.
    let so_far = was first here in
    let none = subst (λ o. IfSome o (λ f. (left : List (List ℕ)) → ¬ IsLeft (content f name) gate at left)) same refuted in
    none so_far.left so_far.here
