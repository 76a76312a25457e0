-- Lists of which some item, or each, has a property, and what changes of one item keep of it.
use Rattle.std.proofs.Common.{◌≡◌, ◌≢◌, ◌⊎◌, ℕ, zero, suc, ◌+◌, ◌<◌, Bool, true, false, cond, List, [], ◌∷◌, ◌++◌, length, get_or, set, sym, ◌∙◌, inl, inr, subst, refl, arith}
use Rattle.std.proofs.lemmas.Bool.{cases_lt}
use Rattle.std.proofs.lemmas.Grind.{common_steps, get_or-set_at}
use Rattle.std.proofs.lemmas.List.{get_or-set_other, length-set}
use Rattle.std.specs.List.{Any, AllZip, filter}

-- one of two places, or the same
pub same_or_other : (i j : ℕ) → (i ≡ j) ⊎ (i ≢ j)
same_or_other i j =
    elim (cases_lt i j) [
      | inl below ↦ inr (λ same. omega (arith, below, same))
      | inr above ↦ elim (cases_lt j i) [ inl below ↦ inr (λ same. omega (arith, below, same)) | inr least ↦ inl (omega (arith, above, least)) ]
    ]

pub below_other : (k i : ℕ) → k < i + 1 → k ≢ i → k < i
below_other k i below other = elim (cases_lt k i) [ inl less ↦ less | inr more ↦ absurd (other (omega (arith, below, more))) ]

-- what a filter by a test that it passes keeps
pub any_filter : {X : Type 0} (P : X → Type 0) (test : X → Bool) (passes : (x : X) → P x → test x ≡ true) (xs : List X) → Any P xs → Any P (filter test xs)
any_filter P test passes [] (k, x, below, is, holds) = absurd (omega (arith, below))
any_filter P test passes (y ∷ ys) (zero, x, below, is, holds) =
    let held : P y = subst P (sym is) holds in
    rw (passes y held) (0, y, grind (arith, common_steps), refl, held)
any_filter P test passes (y ∷ ys) (suc k, x, below, is, holds) =
    let (j, z, low, same, kept) = any_filter P test passes ys (k, x, omega (arith, below), is, holds) in
    elim (test y) as (λ b. Any P (cond b (y ∷ filter test ys) (filter test ys))) [
      | true ↦ (suc j, z, omega (arith, low), same, kept)
      | false ↦ (j, z, low, same, kept)
    ]

-- the relation holds of each two in the same place of two lists of one length
abbrev pub EachPair : {X : Type 0} → (X → X → Type 0) → List X → List X → Type 0
EachPair {X} R old new = (length new ≡ length old) × ((k : ℕ) (d : X) → k < length old → R (get_or old k d) (get_or new k d))

pub zip_of_places : {X : Type 0} (R : X → X → Type 0) (old new : List X) → EachPair R old new → AllZip R old new
zip_of_places R [] [] pairs = tt
zip_of_places R [] (y ∷ ys) pairs = absurd (omega (arith, pairs.0))
zip_of_places R (x ∷ xs) [] pairs = absurd (omega (arith, pairs.0))
zip_of_places R (x ∷ xs) (y ∷ ys) pairs =
    (pairs.1 0 x (omega arith), zip_of_places R xs ys (omega (arith, pairs.0), λ k d below. pairs.1 (suc k) d (omega (arith, below))))

-- one of a list is its first, or among the others
first_or_later : {X : Type 0} (P : X → Type 0) (first : X) (others : List X) → Any P (first ∷ others) → P first ⊎ Any P others
first_or_later P first others (zero, x, below, is, holds) = inl (subst P (sym is) holds)
first_or_later P first others (suc k, x, below, is, holds) = inr (k, x, omega (arith, below), is, holds)

any_first : {X : Type 0} (P : X → Type 0) (first : X) (others : List X) → P first → Any P (first ∷ others)
any_first P first others holds = (0, first, grind (arith, common_steps), refl, holds)

any_later : {X : Type 0} (P : X → Type 0) (first : X) (others : List X) → Any P others → Any P (first ∷ others)
any_later P first others (k, x, below, is, holds) = (suc k, x, omega (arith, below), is, holds)

-- what passed a test was there
pub filter_any : {X : Type 0} (P : X → Type 0) (test : X → Bool) (xs : List X) → Any P (filter test xs) → Any P xs
filter_any P test [] (k, x, below, is, holds) = absurd (omega (arith, below))
filter_any {X} P test (y ∷ ys) found =
    let was : Any P (filter test ys) → Any P (y ∷ ys) = λ later. any_later P y ys (filter_any P test ys later) in
    let all : (b : Bool) → Any P (cond b (y ∷ filter test ys) (filter test ys)) → Any P (y ∷ ys) =
    λ b. elim b as (λ b. Any P (cond b (y ∷ filter test ys) (filter test ys)) → Any P (y ∷ ys)) [
      | true ↦ λ some. elim (first_or_later P y (filter test ys) some) [ inl first ↦ any_first P y ys first | inr later ↦ was later ]
      | false ↦ was
    ] in all (test y) found

-- one of a list with one more was there, or it is that one
pub push_any : {X : Type 0} (P : X → Type 0) (xs : List X) (last : X) → Any P (xs ++ last ∷ []) → Any P xs ⊎ P last
push_any P [] last found = elim (first_or_later P last [] found) [ inl first ↦ inr first | inr (k, x, below, is, holds) ↦ absurd (omega (arith, below)) ]
push_any P (x ∷ xs) last found =
    elim (first_or_later P x (xs ++ last ∷ []) found) [
      | inl first ↦ inl (any_first P x xs first)
      | inr later ↦ elim (push_any P xs last later) [ inl there ↦ inl (any_later P x xs there) | inr new ↦ inr new ]
    ]

-- one of a list with another item at a place was there, or this holds, where the item before it there is so too, or this holds
pub set_any_or : {X : Type 0} (P : X → Type 0) (Q : Type 0) (xs : List X) (place : ℕ) (before new : X) → place < length xs → before ≡ get_or xs place before → (P new → P before ⊎ Q) → Any P (set xs place new) → Any P xs ⊎ Q
set_any_or P Q xs place before new within was back (k, x, below, is, holds) =
    elim (same_or_other k place) [
      | inl here ↦
          let stands : new ≡ x = sym (get_or-set_at xs place k new x here within) ∙ is in
          elim (back (subst P (sym stands) holds)) [ inl stood ↦ inl (place, before, within, sym was, stood) | inr other ↦ inr other ]
      | inr other ↦ inl (k, x, subst (λ n. k < n) (length-set xs place new) below, sym (get_or-set_other xs place k new x other) ∙ is, holds)
    ]

-- the same, with nothing else that may hold
pub set_any : {X : Type 0} (P : X → Type 0) (xs : List X) (place : ℕ) (before new : X) → place < length xs → before ≡ get_or xs place before → (P new → P before) → Any P (set xs place new) → Any P xs
set_any P xs place before new within was back found =
    elim (set_any_or P ⊥ xs place before new within was (λ holds. inl (back holds)) found) [ inl there ↦ there | inr none ↦ absurd none ]
