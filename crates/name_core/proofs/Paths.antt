-- Paths as lists of parts, and look-ups in a namespace.
use Rattle.std.proofs.Common.{◌≡◌, ◌≢◌, ℕ, ◌<◌, cond, List, [], ◌∷◌, ◌++◌, length, Some, refl, sym, ap, ◌∙◌, inl, inr, arith, length-append}
use Rattle.std.specs.FinMap.{get, insert, get-insert}
pub use Rattle.weed_base.specs.PathOrder.{same_path, path_cmp_total, path_cmp-IsAntisymmetric, same_path-exact}
pub use Rattle.weed_base.proofs.PathOrderLemmas.{same_path-refl, cases_path}
use Rattle.entry.specs.declared.entry.Entry.{Entry}
use Rattle.name_core.specs.Namespace.{Namespace}

-- A path set is found, and no other path changes.
pub get-insert_same : (names : Namespace) (path : List (List ℕ)) (entry : Entry) → get (insert names path entry) path ≡ Some entry
get-insert_same names path entry =
    get-insert path_cmp_total names path entry path ∙ ap (λ b. cond b (Some entry) (get names path)) (same_path-refl path)

pub get-insert_other : (names : Namespace) (path : List (List ℕ)) (entry : Entry) (q : List (List ℕ)) → q ≢ path → get (insert names path entry) q ≡ get names q
get-insert_other names path entry q other =
    elim (cases_path q path) [
      | inl same ↦ absurd (other same)
      | inr apart ↦ get-insert path_cmp_total names path entry q ∙ ap (λ b. cond b (Some entry) (get names q)) apart.0
    ]

-- A longer path is another one.
pub longer_is_other : (p q : List (List ℕ)) → length p < length q → q ≢ p
longer_is_other p q h e = let l : length q ≡ length p = ap length e in omega arith

pub longer_than_top : (top : List (List ℕ)) (part : List ℕ) → length top < length (top ++ part ∷ [])
longer_than_top top part = omega (arith, length-append top (part ∷ []))

pub filled-append : (top : List (List ℕ)) (part : List ℕ) → top ++ part ∷ [] ≢ []
filled-append [] part e = cc
filled-append (p ∷ top) part e = cc

-- A path's parent and name are the only ones.
pub parent_is : (p q : List (List ℕ)) (a b : List ℕ) → p ++ a ∷ [] ≡ q ++ b ∷ [] → p ≡ q
parent_is [] [] a b e = refl
parent_is [] (y ∷ q) a b e = let rest : [] ≡ q ++ b ∷ [] = cc in absurd (filled-append q b (sym rest))
parent_is (x ∷ p) [] a b e = let rest : p ++ a ∷ [] ≡ [] = cc in absurd (filled-append p a rest)
parent_is (x ∷ p) (y ∷ q) a b e =
    let head : x ≡ y = cc in
    let rest : p ++ a ∷ [] ≡ q ++ b ∷ [] = cc in
    let parents : p ≡ q = parent_is p q a b rest in cc
