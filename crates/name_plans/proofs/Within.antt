-- A path that is a top, or below it.
use Rattle.std.proofs.Common.{◌≡◌, ◌≢◌, ◌↔◌, ℕ, Bool, true, false, cond, List, [], ◌∷◌, ◌++◌, length, take, drop, refl, sym, ap, ◌∙◌, inl, inr, IsTrue}
use Rattle.std.proofs.lemmas.List.{append-nil, take-append-drop}
use Rattle.std.proofs.Math.Seq.{take-length, take-append_seam}
use Rattle.std.specs.Ordering.{nat_cmp}
use Rattle.std.specs.Cmp.Lexicographic.{slice_cmp, texts_ties, lists_ties}
use Rattle.std.proofs.lemmas.Bool.{cases_Bool}
use Rattle.weed_base.specs.Path.{IsBelow}
use Rattle.weed_base.specs.PathOrder.{same_path, same_path-exact}
use Rattle.weed_base.proofs.PathOrderLemmas.{same_path-refl}
use Rattle.name_core.specs.Namespace.{is_within}

-- A path is within a top where the top is its front.
within_front : (top path : List (List ℕ)) → is_within top path ≡ same_path top (take (length top) path)
within_front top path = lists_ties (slice_cmp nat_cmp) texts_ties top (take (length top) path)

pub front_is_within : (top path : List (List ℕ)) → take (length top) path ≡ top → is_within top path ≡ true
front_is_within top path front = within_front top path ∙ ap (same_path top) front ∙ same_path-refl top

front_of_within : (top path : List (List ℕ)) → is_within top path ≡ true → top ≡ take (length top) path
front_of_within top path within = same_path-exact top (take (length top) path) (sym (within_front top path) ∙ within)

-- It is the top, and further parts.
pub split_within : (top path : List (List ℕ)) → is_within top path ≡ true → path ≡ top ++ drop (length top) path
split_within top path within = sym (take-append-drop (length top) path) ∙ ap (λ front. front ++ drop (length top) path) (sym (front_of_within top path within))

pub join_within : (top rest : List (List ℕ)) → is_within top (top ++ rest) ≡ true
join_within top rest = front_is_within top (top ++ rest) (take-append_seam top rest)

is_or_below : (top path rest : List (List ℕ)) → path ≡ top ++ rest → path ≢ top → ¬ IsBelow path top → ⊥
is_or_below top path [] split other apart = other (split ∙ append-nil top)
is_or_below top path (part ∷ rest) split other apart = apart (part, rest, split)

-- The test of a path by the two tests that it is the top, or below it
pub within_is : (top path : List (List ℕ)) (is_top below : Bool) → (IsTrue is_top ↔ (path ≡ top)) → (IsTrue below ↔ IsBelow path top) → cond is_top true below ≡ is_within top path
within_is top path true below top_is below_is = sym (front_is_within top path (ap (take (length top)) (top_is.0 refl) ∙ take-length top))
within_is top path false true top_is below_is =
    let there = below_is.0 refl in
    sym (front_is_within top path (ap (take (length top)) there.2 ∙ take-append_seam top (there.0 ∷ there.1)))
within_is top path false false top_is below_is =
    elim (cases_Bool (is_within top path)) [
      | inl within ↦ absurd (is_or_below top path (drop (length top) path) (split_within top path within) (λ e. let told : false ≡ true = top_is.1 e in cc) (λ b. let told : false ≡ true = below_is.1 b in cc))
      | inr apart ↦ sym apart
    ]
