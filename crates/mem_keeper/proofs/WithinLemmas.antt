-- What stands at a path and below it is one run of the paths in order.
use Rattle.std.proofs.Common.{◌≡◌, ◌≢◌, ◌↔◌, ℕ, Bool, true, false, cond, List, [], ◌∷◌, ◌++◌, length, take, drop, Ordering, refl, sym, ap, ◌∙◌, inl, inr, IsTrue}
use Rattle.std.proofs.lemmas.List.{append-nil, take-append-drop}
use Rattle.std.proofs.Math.Seq.{take-length, take-append_seam}
use Rattle.std.specs.declared.cmp.Ordering.TheVariants.{Less, Equal, Greater}
use Rattle.std.specs.Ordering.{nat_cmp, ordering_then, ordering_reverse, is_eq}
use Rattle.std.specs.Cmp.Lexicographic.{slice_cmp, texts_ties, lists_ties, nat_list_cmp_total}
use Rattle.std.proofs.lemmas.Bool.{cases_Bool}
use Rattle.weed_base.specs.Path.{IsBelow}
use Rattle.weed_base.specs.PathOrder.{path_cmp, same_path, same_path-exact}
use Rattle.weed_base.proofs.PathOrderLemmas.{same_path-refl}
use Rattle.name_core.specs.Namespace.{is_within}
use Rattle.mem_keeper.proofs.PutLemmas.{front_so, back_so, both_so}

-- A path is within a top where the top is its front.
within_front : (top path : List (List ℕ)) → is_within top path ≡ same_path top (take (length top) path)
within_front top path = lists_ties (slice_cmp nat_cmp) texts_ties top (take (length top) path)

pub front_is_within : (top path : List (List ℕ)) → take (length top) path ≡ top → is_within top path ≡ true
front_is_within top path front = within_front top path ∙ ap (same_path top) front ∙ same_path-refl top

pub front_of_within : (top path : List (List ℕ)) → is_within top path ≡ true → top ≡ take (length top) path
front_of_within top path within = same_path-exact top (take (length top) path) (sym (within_front top path) ∙ within)

-- What is behind a front, if anything
pub is_or_below : (top path rest : List (List ℕ)) → path ≡ top ++ rest → path ≢ top → ¬ IsBelow path top → ⊥
is_or_below top path [] split other apart = other (split ∙ append-nil top)
is_or_below top path (part ∷ rest) split other apart = apart (part, rest, split)

-- The test of a path by the two tests that it is the top, or below it
pub within_is : (top path : List (List ℕ)) (is_top below : Bool) → (IsTrue is_top ↔ (path ≡ top)) → (IsTrue below ↔ IsBelow path top) → cond is_top true below ≡ is_within top path
within_is top path true below top_is below_is = sym (front_is_within top path (ap (take (length top)) (top_is.0 refl) ∙ take-length top))
within_is top path false true top_is below_is =
    let there = below_is.0 refl in
    sym (front_is_within top path (ap (take (length top)) there.2 ∙ take-append_seam top (there.0 ∷ there.1)))
within_is top path false false top_is below_is =
    elim (cases_Bool (is_within top path)) [
      | inl within ↦
          let split : path ≡ top ++ drop (length top) path = sym (take-append-drop (length top) path) ∙ ap (λ front. front ++ drop (length top) path) (sym (front_of_within top path within)) in
          absurd (is_or_below top path (drop (length top) path) split (λ e. let told : false ≡ true = top_is.1 e in cc) (λ b. let told : false ≡ true = below_is.1 b in cc))
      | inr apart ↦ sym apart
    ]

pub within_itself : (top : List (List ℕ)) → is_within top top ≡ true
within_itself top = front_is_within top top (take-length top)

abbrev part_cmp : List ℕ → List ℕ → Ordering
part_cmp = slice_cmp nat_cmp

is_equal : (o : Ordering) → is_eq o ≡ true → o ≡ Equal
is_equal Less e = cc
is_equal Equal e = refl
is_equal Greater e = cc

-- What is within a top isn't before it.
pub not_before : (top x : List (List ℕ)) → is_within top x ≡ true → path_cmp x top ≡ Less → ⊥
not_before [] [] within before = cc
not_before [] (y ∷ ys) within before = cc
not_before (t ∷ ts) [] within before = cc
not_before (t ∷ ts) (y ∷ ys) within before =
    let same : part_cmp t y ≡ Equal = is_equal _ (sym (texts_ties t y) ∙ front_so _ _ within) in
    let turned : part_cmp y t ≡ Equal = nat_list_cmp_total.antisymm y t ∙ ap ordering_reverse same in
    not_before ts ys (back_so _ _ within) (sym (ap (λ o. ordering_then o (path_cmp ys ts)) turned) ∙ before)

-- What is between a top and a path within it is within it.
pub between : (top p x : List (List ℕ)) → is_within top x ≡ true → path_cmp top p ≡ Less → path_cmp p x ≡ Less → is_within top p ≡ true
between [] p x within past before = refl
between (t ∷ ts) p [] within past before = cc
between (t ∷ ts) [] (y ∷ ys) within past before = cc
between (t ∷ ts) (q ∷ qs) (y ∷ ys) within past before =
    let same : part_cmp t y ≡ Equal = is_equal _ (sym (texts_ties t y) ∙ front_so _ _ within) in
    let alike : part_cmp t q ≡ part_cmp y q = nat_list_cmp_total.congr t y q same in
    let turned : part_cmp q y ≡ ordering_reverse (part_cmp y q) = nat_list_cmp_total.antisymm q y in
    elim (part_cmp y q) as (λ o. part_cmp t q ≡ o → part_cmp q y ≡ ordering_reverse o → is_within (t ∷ ts) (q ∷ qs) ≡ true) [
      | Less ↦ λ one two. let wrong : Greater ≡ Less = sym (ap (λ o. ordering_then o (path_cmp qs ys)) two) ∙ before in cc
      | Equal ↦ λ one two.
          both_so _ _ (texts_ties t q ∙ ap is_eq one)
          (between ts qs ys (back_so _ _ within) (sym (ap (λ o. ordering_then o (path_cmp ts qs)) one) ∙ past) (sym (ap (λ o. ordering_then o (path_cmp qs ys)) two) ∙ before))
      | Greater ↦ λ one two. let wrong : Greater ≡ Less = sym (ap (λ o. ordering_then o (path_cmp ts qs)) one) ∙ past in cc
    ] alike turned
