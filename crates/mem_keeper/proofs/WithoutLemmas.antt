-- What is left of a list in order without what stands at a path and below it.
use Rattle.std.proofs.Common.{◌≡◌, ℕ, true, false, cond, not, List, [], ◌∷◌, ◌++◌, refl, sym, ap, ◌∙◌, subst, inl, inr}
use Rattle.std.specs.declared.cmp.Ordering.TheVariants.{Less, Greater}
use Rattle.std.specs.Ordering.{ordering_reverse}
use Rattle.std.specs.FinMap.Entries.{below_all}
use Rattle.std.proofs.lemmas.Bool.{cases_Bool}
use Rattle.std.proofs.lemmas.List.Elements.{filter-append}
use Rattle.weed_base.specs.PathOrder.{path_cmp, path_cmp_total, path_cmp-IsAntisymmetric}
use Rattle.name_core.specs.Namespace.{is_within}
use Rattle.name_core.specs.Pages.{Named}
use Rattle.mem_keeper.specs.Items.{Rises, without}
use Rattle.mem_keeper.proofs.PutLemmas.{front_so, back_so, is_less, below_all-at}
use Rattle.mem_keeper.proofs.WithinLemmas.{not_before, between}

kept : (top : List (List ℕ)) (e : Named) (es : List Named) → is_within top e.0 ≡ false → without top (e ∷ es) ≡ e ∷ without top es
kept top e es apart = ap (λ b. cond (not b) (e ∷ without top es) (without top es)) apart

pub left_out : (top : List (List ℕ)) (e : Named) (es : List Named) → is_within top e.0 ≡ true → without top (e ∷ es) ≡ without top es
left_out top e es within = ap (λ b. cond (not b) (e ∷ without top es) (without top es)) within

pub before_is_apart : (top x : List (List ℕ)) → path_cmp x top ≡ Less → is_within top x ≡ false
before_is_apart top x before =
    elim (cases_Bool (is_within top x)) [ inl within ↦ absurd (not_before top x within before) | inr apart ↦ apart ]

past_is_apart : (top e x : List (List ℕ)) → is_within top e ≡ false → path_cmp top e ≡ Less → path_cmp e x ≡ Less → is_within top x ≡ false
past_is_apart top e x apart past before =
    elim (cases_Bool (is_within top x)) [
      | inl within ↦ let so : is_within top e ≡ true = between top e x within past before in cc
      | inr other ↦ other
    ]

left_stays : (top : List (List ℕ)) (l : List Named) (e : Named) (r : List Named) → Rises (l ++ e ∷ r) → path_cmp e.0 top ≡ Less → without top l ≡ l
left_stays top [] e r rises before = refl
left_stays top (x ∷ l) e r rises before =
    let first : path_cmp x.0 e.0 ≡ Less = below_all-at path_cmp path_cmp_total path_cmp-IsAntisymmetric x.0 l e r (front_so _ _ rises) in
    kept top x l (before_is_apart top x.0 (path_cmp_total.trans x.0 e.0 top first before)) ∙ ap (λ es. x ∷ es) (left_stays top l e r (back_so _ _ rises) before)

right_stays : (top : List (List ℕ)) (e : Named) (r : List Named) → below_all path_cmp e.0 r ≡ true → is_within top e.0 ≡ false → path_cmp top e.0 ≡ Less → without top r ≡ r
right_stays top e [] all apart past = refl
right_stays top e (y ∷ r) all apart past =
    kept top y r (past_is_apart top e.0 y.0 apart past (is_less _ (front_so _ _ all))) ∙ ap (λ es. y ∷ es) (right_stays top e r (back_so _ _ all) apart past)

behind_all : (l : List Named) (e : Named) (r : List Named) → Rises (l ++ e ∷ r) → below_all path_cmp e.0 r ≡ true
behind_all [] e r rises = front_so _ _ rises
behind_all (x ∷ l) e r rises = behind_all l e r (back_so _ _ rises)

cut_without : (top : List (List ℕ)) (l r : List Named) → without top (l ++ r) ≡ without top l ++ without top r
cut_without top l r = filter-append (λ e. not (is_within top e.0)) l r

pub without_at : (top : List (List ℕ)) (es l : List Named) (e : Named) (r : List Named) → es ≡ l ++ e ∷ r → is_within top e.0 ≡ true → without top l ++ without top r ≡ without top es
without_at top es l e r cut within =
    sym (ap (without top) cut ∙ cut_without top l (e ∷ r) ∙ ap (λ right. without top l ++ right) (left_out top e r within))

pub without_left : (top : List (List ℕ)) (es l : List Named) (e : Named) (r : List Named) → es ≡ l ++ e ∷ r → Rises es → is_within top e.0 ≡ false → path_cmp top e.0 ≡ Less → without top l ++ e ∷ r ≡ without top es
without_left top es l e r cut rises apart past =
    sym (ap (without top) cut ∙ cut_without top l (e ∷ r)
    ∙ ap (λ right. without top l ++ right) (kept top e r apart ∙ ap (λ right. e ∷ right) (right_stays top e r (behind_all l e r (subst Rises cut rises)) apart past)))

pub without_right : (top : List (List ℕ)) (es l : List Named) (e : Named) (r : List Named) → es ≡ l ++ e ∷ r → Rises es → is_within top e.0 ≡ false → path_cmp e.0 top ≡ Less → l ++ e ∷ without top r ≡ without top es
without_right top es l e r cut rises apart before =
    sym (ap (without top) cut ∙ cut_without top l (e ∷ r)
    ∙ ap (λ right. without top l ++ right) (kept top e r apart) ∙ ap (λ left. left ++ e ∷ without top r) (left_stays top l e r (subst Rises cut rises) before))

pub turned_less : (x y : List (List ℕ)) → path_cmp y x ≡ Greater → path_cmp x y ≡ Less
turned_less x y is = path_cmp_total.antisymm x y ∙ ap ordering_reverse is
