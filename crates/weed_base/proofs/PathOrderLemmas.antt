-- Paths told apart by their order.
use Rattle.std.proofs.Common.{◌≡◌, ◌≢◌, ◌↔◌, ◌⊎◌, ℕ, Bool, true, false, List, refl, sym, ap, ◌∙◌, subst, inl, inr, IsTrue}
use Rattle.std.specs.Cmp.{eq_by_cmp_equiv}
use Rattle.std.proofs.lemmas.Bool.{cases_Bool}
use Rattle.weed_base.specs.PathOrder.{same_path, path_cmp_total, same_path-exact}

-- A path is one with itself.
pub same_path-refl : (p : List (List ℕ)) → same_path p p ≡ true
same_path-refl p = (eq_by_cmp_equiv path_cmp_total).refl p

-- Two paths are one, or they are told apart.
pub cases_path : (p q : List (List ℕ)) → (p ≡ q) ⊎ ((same_path p q ≡ false) × (p ≢ q))
cases_path p q =
    elim (cases_Bool (same_path p q)) [
      | inl same ↦ inl (same_path-exact p q same)
      | inr other ↦ inr (other, λ e. let same : same_path p q ≡ true = subst (λ r. same_path p r ≡ true) e (same_path-refl p) in cc)
    ]

-- Two paths are one where the order of paths tells so.
pub same_is : (a b : List (List ℕ)) (is : Bool) → (IsTrue is ↔ (a ≡ b)) → is ≡ same_path a b
same_is a b true told = sym (ap (same_path a) (sym (told.0 refl)) ∙ same_path-refl a)
same_is a b false told =
    elim (cases_path a b) [
      | inl same ↦ let is : false ≡ true = told.1 same in cc
      | inr apart ↦ sym apart.0
    ]
