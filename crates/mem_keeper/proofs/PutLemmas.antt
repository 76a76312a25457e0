-- What a put and a look-up do to a list in order that is cut at an entry.
use Rattle.std.proofs.Common.{◌≡◌, Bool, true, false, cond, ◌&&◌, List, [], ◌∷◌, ◌++◌, Some, None, Ordering, refl, sym, ap, ◌∙◌}
use Rattle.std.specs.declared.cmp.Ordering.TheVariants.{Less, Equal, Greater}
use Rattle.std.specs.Ordering.{is_lt, is_eq, ordering_reverse, eq_by_cmp}
use Rattle.std.specs.Cmp.{IsTotalOrder}
use Rattle.std.specs.FinMap.{IsAntisymmetric, find, put, is_sorted}
use Rattle.std.specs.FinMap.Entries.{below_all, by_order}

pub front_so : (a b : Bool) → (a && b) ≡ true → a ≡ true
front_so true b e = refl
front_so false b e = e

pub back_so : (a b : Bool) → (a && b) ≡ true → b ≡ true
back_so true b e = e
back_so false b e = cc

pub both_so : (a b : Bool) → a ≡ true → b ≡ true → (a && b) ≡ true
both_so true b e f = f
both_so false b e f = e

pub is_less : (o : Ordering) → is_lt o ≡ true → o ≡ Less
is_less Less e = refl
is_less Equal e = cc
is_less Greater e = cc

module _ {K : Type 0} (R : K → K → Ordering) (o : IsTotalOrder R) where
  turned : (x y : K) (r : Ordering) → R y x ≡ r → R x y ≡ ordering_reverse r
  turned x y r e = o.antisymm x y ∙ ap ordering_reverse e

  -- A key past another is past what stands before that one.
  past_front : (x e k : K) → R x e ≡ Less → R k e ≡ Greater → R k x ≡ Greater
  past_front x e k before past = turned k x Less (o.trans x e k before (turned e k Greater past))

  at_front : (x e k : K) → R x e ≡ Less → R k e ≡ Equal → R k x ≡ Greater
  at_front x e k before at = o.congr k e x at ∙ turned e x Less before

  before_back : (k e y : K) → R k e ≡ Less → R e y ≡ Less → R k y ≡ Less
  before_back k e y before back = o.trans k e y before back

module _ {K X : Type 0} (R : K → K → Ordering) (o : IsTotalOrder R) (same : IsAntisymmetric R) where
  pub below_all-at : (x : K) (l : List (K × X)) (e : K × X) (r : List (K × X)) → below_all R x (l ++ e ∷ r) ≡ true → R x e.0 ≡ Less
  below_all-at x [] e r all = is_less _ (front_so _ _ all)
  below_all-at x (y ∷ l) e r all = below_all-at x l e r (back_so _ _ all)

  below_all-front : (x : K) (l r : List (K × X)) → below_all R x (l ++ r) ≡ true → below_all R x l ≡ true
  below_all-front x [] r all = refl
  below_all-front x (y ∷ l) r all = both_so _ _ (front_so _ _ all) (below_all-front x l r (back_so _ _ all))

  pub sorted-left : (l r : List (K × X)) → is_sorted R (l ++ r) ≡ true → is_sorted R l ≡ true
  sorted-left [] r all = refl
  sorted-left (x ∷ l) r all = both_so _ _ (below_all-front x.0 l r (front_so _ _ all)) (sorted-left l r (back_so _ _ all))

  pub sorted-right : (l : List (K × X)) (e : K × X) (r : List (K × X)) → is_sorted R (l ++ e ∷ r) ≡ true → is_sorted R r ≡ true
  sorted-right [] e r all = back_so _ _ all
  sorted-right (x ∷ l) e r all = sorted-right l e r (back_so _ _ all)

  pub put-left : (k : K) (v : X) (l : List (K × X)) (e : K × X) (r : List (K × X)) → R k e.0 ≡ Less → put R k v (l ++ e ∷ r) ≡ put R k v l ++ e ∷ r
  put-left k v [] e r before = ap (λ c. by_order c ((k, v) ∷ e ∷ r) ((e.0, v) ∷ r) (e ∷ put R k v r)) before
  put-left k v (x ∷ l) e r before =
      elim (R k x.0) as (λ c. by_order c ((k, v) ∷ x ∷ (l ++ e ∷ r)) ((x.0, v) ∷ (l ++ e ∷ r)) (x ∷ put R k v (l ++ e ∷ r)) ≡ by_order c ((k, v) ∷ x ∷ l) ((x.0, v) ∷ l) (x ∷ put R k v l) ++ e ∷ r) [
        | Less ↦ refl
        | Equal ↦ refl
        | Greater ↦ ap (λ es. x ∷ es) (put-left k v l e r before)
      ]

  pub put-at : (k : K) (v : X) (l : List (K × X)) (e : K × X) (r : List (K × X)) → is_sorted R (l ++ e ∷ r) ≡ true → R k e.0 ≡ Equal → put R k v (l ++ e ∷ r) ≡ l ++ (k, v) ∷ r
  put-at k v [] e r all at =
      ap (λ c. by_order c ((k, v) ∷ e ∷ r) ((e.0, v) ∷ r) (e ∷ put R k v r)) at ∙ ap (λ q. (q, v) ∷ r) (sym (same k e.0 at))
  put-at k v (x ∷ l) e r all at =
      ap (λ c. by_order c ((k, v) ∷ x ∷ (l ++ e ∷ r)) ((x.0, v) ∷ (l ++ e ∷ r)) (x ∷ put R k v (l ++ e ∷ r))) (at_front R o x.0 e.0 k (below_all-at x.0 l e r (front_so _ _ all)) at)
      ∙ ap (λ es. x ∷ es) (put-at k v l e r (back_so _ _ all) at)

  pub put-right : (k : K) (v : X) (l : List (K × X)) (e : K × X) (r : List (K × X)) → is_sorted R (l ++ e ∷ r) ≡ true → R k e.0 ≡ Greater → put R k v (l ++ e ∷ r) ≡ l ++ e ∷ put R k v r
  put-right k v [] e r all past = ap (λ c. by_order c ((k, v) ∷ e ∷ r) ((e.0, v) ∷ r) (e ∷ put R k v r)) past
  put-right k v (x ∷ l) e r all past =
      ap (λ c. by_order c ((k, v) ∷ x ∷ (l ++ e ∷ r)) ((x.0, v) ∷ (l ++ e ∷ r)) (x ∷ put R k v (l ++ e ∷ r))) (past_front R o x.0 e.0 k (below_all-at x.0 l e r (front_so _ _ all)) past)
      ∙ ap (λ es. x ∷ es) (put-right k v l e r (back_so _ _ all) past)

  skip : (q : K) (x : K × X) (es : List (K × X)) (r : Ordering) → R q x.0 ≡ r → is_eq r ≡ false → find R q (x ∷ es) ≡ find R q es
  skip q x es r is other = ap (λ c. cond (is_eq c) (Some x.1) (find R q es)) is ∙ ap (λ b. cond b (Some x.1) (find R q es)) other

  find-none : (q e : K) (es : List (K × X)) → R q e ≡ Less → below_all R e es ≡ true → find R q es ≡ None
  find-none q e [] before all = refl
  find-none q e (x ∷ es) before all =
      skip q x es Less (before_back R o q e x.0 before (is_less _ (front_so _ _ all))) refl ∙ find-none q e es before (back_so _ _ all)

  pub find-left : (q : K) (l : List (K × X)) (e : K × X) (r : List (K × X)) → is_sorted R (l ++ e ∷ r) ≡ true → R q e.0 ≡ Less → find R q (l ++ e ∷ r) ≡ find R q l
  find-left q [] e r all before = skip q e r Less before refl ∙ find-none q e.0 r before (front_so _ _ all)
  find-left q (x ∷ l) e r all before = ap (λ found. cond (eq_by_cmp R q x.0) (Some x.1) found) (find-left q l e r (back_so _ _ all) before)

  pub find-at : (q : K) (l : List (K × X)) (e : K × X) (r : List (K × X)) → is_sorted R (l ++ e ∷ r) ≡ true → R q e.0 ≡ Equal → find R q (l ++ e ∷ r) ≡ Some e.1
  find-at q [] e r all at = ap (λ c. cond (is_eq c) (Some e.1) (find R q r)) at
  find-at q (x ∷ l) e r all at =
      skip q x (l ++ e ∷ r) Greater (at_front R o x.0 e.0 q (below_all-at x.0 l e r (front_so _ _ all)) at) refl ∙ find-at q l e r (back_so _ _ all) at

  pub find-right : (q : K) (l : List (K × X)) (e : K × X) (r : List (K × X)) → is_sorted R (l ++ e ∷ r) ≡ true → R q e.0 ≡ Greater → find R q (l ++ e ∷ r) ≡ find R q r
  find-right q [] e r all past = skip q e r Greater past refl
  find-right q (x ∷ l) e r all past =
      skip q x (l ++ e ∷ r) Greater (past_front R o x.0 e.0 q (below_all-at x.0 l e r (front_so _ _ all)) past) refl ∙ find-right q l e r (back_so _ _ all) past
