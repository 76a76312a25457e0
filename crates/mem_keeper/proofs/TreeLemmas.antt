-- What a cut tree says of its paths in order.
use Rattle.std.proofs.Common.{◌≡◌, ℕ, List, ◌∷◌, ◌++◌, Some, sym, ap, ◌∙◌, subst, append_assoc}
use Rattle.std.specs.declared.cmp.Ordering.TheVariants.{Less, Equal, Greater}
use Rattle.std.specs.FinMap.{find, put}
use Rattle.weed_base.specs.PathOrder.{path_cmp, path_cmp_total, path_cmp-IsAntisymmetric}
use Rattle.entry.specs.declared.entry.Entry.{Entry}
use Rattle.name_core.specs.Pages.{Named}
use Rattle.mem_keeper.specs.Items.{Rises}
use Rattle.mem_keeper.proofs.PutLemmas.{sorted-left, sorted-right, put-left, put-at, put-right, find-left, find-at, find-right}

pub left_rises : (es l : List Named) (e : Named) (r : List Named) → es ≡ l ++ e ∷ r → Rises es → Rises l
left_rises es l e r cut rises = sorted-left path_cmp path_cmp_total path_cmp-IsAntisymmetric l (e ∷ r) (subst Rises cut rises)

pub right_rises : (es l : List Named) (e : Named) (r : List Named) → es ≡ l ++ e ∷ r → Rises es → Rises r
right_rises es l e r cut rises = sorted-right path_cmp path_cmp_total path_cmp-IsAntisymmetric l e r (subst Rises cut rises)

pub found_left : (q : List (List ℕ)) (es l : List Named) (e : Named) (r : List Named) → es ≡ l ++ e ∷ r → Rises es → Less ≡ path_cmp q e.0 → find path_cmp q l ≡ find path_cmp q es
found_left q es l e r cut rises is =
    sym (ap (find path_cmp q) cut ∙ find-left path_cmp path_cmp_total path_cmp-IsAntisymmetric q l e r (subst Rises cut rises) (sym is))

pub found_at : (q : List (List ℕ)) (es l : List Named) (e : Named) (r : List Named) → es ≡ l ++ e ∷ r → Rises es → Equal ≡ path_cmp q e.0 → Some e.1 ≡ find path_cmp q es
found_at q es l e r cut rises is =
    sym (ap (find path_cmp q) cut ∙ find-at path_cmp path_cmp_total path_cmp-IsAntisymmetric q l e r (subst Rises cut rises) (sym is))

pub found_right : (q : List (List ℕ)) (es l : List Named) (e : Named) (r : List Named) → es ≡ l ++ e ∷ r → Rises es → Greater ≡ path_cmp q e.0 → find path_cmp q r ≡ find path_cmp q es
found_right q es l e r cut rises is =
    sym (ap (find path_cmp q) cut ∙ find-right path_cmp path_cmp_total path_cmp-IsAntisymmetric q l e r (subst Rises cut rises) (sym is))

pub put_in_left : (k : List (List ℕ)) (v : Entry) (es l : List Named) (e : Named) (r before behind : List Named) → es ≡ l ++ e ∷ r → Less ≡ path_cmp k e.0 → put path_cmp k v l ≡ before ++ (k, v) ∷ behind → put path_cmp k v es ≡ before ++ (k, v) ∷ (behind ++ e ∷ r)
put_in_left k v es l e r before behind cut is halves =
    ap (put path_cmp k v) cut ∙ put-left path_cmp path_cmp_total path_cmp-IsAntisymmetric k v l e r (sym is)
    ∙ ap (λ left. left ++ e ∷ r) halves ∙ append_assoc before ((k, v) ∷ behind) (e ∷ r)

pub put_at : (k : List (List ℕ)) (v : Entry) (es l : List Named) (e : Named) (r : List Named) → es ≡ l ++ e ∷ r → Rises es → Equal ≡ path_cmp k e.0 → put path_cmp k v es ≡ l ++ (k, v) ∷ r
put_at k v es l e r cut rises is =
    ap (put path_cmp k v) cut ∙ put-at path_cmp path_cmp_total path_cmp-IsAntisymmetric k v l e r (subst Rises cut rises) (sym is)

pub put_in_right : (k : List (List ℕ)) (v : Entry) (es l : List Named) (e : Named) (r before behind : List Named) → es ≡ l ++ e ∷ r → Rises es → Greater ≡ path_cmp k e.0 → put path_cmp k v r ≡ before ++ (k, v) ∷ behind → put path_cmp k v es ≡ (l ++ e ∷ before) ++ (k, v) ∷ behind
put_in_right k v es l e r before behind cut rises is halves =
    ap (put path_cmp k v) cut ∙ put-right path_cmp path_cmp_total path_cmp-IsAntisymmetric k v l e r (subst Rises cut rises) (sym is)
    ∙ ap (λ right. l ++ e ∷ right) halves ∙ sym (append_assoc l (e ∷ before) ((k, v) ∷ behind))
