-- What a search for the first wanted items makes of a cut tree.
use Rattle.std.proofs.Common.{◌≡◌, ℕ, zero, suc, ◌≤◌, min, Bool, true, false, cond, List, [], ◌∷◌, ◌++◌, length, take, Option, Some, None, refl, sym, ap, ◌∙◌, subst, append_assoc, arith, Result, Ok, Err, OnOk}
use Rattle.std.proofs.lemmas.List.{append-nil, take_all, length-map, length-take}
use Rattle.std.proofs.lemmas.List.Elements.{filter-append}
use Rattle.std.specs.Borrow.{Bor}
use Rattle.std.specs.declared.cmp.Ordering.TheVariants.{Less}
use Rattle.std.specs.FinMap.Entries.{below_all}
use Rattle.weed_base.specs.PathOrder.{path_cmp, path_cmp_total, path_cmp-IsAntisymmetric}
use Rattle.name_core.specs.Pages.{Named}
use Rattle.mem_keeper.specs.declared.tree.Node.{Node}
use Rattle.mem_keeper.specs.Items.{Rises, named, listed, bound, wanted_of}
use Rattle.mem_keeper.specs.declared.places.Place.TheVariants.{Ahead, Behind}
use Rattle.mem_keeper.specs.Places.{StandsAt, IsNoneBetween, IsNoneAmong}
use Rattle.mem_keeper.proofs.PutLemmas.{front_so, back_so, is_less, below_all-at, sorted-left}

-- What stands behind a front rises where the whole does.
pub behind_front : (l r : List Named) → Rises (l ++ r) → Rises r
behind_front [] r rises = rises
behind_front (x ∷ l) r rises = behind_front l r (back_so _ _ rises)

pub before_back : (l r : List Named) → Rises (l ++ r) → Rises l
before_back l r rises = sorted-left path_cmp path_cmp_total path_cmp-IsAntisymmetric l r rises

-- The bounds of the left side and of the right
pub rises_to : (b es m l : List Named) (e : Named) (r : List Named) → es ≡ l ++ e ∷ r → Rises (b ++ (es ++ m)) → Rises (b ++ (l ++ e ∷ []))
rises_to b es m l e r cut rises =
    let front : b ++ (es ++ m) ≡ (b ++ (l ++ e ∷ [])) ++ (r ++ m) =
    ap (λ s. b ++ (s ++ m)) cut ∙ ap (λ s. b ++ s) (append_assoc l (e ∷ r) m ∙ sym (append_assoc l (e ∷ []) (r ++ m))) ∙ sym (append_assoc b (l ++ e ∷ []) (r ++ m)) in
    before_back (b ++ (l ++ e ∷ [])) (r ++ m) (subst Rises front rises)

pub rises_from : (b es m l : List Named) (e : Named) (r : List Named) → es ≡ l ++ e ∷ r → Rises (b ++ (es ++ m)) → Rises (e ∷ (r ++ m))
rises_from b es m l e r cut rises =
    let back : es ++ m ≡ l ++ (e ∷ (r ++ m)) = ap (λ s. s ++ m) cut ∙ append_assoc l (e ∷ r) m in
    behind_front l (e ∷ (r ++ m)) (subst Rises back (behind_front b (es ++ m) rises))

pub rises_amid : (b es m : List Named) → Rises (b ++ (es ++ m)) → Rises es
rises_amid b es m rises = before_back es m (behind_front b (es ++ m) rises)

module _ (wanted : List (List ℕ) → Bool) where
  unwanted : (x : Named) (es : List Named) → wanted x.0 ≡ false → wanted_of wanted (x ∷ es) ≡ wanted_of wanted es
  unwanted x es is = ap (λ b. cond b (x ∷ wanted_of wanted es) (wanted_of wanted es)) is

  chosen : (x : Named) (es : List Named) → wanted x.0 ≡ true → wanted_of wanted (x ∷ es) ≡ x ∷ wanted_of wanted es
  chosen x es is = ap (λ b. cond b (x ∷ wanted_of wanted es) (wanted_of wanted es)) is

  cut_wanted : (l r : List Named) → wanted_of wanted (l ++ r) ≡ wanted_of wanted l ++ wanted_of wanted r
  cut_wanted l r = filter-append (λ item. wanted item.0) l r

  none_before : (l : List Named) (e : Named) (r : List Named) → Rises (l ++ e ∷ r) → ((other : List (List ℕ)) → path_cmp other e.0 ≡ Less → wanted other ≡ false) → wanted_of wanted l ≡ []
  none_before [] e r rises none = refl
  none_before (x ∷ l) e r rises none =
      unwanted x l (none x.0 (below_all-at path_cmp path_cmp_total path_cmp-IsAntisymmetric x.0 l e r (front_so _ _ rises)))
      ∙ none_before l e r (back_so _ _ rises) none

  none_behind : (e : Named) (r : List Named) → below_all path_cmp e.0 r ≡ true → ((other : List (List ℕ)) → path_cmp e.0 other ≡ Less → wanted other ≡ false) → wanted_of wanted r ≡ []
  none_behind e [] all none = refl
  none_behind e (y ∷ r) all none = unwanted y r (none y.0 (is_less _ (front_so _ _ all))) ∙ none_behind e r (back_so _ _ all) none

  pub when_ahead : (es l : List Named) (e : Named) (r : List Named) → es ≡ l ++ e ∷ r → Rises es → StandsAt wanted e.0 Ahead → wanted_of wanted r ≡ wanted_of wanted es
  when_ahead es l e r cut rises at = sym (
      ap (wanted_of wanted) cut ∙ cut_wanted l (e ∷ r)
      ∙ ap (λ left. left ++ wanted_of wanted (e ∷ r)) (none_before l e r (subst Rises cut rises) at.1) ∙ unwanted e r at.0)

  pub when_behind : (es l : List Named) (e : Named) (r : List Named) → es ≡ l ++ e ∷ r → Rises es → StandsAt wanted e.0 Behind → wanted_of wanted l ≡ wanted_of wanted es
  when_behind es l e r cut rises at = sym (
      ap (wanted_of wanted) cut ∙ cut_wanted l (e ∷ r)
      ∙ ap (λ right. wanted_of wanted l ++ right) (unwanted e r at.0 ∙ none_behind e r (front_so _ _ (behind_front l (e ∷ r) (subst Rises cut rises))) at.1)
      ∙ append-nil (wanted_of wanted l))

  when_within : (es l : List Named) (e : Named) (r : List Named) → es ≡ l ++ e ∷ r → wanted e.0 ≡ true → wanted_of wanted es ≡ wanted_of wanted l ++ e ∷ wanted_of wanted r
  when_within es l e r cut at = ap (wanted_of wanted) cut ∙ cut_wanted l (e ∷ r) ∙ ap (λ right. wanted_of wanted l ++ right) (chosen e r at)

  when_apart : (es l : List Named) (e : Named) (r : List Named) → es ≡ l ++ e ∷ r → wanted e.0 ≡ false → wanted_of wanted es ≡ wanted_of wanted l ++ wanted_of wanted r
  when_apart es l e r cut at = ap (wanted_of wanted) cut ∙ cut_wanted l (e ∷ r) ∙ ap (λ right. wanted_of wanted l ++ right) (unwanted e r at)

  -- Between two paths none is wanted, so none is among what rises from one to the other.
  none_amid : (a : Named) (es : List Named) (z : Named) → Rises (a ∷ (es ++ z ∷ [])) → IsNoneBetween wanted a.0 z.0 → wanted_of wanted es ≡ []
  none_amid a [] z rises none = refl
  none_amid a (x ∷ es) z rises none =
      let first : path_cmp a.0 x.0 ≡ Less = is_less _ (front_so _ _ (front_so _ _ rises)) in
      let last : path_cmp x.0 z.0 ≡ Less = below_all-at path_cmp path_cmp_total path_cmp-IsAntisymmetric x.0 es z [] (front_so _ _ (back_so _ _ rises)) in
      unwanted x es (none x.0 first last)
      ∙ none_amid x es z (back_so _ _ rises) (λ other past before. none other (path_cmp_total.trans a.0 x.0 other first past) before)

  pub none_among : (least : Option Node) (es : List Named) (most : Option Node) → Rises (bound least ++ (es ++ bound most)) → IsNoneAmong wanted least most → wanted_of wanted es ≡ []
  none_among None es most rises none = absurd none
  none_among (Some least) es None rises none = absurd none
  none_among (Some least) es (Some most) rises none = none_amid (named least) es (named most) rises none

-- A page that is cut again, and what is added to it
again : {A : Type 0} (n : ℕ) (xs ys : List A) → take n (take n xs ++ ys) ≡ take n (xs ++ ys)
again zero xs ys = refl
again (suc n) [] ys = refl
again (suc n) (x ∷ xs) ys = ap (λ rest. x ∷ rest) (again n xs ys)

full : {A : Type 0} (n : ℕ) (xs ys : List A) → length xs ≤ n → n ≤ length xs → take n (xs ++ ys) ≡ xs
full zero [] ys few many = refl
full zero (x ∷ xs) ys few many = absurd (omega (arith, few))
full (suc n) [] ys few many = absurd (omega (arith, many))
full (suc n) (x ∷ xs) ys few many = ap (λ rest. x ∷ rest) (full n xs ys (omega (arith, few)) (omega (arith, many)))

length_listed : (nodes : List (Bor Node)) → length (listed nodes) ≡ length nodes
length_listed nodes = length-map nodes (λ node. named node.now)

-- Nothing is added of a tree where none is wanted.
pub none_added : (n : ℕ) (page : List (Bor Node)) (more : List Named) → length page ≤ n → more ≡ [] → listed page ≡ take n (listed page ++ more)
none_added n page more few none =
    sym (ap (λ m. take n (listed page ++ m)) none ∙ ap (take n) (append-nil (listed page))
    ∙ take_all n (listed page) (omega (arith, length_listed page, few)))

pub full_page : (n : ℕ) (page : List (Bor Node)) (more : List Named) → length page ≤ n → n ≤ length page → listed page ≡ take n (listed page ++ more)
full_page n page more few many = sym (full n (listed page) more (omega (arith, length_listed page, few)) (omega (arith, length_listed page, many)))

-- Two additions are one.
pub added_twice : {A : Type 0} (n : ℕ) (p a b q r : List A) → q ≡ take n (p ++ a) → r ≡ take n (q ++ b) → r ≡ take n (p ++ (a ++ b))
added_twice n p a b q r one two = two ∙ ap (λ s. take n (s ++ b)) one ∙ again n (p ++ a) b ∙ ap (take n) (append_assoc p a b)

-- What follows from a clause of what succeeded
pub also : {T E P Q : Type 0} (result : Result T E) → (P → Q) → OnOk result P → OnOk result Q
also (Ok value) so clause = so clause
also (Err error) so clause = clause

min_least : (a b : ℕ) → min a b ≤ a
min_least a b = omega arith

-- A page that was cut has at most so many.
pub few_after : (n : ℕ) (page : List (Bor Node)) (all : List Named) → listed page ≡ take n all → length page ≤ n
few_after n page all is = omega (arith, length_listed page, ap length is, length-take n all, min_least n (length all))

module _ (wanted : List (List ℕ) → Bool) (n : ℕ) (p0 p1 : List (Bor Node)) (es l : List Named) (e : Named) (r : List Named) (cut : es ≡ l ++ e ∷ r) (left : listed p1 ≡ take n (listed p0 ++ wanted_of wanted l)) where
  -- What is found on both sides of a node, and the node
  pub found_with : (p2 p3 : List (Bor Node)) → wanted e.0 ≡ true → listed p2 ≡ take n (listed p1 ++ e ∷ [])
      → listed p3 ≡ take n (listed p2 ++ wanted_of wanted r) → listed p3 ≡ take n (listed p0 ++ wanted_of wanted es)
  found_with p2 p3 at mid right =
      added_twice n (listed p0) (wanted_of wanted l ++ e ∷ []) (wanted_of wanted r) (listed p2) (listed p3) (added_twice n (listed p0) (wanted_of wanted l) (e ∷ []) (listed p1) (listed p2) left mid) right
      ∙ ap (λ more. take n (listed p0 ++ more)) (append_assoc (wanted_of wanted l) (e ∷ []) (wanted_of wanted r) ∙ sym (when_within wanted es l e r cut at))

  pub found_without : (p2 : List (Bor Node)) → wanted e.0 ≡ false
      → listed p2 ≡ take n (listed p1 ++ wanted_of wanted r) → listed p2 ≡ take n (listed p0 ++ wanted_of wanted es)
  found_without p2 at right =
      added_twice n (listed p0) (wanted_of wanted l) (wanted_of wanted r) (listed p1) (listed p2) left right
      ∙ ap (λ more. take n (listed p0 ++ more)) (sym (when_apart wanted es l e r cut at))
