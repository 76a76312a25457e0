-- Nodes that are chosen, and that there are none to choose.
use Rattle.std.proofs.Common.{◌≡◌, ℕ, suc, ◌+◌, ◌<◌, ◌≤◌, Bool, true, false, cond, not, ◌&&◌, ◌||◌, nat_eq, List, [], ◌∷◌, ◌++◌, map, filter, length, get_or, ◌⊎◌, inl, inr, sym, refl, ap, ◌∙◌, subst, arith}
use Rattle.std.specs.List.{All, AllByRecursion, Contains, IsDistinct}
use Rattle.std.specs.Set.{is_member}
use Rattle.std.specs.Cmp.Lexicographic.{pointwise}
use Rattle.std.proofs.lemmas.Cmp.{nat_list_eq_equiv}
use Rattle.std.proofs.lemmas.Bool.{cases_order}
use Rattle.std.proofs.lemmas.List.{map-append, length-map, get_or_default, get_or-map}
use Rattle.std.proofs.lemmas.List.Elements.{All-append, All-filter, All-head, All-tail, All-contains, filter_passes, filter-append}
use Rattle.std.proofs.lemmas.Map.Keys.{apart_from_distinct}
use Rattle.std.proofs.lemmas.Map.Steps.{list_any_congr}
use Rattle.std.proofs.lemmas.Map.Made.{length-le_from_is_member}
use Rattle.needle.specs.declared.placement.Placement.{Placement}
use Rattle.topology.specs.declared.member.Member.{Member}
use Rattle.topology.specs.declared.placing.Part.{Part}
use Rattle.topology.specs.declared.placing.Part.TheVariants.{Main, Beside, Away}
use Rattle.topology.specs.Choices.{Differ, id_of, rack_of, center_of, is_in_center, is_main, is_beside, is_away}
use Rattle.topology.specs.Picks.{takes, mark_of, IsPick, AreAround, NoneAround}
use Rattle.topology.proofs.Picking.{same}

-- ---- fewer than are wanted

marked : (part : Part) (xs : List Member) (q : List ℕ) → is_member same (map (mark_of part) xs) q ≡ true → (m : Member) × Contains xs m × (same q (mark_of part m) ≡ true)
marked part [] q e = cc
marked part (x ∷ xs) q e =
    elim (same q (mark_of part x)) as (λ b. same q (mark_of part x) ≡ b → (b || is_member same (map (mark_of part) xs) q) ≡ true → (m : Member) × Contains (x ∷ xs) m × (same q (mark_of part m) ≡ true)) [
      | true ↦ λ is _. (x, (0, omega arith, refl), is)
      | false ↦ λ _ e. let m = marked part xs q e in (m.0, (suc m.1.0, omega (arith, m.1.1), m.1.2), m.2)
    ] refl e

-- where fewer are picked than are wanted, there aren't as many
pub too_few : (part : Part) (main : Member) (count : ℕ) (free picked : List Member) → IsPick part main count free picked → length picked < count
    → (xs : List Member) → All (Contains free) xs → All (λ m. takes part main m ≡ true) xs → Differ (map (mark_of part) xs) → length xs ≡ count → ⊥
too_few part main count free picked is short xs there taken differ long =
    let inside : (q : List ℕ) → is_member same (map (mark_of part) xs) q ≡ true → is_member same (map (mark_of part) picked) q ≡ true = λ q h.
    (let m = marked part xs q h in
    list_any_congr nat_list_eq_equiv q (mark_of part m.0) (map (mark_of part) picked) m.2
    ∙ is.all short m.0 (All-contains (Contains free) xs m.0 there m.1) (All-contains (λ m. takes part main m ≡ true) xs m.0 taken m.1)) in
    let le : length (map (mark_of part) xs) ≤ length (map (mark_of part) picked) = length-le_from_is_member nat_list_eq_equiv (map (mark_of part) xs) (map (mark_of part) picked) differ inside in
    omega (arith, length-map xs (mark_of part), length-map picked (mark_of part))

each_filter : (P : List ℕ → Type 0) (f : Member → List ℕ) (p : Member → Bool) (xs : List Member) → AllByRecursion P (map f xs) → AllByRecursion P (map f (filter p xs))
each_filter P f p [] h = tt
each_filter P f p (x ∷ xs) h =
    elim (p x) as (λ b. AllByRecursion P (map f (cond b (x ∷ filter p xs) (filter p xs)))) [
      | true ↦ (h.0, each_filter P f p xs h.1)
      | false ↦ each_filter P f p xs h.1
    ]

-- some of what differs
pub differ_filter : (f : Member → List ℕ) (p : Member → Bool) (xs : List Member) → Differ (map f xs) → Differ (map f (filter p xs))
unfolding IsDistinct
differ_filter f p [] h = tt
differ_filter f p (x ∷ xs) h =
    elim (p x) as (λ b. Differ (map f (cond b (x ∷ filter p xs) (filter p xs)))) [
      | true ↦ (each_filter (λ y. same (f x) y ≡ false) f p xs h.0, differ_filter f p xs h.1)
      | false ↦ differ_filter f p xs h.1
    ]

pub short_main : (placement : Placement) (main : Member) (free picked : List Member) → IsPick Main main (placement.z + 1) free picked → length picked < placement.z + 1 → NoneAround placement main free
short_main placement main free picked is short members are around =
    too_few Main main (placement.z + 1) free picked is short (filter (is_main (center_of main) (rack_of main)) members) (All-filter _ (Contains free) members are.there)
    (filter_passes (is_main (center_of main) (rack_of main)) members) (differ_filter id_of (is_main (center_of main) (rack_of main)) members are.differ) around.in_rack

pub short_beside : (placement : Placement) (main : Member) (free picked : List Member) → IsPick Beside main placement.y free picked → length picked < placement.y → NoneAround placement main free
short_beside placement main free picked is short members are around =
    too_few Beside main placement.y free picked is short (filter (is_beside (center_of main) (rack_of main)) members) (All-filter _ (Contains free) members are.there)
    (filter_passes (is_beside (center_of main) (rack_of main)) members) around.racks around.beside

pub short_away : (placement : Placement) (main : Member) (free picked : List Member) → IsPick Away main placement.x free picked → length picked < placement.x → NoneAround placement main free
short_away placement main free picked is short members are around =
    too_few Away main placement.x free picked is short (filter (is_away (center_of main)) members) (All-filter _ (Contains free) members are.there)
    (filter_passes (is_away (center_of main)) members) around.centers around.away

-- ---- as many as are wanted

filter_all : (p : Member → Bool) (xs : List Member) → All (λ m. p m ≡ true) xs → filter p xs ≡ xs
filter_all p [] h = refl
filter_all p (x ∷ xs) h = ap (λ b. cond b (x ∷ filter p xs) (filter p xs)) (All-head (λ m. p m ≡ true) x xs h) ∙ ap (λ rest. x ∷ rest) (filter_all p xs (All-tail (λ m. p m ≡ true) x xs h))

filter_none : (p : Member → Bool) (xs : List Member) → All (λ m. p m ≡ false) xs → filter p xs ≡ []
filter_none p [] h = refl
filter_none p (x ∷ xs) h = ap (λ b. cond b (x ∷ filter p xs) (filter p xs)) (All-head (λ m. p m ≡ false) x xs h) ∙ filter_none p xs (All-tail (λ m. p m ≡ false) x xs h)

-- members of one id are the same
same_member : (free : List Member) → Differ (map id_of free) → (a b : Member) → Contains free a → Contains free b → same (id_of a) (id_of b) ≡ true → a ≡ b
same_member free differ a b ca cb e =
    let at_a : get_or (map id_of free) ca.0 (id_of a) ≡ id_of a = get_or-map id_of free ca.0 a (id_of a) ca.1 ∙ ap id_of ca.2 in
    let at_b : get_or (map id_of free) cb.0 (id_of a) ≡ id_of b = get_or-map id_of free cb.0 b (id_of a) cb.1 ∙ ap id_of cb.2 in
    elim (cases_order ca.0 cb.0) [
      | inl k ↦ sym ca.2 ∙ get_or_default free ca.0 a b ca.1 ∙ ap (λ n. get_or free n b) k ∙ cb.2
      | inr (inl lt) ↦
          let apart : same (get_or (map id_of free) ca.0 (id_of a)) (get_or (map id_of free) cb.0 (id_of a)) ≡ false = apart_from_distinct same (map id_of free) ca.0 cb.0 (id_of a) differ lt (omega (arith, cb.1, length-map free id_of)) in
          absurd (clash _ e (sym (ap (λ q. same q (id_of b)) at_a) ∙ sym (ap (λ q. same (get_or (map id_of free) ca.0 (id_of a)) q) at_b) ∙ apart))
      | inr (inr lt) ↦
          let apart : same (get_or (map id_of free) cb.0 (id_of a)) (get_or (map id_of free) ca.0 (id_of a)) ≡ false = apart_from_distinct same (map id_of free) cb.0 ca.0 (id_of a) differ lt (omega (arith, ca.1, length-map free id_of)) in
          absurd (clash _ (nat_list_eq_equiv.symm (id_of b) (id_of a) ∙ e) (sym (ap (λ q. same q (id_of a)) at_b) ∙ sym (ap (λ q. same (get_or (map id_of free) cb.0 (id_of a)) q) at_a) ∙ apart))
    ]
  where
    clash : (t : Bool) → t ≡ true → t ≡ false → ⊥
    clash true e f = cc
    clash false e f = cc

apart_by : (f : Member → List ℕ) (free : List Member) → Differ (map id_of free) → (a b : Member) → Contains free a → Contains free b → same (f a) (f b) ≡ false → same (id_of a) (id_of b) ≡ false
apart_by f free differ a b ca cb h =
    elim (same (id_of a) (id_of b)) as (λ t. same (id_of a) (id_of b) ≡ t → t ≡ false) [
      | true ↦ λ e. sym (nat_list_eq_equiv.refl (f a)) ∙ ap (λ m. same (f a) (f m)) (same_member free differ a b ca cb e) ∙ h
      | false ↦ λ _. refl
    ] refl

each_apart : (f : Member → List ℕ) (free : List Member) → Differ (map id_of free) → (x : Member) → Contains free x → (ys : List Member) → All (Contains free) ys
    → AllByRecursion (λ k. same (f x) k ≡ false) (map f ys) → AllByRecursion (λ k. same (id_of x) k ≡ false) (map id_of ys)
each_apart f free differ x cx [] there h = tt
each_apart f free differ x cx (y ∷ ys) there h =
    (apart_by f free differ x y cx (All-head (Contains free) y ys there) h.0, each_apart f free differ x cx ys (All-tail (Contains free) y ys there) h.1)

-- members of different marks have different ids
differ_ids : (f : Member → List ℕ) (free : List Member) → Differ (map id_of free) → (xs : List Member) → All (Contains free) xs → Differ (map f xs) → Differ (map id_of xs)
unfolding IsDistinct
differ_ids f free differ [] there h = tt
differ_ids f free differ (x ∷ xs) there h =
    (each_apart f free differ x (All-head (Contains free) x xs there) xs (All-tail (Contains free) x xs there) h.0, differ_ids f free differ xs (All-tail (Contains free) x xs there) h.1)

other_by : (p : Member → Bool) (free : List Member) → Differ (map id_of free) → (a b : Member) → Contains free a → Contains free b → p a ≡ true → p b ≡ false → same (id_of a) (id_of b) ≡ false
other_by p free differ a b ca cb pa pb =
    elim (same (id_of a) (id_of b)) as (λ t. same (id_of a) (id_of b) ≡ t → t ≡ false) [
      | true ↦ λ e. sym pa ∙ ap p (same_member free differ a b ca cb e) ∙ pb
      | false ↦ λ _. refl
    ] refl

each_other : (p : Member → Bool) (free : List Member) → Differ (map id_of free) → (x : Member) → Contains free x → p x ≡ true → (ys : List Member) → All (Contains free) ys
    → All (λ m. p m ≡ false) ys → AllByRecursion (λ k. same (id_of x) k ≡ false) (map id_of ys)
each_other p free differ x cx px [] there h = tt
each_other p free differ x cx px (y ∷ ys) there h = (
  other_by p free differ x y cx (All-head (Contains free) y ys there) px (All-head (λ m. p m ≡ false) y ys h),
  each_other p free differ x cx px ys (All-tail (Contains free) y ys there) (All-tail (λ m. p m ≡ false) y ys h),
)

each_append : (P : List ℕ → Type 0) (xs ys : List (List ℕ)) → AllByRecursion P xs → AllByRecursion P ys → AllByRecursion P (xs ++ ys)
each_append P [] ys h k = k
each_append P (x ∷ xs) ys h k = (h.0, each_append P xs ys h.1 k)

-- members that pass a test, and members that don't
differ_both : (p : Member → Bool) (free : List Member) → Differ (map id_of free) → (xs ys : List Member) → All (Contains free) xs → All (Contains free) ys
    → All (λ m. p m ≡ true) xs → All (λ m. p m ≡ false) ys → Differ (map id_of xs) → Differ (map id_of ys) → Differ (map id_of xs ++ map id_of ys)
unfolding IsDistinct
differ_both p free differ [] ys there_x there_y px py dx dy = dy
differ_both p free differ (x ∷ xs) ys there_x there_y px py dx dy = (
  each_append (λ k. same (id_of x) k ≡ false) (map id_of xs) (map id_of ys) dx.0
      (each_other p free differ x (All-head (Contains free) x xs there_x) (All-head (λ m. p m ≡ true) x xs px) ys there_y py),
  differ_both p free differ xs ys (All-tail (Contains free) x xs there_x) there_y (All-tail (λ m. p m ≡ true) x xs px) py dx.1 dy,
)

main_not_beside : (a b : Bool) → (a && b) ≡ true → (a && not b) ≡ false
main_not_beside true true e = refl
main_not_beside true false e = cc
main_not_beside false b e = cc

main_not_away : (a b : Bool) → (a && b) ≡ true → not a ≡ false
main_not_away true b e = refl
main_not_away false b e = cc

beside_not_main : (a b : Bool) → (a && not b) ≡ true → (a && b) ≡ false
beside_not_main true false e = refl
beside_not_main true true e = cc
beside_not_main false b e = cc

beside_not_away : (a b : Bool) → (a && not b) ≡ true → not a ≡ false
beside_not_away true b e = refl
beside_not_away false b e = cc

away_not_main : (a b : Bool) → not a ≡ true → (a && b) ≡ false
away_not_main true b e = cc
away_not_main false b e = refl

away_not_in : (a : Bool) → not a ≡ true → a ≡ false
away_not_in true e = cc
away_not_in false e = refl

in_of_main : (a b : Bool) → (a && b) ≡ true → a ≡ true
in_of_main true b e = refl
in_of_main false b e = e

each_if : (p q : Member → Bool) (t u : Bool) → ((m : Member) → p m ≡ t → q m ≡ u) → (xs : List Member) → All (λ m. p m ≡ t) xs → All (λ m. q m ≡ u) xs
each_if p q t u h xs all = λ k d lt. h (get_or xs k d) (all k d lt)

three : (p : Member → Bool) (a b c : List Member) → filter p ((a ++ b) ++ c) ≡ (filter p a ++ filter p b) ++ filter p c
three p a b c = filter-append p (a ++ b) c ∙ ap (λ l. l ++ filter p c) (filter-append p a b)

append_empty : (xs : List Member) → xs ++ [] ≡ xs
append_empty [] = refl
append_empty (x ∷ xs) = ap (λ rest. x ∷ rest) (append_empty xs)

-- which of the chosen nodes pass a test
first_of : (p : Member → Bool) (a b c : List Member) → All (λ m. p m ≡ true) a → All (λ m. p m ≡ false) b → All (λ m. p m ≡ false) c → filter p ((a ++ b) ++ c) ≡ a
first_of p a b c pa pb pc = three p a b c ∙ ap (λ l. (filter p a ++ l) ++ filter p c) (filter_none p b pb) ∙ ap (λ l. (filter p a ++ []) ++ l) (filter_none p c pc) ∙ append_empty (filter p a ++ []) ∙ append_empty (filter p a) ∙ filter_all p a pa

second_of : (p : Member → Bool) (a b c : List Member) → All (λ m. p m ≡ false) a → All (λ m. p m ≡ true) b → All (λ m. p m ≡ false) c → filter p ((a ++ b) ++ c) ≡ b
second_of p a b c pa pb pc = three p a b c ∙ ap (λ l. (l ++ filter p b) ++ filter p c) (filter_none p a pa) ∙ ap (λ l. filter p b ++ l) (filter_none p c pc) ∙ append_empty (filter p b) ∙ filter_all p b pb

third_of : (p : Member → Bool) (a b c : List Member) → All (λ m. p m ≡ false) a → All (λ m. p m ≡ false) b → All (λ m. p m ≡ true) c → filter p ((a ++ b) ++ c) ≡ c
third_of p a b c pa pb pc = three p a b c ∙ ap (λ l. (l ++ filter p b) ++ filter p c) (filter_none p a pa) ∙ ap (λ l. l ++ filter p c) (filter_none p b pb) ∙ filter_all p c pc

-- each part has as many as are wanted
pub around : (placement : Placement) (main : Member) (free mains beside away : List Member)
    → IsPick Main main (placement.z + 1) free mains → IsPick Beside main placement.y free beside → IsPick Away main placement.x free away
    → placement.z + 1 ≤ length mains → placement.y ≤ length beside → placement.x ≤ length away → AreAround placement main free ((mains ++ beside) ++ away)
around placement main free mains beside away a b c la lb lc =
    let center = center_of main in
    let rack = rack_of main in
    let in_center : Member → Bool = is_in_center center in
    let in_rack : Member → Bool = λ m. pointwise nat_eq (rack_of m) rack in
    let is_in : Member → Bool = is_main center rack in
    let is_by : Member → Bool = is_beside center rack in
    let is_off : Member → Bool = is_away center in
    let first : filter is_in ((mains ++ beside) ++ away) ≡ mains = first_of is_in mains beside away a.taken
    (each_if is_by is_in true false (λ m. beside_not_main (in_center m) (in_rack m)) beside b.taken) (each_if is_off is_in true false (λ m. away_not_main (in_center m) (in_rack m)) away c.taken) in
    let second : filter is_by ((mains ++ beside) ++ away) ≡ beside = second_of is_by mains beside away
    (each_if is_in is_by true false (λ m. main_not_beside (in_center m) (in_rack m)) mains a.taken) b.taken (each_if is_off is_by true false (λ m. away_not_main (in_center m) (not (in_rack m))) away c.taken) in
    let third : filter is_off ((mains ++ beside) ++ away) ≡ away = third_of is_off mains beside away
    (each_if is_in is_off true false (λ m. main_not_away (in_center m) (in_rack m)) mains a.taken) (each_if is_by is_off true false (λ m. beside_not_away (in_center m) (in_rack m)) beside b.taken) c.taken in
    let there_ab = All-append (Contains free) mains beside a.there b.there in
    record {
      there = All-append (Contains free) (mains ++ beside) away there_ab c.there;
      differ = λ differ.
          let ids_a : Differ (map id_of mains) = a.differ in
          let ids_b : Differ (map id_of beside) = differ_ids rack_of free differ beside b.there b.differ in
          let ids_c : Differ (map id_of away) = differ_ids center_of free differ away c.there c.differ in
          let both : Differ (map id_of mains ++ map id_of beside) = differ_both is_in free differ mains beside a.there b.there a.taken
          (each_if is_by is_in true false (λ m. beside_not_main (in_center m) (in_rack m)) beside b.taken) ids_a ids_b in
          let front : Differ (map id_of (mains ++ beside)) = subst Differ (sym (map-append id_of mains beside)) both in
          let in_ab : All (λ m. in_center m ≡ true) (mains ++ beside) = All-append (λ m. in_center m ≡ true) mains beside
          (each_if is_in in_center true true (λ m. in_of_main (in_center m) (in_rack m)) mains a.taken) (each_if is_by in_center true true (λ m. in_of_main (in_center m) (not (in_rack m))) beside b.taken) in
          let all : Differ (map id_of (mains ++ beside) ++ map id_of away) = differ_both in_center free differ (mains ++ beside) away there_ab c.there in_ab
          (each_if is_off in_center true false (λ m. away_not_in (in_center m)) away c.taken) front ids_c in
          subst Differ (sym (map-append id_of (mains ++ beside) away)) all;
      surround = record {
        in_rack = ap length first ∙ (let most = a.most in omega (arith, most));
        beside = ap length second ∙ (let most = b.most in omega (arith, most));
        racks = subst (λ l. Differ (map rack_of l)) (sym second) b.differ;
        away = ap length third ∙ (let most = c.most in omega (arith, most));
        centers = subst (λ l. Differ (map center_of l)) (sym third) c.differ;
      };
    }
