-- From the nodes with room to all nodes.
use Rattle.std.proofs.Common.{◌≡◌, ℕ, zero, suc, ◌<◌, Bool, true, false, cond, ◌&&◌, nat_eq, List, [], ◌∷◌, map, filter, length, get_or, Ordering, sym, refl, ap, ◌∙◌, subst, arith}
use lib.Dec.{T}
use Rattle.std.specs.List.{All, AllByRecursion, Contains, IsDistinct}
use Rattle.std.specs.List.Sorted.{IsPermutation}
use Rattle.std.specs.Ordering.{nat_cmp, is_lt, is_eq}
use Rattle.std.specs.declared.cmp.Ordering.TheVariants.{Less, Equal, Greater}
use Rattle.std.specs.FinMap.{values}
use Rattle.std.specs.FinMap.Entries.{is_sorted, below_all}
use Rattle.std.specs.Cmp.Lexicographic.{pointwise, slice_cmp, texts_ties, same_text}
use Rattle.std.proofs.lemmas.Cmp.{nat_list_eq_equiv}
use Rattle.std.proofs.lemmas.List.Elements.{All-filter, All-contains, All-contains_itself, filter_passes}
use Rattle.std.proofs.lemmas.List.Sorted.{IsPermutation-sym, IsPermutation-map, All-permutation, Contains-permutation, length_permutation}
use Rattle.std.proofs.lemmas.Map.Keys.{IsDistinct-IsPermutation}
use Rattle.needle.specs.declared.placement.Placement.{Placement}
use Rattle.topology.specs.declared.member.Member.{Member}
use Rattle.topology.specs.Nodes.{Nodes, with_ids, AreInOrder}
use Rattle.topology.specs.Choices.{Differ, id_of, rack_of, center_of, has_room, is_main, Surround, IsChoice, HasNoChoice, free_nodes}
use Rattle.topology.specs.Picks.{AreAroundOne, NoneAroundAny}
use Rattle.topology.proofs.Picking.{same}
use Rattle.topology.proofs.Choosing.{differ_filter}

abbrev order : List ℕ → List ℕ → Ordering
order = slice_cmp nat_cmp

less_apart : (a b : List ℕ) → T (is_lt (order a b)) → same a b ≡ false
less_apart a b h = texts_ties a b ∙ elim (order a b) as (λ r. T (is_lt r) → is_eq r ≡ false) [ Less ↦ λ _. refl | Equal ↦ λ h. absurd h | Greater ↦ λ h. absurd h ] h

left_true : (a b : Bool) → T (a && b) → T a
left_true true b p = tt
left_true false b p = p

right_true : (a b : Bool) → T (a && b) → T b
right_true true b p = p
right_true false b p = absurd p

below_apart : (id : List ℕ) (members : List Member) → T (below_all order id (with_ids members)) → AllByRecursion (λ k. same id k ≡ false) (map id_of members)
below_apart id [] h = tt
below_apart id (x ∷ xs) h =
    (less_apart id (id_of x) (left_true (is_lt (order id (id_of x))) (below_all order id (with_ids xs)) h), below_apart id xs (right_true (is_lt (order id (id_of x))) (below_all order id (with_ids xs)) h))

-- ids that rise differ
rising_differ : (members : List Member) → T (is_sorted order (with_ids members)) → Differ (map id_of members)
unfolding IsDistinct
rising_differ [] h = tt
rising_differ (x ∷ xs) h =
    (below_apart (id_of x) xs (left_true (below_all order (id_of x) (with_ids xs)) (is_sorted order (with_ids xs)) h), rising_differ xs (right_true (below_all order (id_of x) (with_ids xs)) (is_sorted order (with_ids xs)) h))

contains_filter : (p : Member → Bool) (xs : List Member) (m : Member) (k : ℕ) → k < length xs → get_or xs k m ≡ m → p m ≡ true → Contains (filter p xs) m
contains_filter p [] m k lt e pm = absurd (omega arith)
contains_filter p (x ∷ xs) m zero lt e pm = subst (λ b. Contains (cond b (x ∷ filter p xs) (filter p xs)) m) (sym (ap p e ∙ pm)) (0, omega arith, e)
contains_filter p (x ∷ xs) m (suc k) lt e pm =
    let rest = contains_filter p xs m k (omega arith) e pm in
    elim (p x) as (λ b. Contains (cond b (x ∷ filter p xs) (filter p xs)) m) [
      | true ↦ (suc rest.0, omega (arith, rest.1), rest.2)
      | false ↦ rest
    ]

filter_contains : (p : Member → Bool) (xs : List Member) (m : Member) → Contains (filter p xs) m → Contains xs m
filter_contains p xs m c = All-contains (Contains xs) (filter p xs) m (All-filter p (Contains xs) xs (All-contains_itself xs)) c

-- nodes around a main one meet the placement
pub are_choice : (placement : Placement) (nodes : Nodes) (members free chosen : List Member) (ids : List (List ℕ)) → values nodes ≡ members → AreInOrder members → IsPermutation (filter has_room members) free
    → AreAroundOne placement free chosen → ids ≡ map id_of chosen → IsChoice placement nodes ids
are_choice placement nodes members free chosen ids all sorted moved around are =
    let ids_all : Differ (map id_of members) = rising_differ members (subst T (sym sorted) tt) in
    let ids_free : Differ (map id_of free) = IsDistinct-IsPermutation same nat_list_eq_equiv.symm (map id_of (filter has_room members)) (map id_of free)
    (IsPermutation-map id_of (filter has_room members) free moved) (differ_filter id_of has_room members ids_all) in
    let roomy : All (λ m. has_room m ≡ true) free = All-permutation (λ m. has_room m ≡ true) (filter has_room members) free moved (filter_passes has_room members) in
    let back = IsPermutation-sym (filter has_room members) free moved in (
      chosen,
      are,
      record {
        are = record {
          there = λ k d lt. subst (λ l. Contains l (get_or chosen k d)) (sym all)
              (filter_contains has_room members (get_or chosen k d) (Contains-permutation free (filter has_room members) (get_or chosen k d) back (around.1.there k d lt)));
          differ = around.1.differ ids_free;
        };
        room = λ k d lt. All-contains (λ m. has_room m ≡ true) free (get_or chosen k d) roomy (around.1.there k d lt);
        center = center_of around.0;
        rack = rack_of around.0;
        surround = around.1.surround;
      },
    )

one_of : (xs : List Member) → 0 < length xs → (m : Member) × Contains xs m
one_of [] lt = absurd (omega arith)
one_of (x ∷ xs) lt = (x, (0, omega arith, refl))

both : (a b : Bool) → (a && b) ≡ true → (a ≡ true) × (b ≡ true)
both true b e = (refl, e)
both false b e = cc

-- where there are none around any, none meet the placement
pub no_choice : (placement : Placement) (nodes : Nodes) (members free : List Member) → values nodes ≡ members → IsPermutation (filter has_room members) free
    → NoneAroundAny placement free → HasNoChoice placement nodes
no_choice placement nodes members free all moved none chosen meet =
    let there : All (Contains free) chosen = λ k d lt.
    (let m = get_or chosen k d in
    let c = subst (λ l. Contains l m) all (meet.are.there k d lt) in
    Contains-permutation (filter has_room members) free m moved (contains_filter has_room members m c.0 c.1 c.2 (meet.room k d lt))) in
    let is_in = is_main meet.center meet.rack in
    let mains = filter is_in chosen in
    let some : 0 < length mains = let e = meet.surround.in_rack in omega (arith, e) in
    let first = one_of mains some in
    let main : Member = first.0 in
    let there_main : Contains free main = All-contains (Contains free) mains main (All-filter is_in (Contains free) chosen there) first.1 in
    let at = both (pointwise nat_eq (center_of main) meet.center) (pointwise nat_eq (rack_of main) meet.rack) (All-contains (λ m. is_in m ≡ true) mains main (filter_passes is_in chosen) first.1) in
    let center : center_of main ≡ meet.center = same_text _ _ (sym at.0) in
    let rack : rack_of main ≡ meet.rack = same_text _ _ (sym at.1) in
    none main there_main chosen (record { there = there; differ = meet.are.differ })
    (subst (λ c. Surround placement c (rack_of main) chosen) (sym center) (subst (λ r. Surround placement meet.center r chosen) (sym rack) meet.surround))

-- as many nodes have room
pub free_count : (nodes : Nodes) (members free : List Member) → values nodes ≡ members → IsPermutation (filter has_room members) free → length free ≡ free_nodes nodes
free_count nodes members free all moved = length_permutation (filter has_room members) free moved ∙ ap (λ l. length (filter has_room l)) (sym all)
