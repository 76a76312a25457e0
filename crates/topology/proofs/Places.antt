-- Lists of members in the order of their ids.
use Rattle.std.proofs.Common.{◌≡◌, ℕ, zero, suc, ◌+◌, ◌<◌, ◌≤◌, Bool, true, false, IsSome, MatchOption, cond, not, ◌&&◌, filter, nat_lt, List, [], ◌∷◌, map, Option, Some, None, Ordering, length, get_or, set, is_some, sym, refl, ap, ◌∙◌, subst, arith}
use lib.Dec.{T}
use Rattle.std.specs.List.{insert}
use Rattle.std.specs.Ordering.{nat_cmp, eq_by_cmp, is_eq, is_gt, is_lt}
use Rattle.std.specs.Option.{option_map_or, option_and_then}
use Rattle.std.proofs.lemmas.List.{length-map, length-set}
use Rattle.std.proofs.lemmas.List.Edits.{length-insert}
use Rattle.std.proofs.lemmas.Bool.Decides.{nat_tests}
use Rattle.std.specs.declared.cmp.Ordering.TheVariants.{Less, Equal, Greater}
use Rattle.std.specs.Cmp.Lexicographic.{slice_cmp, nat_list_cmp_total, texts_ties}
use Rattle.std.specs.FinMap as fin
use Rattle.std.specs.Cmp.{eq_by_cmp_equiv, alike_right}
use Rattle.topology.specs.Changes.{joined, reports_at}
use Rattle.topology.specs.declared.node.Node.{Node}
use Rattle.std.specs.FinMap.{slice_cmp-IsAntisymmetric, nat_cmp-IsAntisymmetric, get-from_sorted, entries-from_sorted, entries-insert, same_entries_map, same_map, get-remove, get_tied, get}
use Rattle.std.specs.FinMap.Entries.{below_all, where_key, find-where_key, put, by_order, find, is_sorted, is_sorted-put, length-put}
use Rattle.topology.specs.Nodes.{Nodes, Reports, has_id, is_from, with_ids, nodes_of, AreInOrder}
use Rattle.topology.specs.Places.{HasPut, IsPlace, IsGap}
use Rattle.topology.specs.declared.member.Member.{Member}

abbrev pub order : List ℕ → List ℕ → Ordering
order = slice_cmp nat_cmp

-- a member whose id stands before
before : (id : List ℕ) (member : Member) → is_from id member ≡ false → order id member.node.id ≡ Greater
before id member = elim (order id member.node.id) as (λ r. not (is_gt r) ≡ false → r ≡ Greater) [ Less ↦ λ h. cc | Equal ↦ λ h. cc | Greater ↦ λ h. refl ]

-- a member with the id
tied : (id : List ℕ) (member : Member) → has_id id member ≡ true → order id member.node.id ≡ Equal
tied id member h =
    let tie : is_eq (order id member.node.id) ≡ true = sym (texts_ties id member.node.id) ∙ h in
    elim (order id member.node.id) as (λ r. is_eq r ≡ true → r ≡ Equal) [ Less ↦ λ e. cc | Equal ↦ λ e. refl | Greater ↦ λ e. cc ] tie

-- a member whose id stands behind
behind : (id : List ℕ) (member : Member) → is_from id member ≡ true → has_id id member ≡ false → order id member.node.id ≡ Less
behind id member from other =
    let apart : is_eq (order id member.node.id) ≡ false = sym (texts_ties id member.node.id) ∙ other in
    elim (order id member.node.id) as (λ r. not (is_gt r) ≡ true → is_eq r ≡ false → r ≡ Less) [ Less ↦ λ _ _. refl | Equal ↦ λ _ e. cc | Greater ↦ λ e _. cc ] from apart

AllBefore : List ℕ → List Member → ℕ → Type 0
AllBefore id members at = (k : ℕ) (d : Member) → k < at → order id (get_or members k d).node.id ≡ Greater

later : (id : List ℕ) (x : Member) (xs : List Member) (at : ℕ) → AllBefore id (x ∷ xs) (suc at) → AllBefore id xs at
unfolding AllBefore
later id x xs at h = λ k d lt. h (suc k) d (omega arith)

first : (id : List ℕ) (x : Member) (xs : List Member) (at : ℕ) → AllBefore id (x ∷ xs) (suc at) → order id x.node.id ≡ Greater
unfolding AllBefore
first id x xs at h = h 0 x (omega arith)

put_set : (id : List ℕ) (member : Member) (members : List Member) (at : ℕ) (d : Member) → member.node.id ≡ id → AllBefore id members at → at < length members
    → order id (get_or members at d).node.id ≡ Equal → HasPut id member members (set members at member)
put_set id member [] at d same all lt tie = absurd (omega arith)
put_set id member (x ∷ xs) zero d same all lt tie =
    ap (λ key. (key, member) ∷ with_ids xs) (same ∙ slice_cmp-IsAntisymmetric nat_cmp-IsAntisymmetric id x.node.id tie)
    ∙ ap (λ r. by_order r ((id, member) ∷ (x.node.id, x) ∷ with_ids xs) ((x.node.id, member) ∷ with_ids xs) ((x.node.id, x) ∷ put order id member (with_ids xs))) (sym tie)
put_set id member (x ∷ xs) (suc at) d same all lt tie =
    ap (λ rest. (x.node.id, x) ∷ rest) (put_set id member xs at d same (later id x xs at all) (omega arith) tie)
    ∙ ap (λ r. by_order r ((id, member) ∷ (x.node.id, x) ∷ with_ids xs) ((x.node.id, member) ∷ with_ids xs) ((x.node.id, x) ∷ put order id member (with_ids xs))) (sym (first id x xs at all))

put_insert : (id : List ℕ) (member : Member) (members : List Member) (at : ℕ) → member.node.id ≡ id → AllBefore id members at → at ≤ length members
    → ((d : Member) → at < length members → order id (get_or members at d).node.id ≡ Less) → HasPut id member members (insert members at member)
put_insert id member [] zero same all le less = ap (λ key. (key, member) ∷ []) same
put_insert id member [] (suc at) same all le less = absurd (omega arith)
put_insert id member (x ∷ xs) zero same all le less =
    ap (λ key. (key, member) ∷ (x.node.id, x) ∷ with_ids xs) same
    ∙ ap (λ r. by_order r ((id, member) ∷ (x.node.id, x) ∷ with_ids xs) ((x.node.id, member) ∷ with_ids xs) ((x.node.id, x) ∷ put order id member (with_ids xs))) (sym (less x (omega arith)))
put_insert id member (x ∷ xs) (suc at) same all le less =
    ap (λ rest. (x.node.id, x) ∷ rest) (put_insert id member xs at same (later id x xs at all) (omega arith) (λ d lt. less d (omega arith)))
    ∙ ap (λ r. by_order r ((id, member) ∷ (x.node.id, x) ∷ with_ids xs) ((x.node.id, member) ∷ with_ids xs) ((x.node.id, x) ∷ put order id member (with_ids xs))) (sym (first id x xs at all))

find_tied : (id : List ℕ) (members : List Member) (at : ℕ) (d : Member) → AllBefore id members at → at < length members
    → order id (get_or members at d).node.id ≡ Equal → find order id (with_ids members) ≡ Some (get_or members at d)
find_tied id [] at d all lt tie = absurd (omega arith)
find_tied id (x ∷ xs) zero d all lt tie = ap (λ r. cond (is_eq r) (Some x) (find order id (with_ids xs))) tie
find_tied id (x ∷ xs) (suc at) d all lt tie =
    ap (λ r. cond (is_eq r) (Some x) (find order id (with_ids xs))) (first id x xs at all)
    ∙ find_tied id xs at d (later id x xs at all) (omega arith) tie

-- a put that finds no tie makes the list longer
put_longer : (id : List ℕ) (value : Member) (members : List Member) (at : ℕ) → AllBefore id members at → at ≤ length members
    → ((d : Member) → at < length members → order id (get_or members at d).node.id ≡ Less) → length (put order id value (with_ids members)) ≡ length (with_ids members) + 1
put_longer id value [] at all le less = refl
put_longer id value (x ∷ xs) zero all le less =
    ap (λ r. length (by_order r ((id, value) ∷ (x.node.id, x) ∷ with_ids xs) ((x.node.id, value) ∷ with_ids xs) ((x.node.id, x) ∷ put order id value (with_ids xs)))) (less x (omega arith))
    ∙ omega arith
put_longer id value (x ∷ xs) (suc at) all le less =
    ap (λ r. length (by_order r ((id, value) ∷ (x.node.id, x) ∷ with_ids xs) ((x.node.id, value) ∷ with_ids xs) ((x.node.id, x) ∷ put order id value (with_ids xs)))) (first id x xs at all)
    ∙ (let e = put_longer id value xs at (later id x xs at all) (omega arith) (λ d lt. less d (omega arith)) in omega (arith, e))

not_longer : (n m : ℕ) (b : Bool) → m ≡ n + 1 → m ≡ cond b n (n + 1) → b ≡ true → ⊥
not_longer n m true e f t = omega arith
not_longer n m false e f t = cc

find_none : (id : List ℕ) (members : List Member) (at : ℕ) → AreInOrder members → AllBefore id members at → at ≤ length members
    → ((d : Member) → at < length members → order id (get_or members at d).node.id ≡ Less) → find order id (with_ids members) ≡ None
find_none id members at sorted all le less =
    elim (find order id (with_ids members)) as (λ o. find order id (with_ids members) ≡ o → o ≡ None) [
      | None ↦ λ _. refl
      | Some v ↦ λ e. absurd (not_longer _ _ (is_some (find order id (with_ids members))) (put_longer id v members at all le less)
          (length-put order nat_list_cmp_total id v (with_ids members) (subst T (sym sorted) tt)) (ap is_some e))
    ] refl

all_before : (id : List ℕ) (members : List Member) (at : ℕ) → ((k : ℕ) (d : Member) → k < at → is_from id (get_or members k d) ≡ false) → AllBefore id members at
unfolding AllBefore
all_before id members at h = λ k d lt. before id (get_or members k d) (h k d lt)

same_id : (id : List ℕ) (member : Member) → has_id id member ≡ true → id ≡ member.node.id
same_id id member has = slice_cmp-IsAntisymmetric nat_cmp-IsAntisymmetric id member.node.id (tied id member has)

-- the member with the id
pub is_place : (id : List ℕ) (members : List Member) (at : ℕ) (x : Member) → AreInOrder members
    → ((k : ℕ) (d : Member) → k < at → is_from id (get_or members k d) ≡ false) → at < length members
    → ((d : Member) → get_or members at d ≡ x) → has_id id x ≡ true → IsPlace id members at
is_place id members at x sorted all lt there has =
    let tie : (d : Member) → order id (get_or members at d).node.id ≡ Equal = λ d. ap (λ m. order id m.node.id) (there d) ∙ tied id x has in
    record {
      within = lt;
      found = λ d. get-from_sorted order (with_ids members) id (subst T (sym sorted) tt) ∙ find_tied id members at d (all_before id members at all) lt (tie d);
      same = λ d. same_id id x has ∙ ap (λ member. member.node.id) (sym (there d));
      replaced = λ member same. put_set id member members at x same (all_before id members at all) lt (tie x);
    }

-- where no member has the id
pub is_gap : (id : List ℕ) (members : List Member) (at : ℕ) → AreInOrder members
    → ((k : ℕ) (d : Member) → k < at → is_from id (get_or members k d) ≡ false) → at ≤ length members
    → ((d : Member) → at < length members → (is_from id (get_or members at d) ≡ true) × (has_id id (get_or members at d) ≡ false)) → IsGap id members at
is_gap id members at sorted all le here =
    let less : (d : Member) → at < length members → order id (get_or members at d).node.id ≡ Less = λ d lt. behind id (get_or members at d) (here d lt).0 (here d lt).1 in
    record {
      within = le;
      none = get-from_sorted order (with_ids members) id (subst T (sym sorted) tt) ∙ find_none id members at sorted (all_before id members at all) le less;
      inserted = λ member same. put_insert id member members at same (all_before id members at all) le less;
    }

truly : (b : Bool) → T b → b ≡ true
truly true h = refl
truly false h = absurd h

-- after a put the ids still rise
pub in_order : (id : List ℕ) (member : Member) (old new : List Member) → AreInOrder old → HasPut id member old new → AreInOrder new
in_order id member old new sorted is =
    let kept = is_sorted-put order nat_list_cmp_total id member (with_ids old) (subst T (sym sorted) tt) in
    truly _ (subst (λ es. T (is_sorted order es)) (sym is) kept)

-- a put is an insert into the map
pub put_nodes : (id : List ℕ) (member : Member) (old new : List Member) → AreInOrder old → HasPut id member old new → nodes_of new ≡ fin.insert (nodes_of old) id member
put_nodes id member old new sorted is =
    let fresh = in_order id member old new sorted is in
    same_entries_map _ _ (
    entries-from_sorted order (with_ids new) (subst T (sym fresh) tt) ∙ is
    ∙ ap (put order id member) (sym (entries-from_sorted order (with_ids old) (subst T (sym sorted) tt)))
    ∙ sym (entries-insert nat_list_cmp_total (nodes_of old) id member))

-- no members are no nodes
pub no_nodes : nodes_of [] ≡ fin.empty
no_nodes = fin.empty_of_len (nodes_of []) (fin.len-entries (nodes_of []) ∙ ap length (entries-from_sorted order [] tt))

-- as many nodes as members
pub len_nodes : (members : List Member) → AreInOrder members → fin.len (nodes_of members) ≡ length members
len_nodes members sorted =
    fin.len-entries (nodes_of members) ∙ ap length (entries-from_sorted order (with_ids members) (subst T (sym sorted) tt)) ∙ simp length-map

-- the place of an id in a list that is another one
pub place_in : (id told : List ℕ) (members read : List Member) (at : ℕ) → told ≡ id → read ≡ members → IsPlace told read at → IsPlace id members at
place_in id told members read at e f place = subst (λ key. IsPlace key members at) e (subst (λ list. IsPlace told list at) f place)

pub gap_in : (id told : List ℕ) (members read : List Member) (at : ℕ) → told ≡ id → read ≡ members → IsGap told read at → IsGap id members at
gap_in id told members read at e f gap = subst (λ key. IsGap key members at) e (subst (λ list. IsGap told list at) f gap)

-- a change of a member that stands there
pub changed : (members : List Member) (at : ℕ) (id : List ℕ) (member : Member) → AreInOrder members → IsPlace id members at → member.node.id ≡ id
    → AreInOrder (set members at member) × (nodes_of (set members at member) ≡ fin.insert (nodes_of members) id member)
changed members at id member sorted place same =
    let is : HasPut id member members (set members at member) = place.replaced member same in
    (in_order id member members _ sorted is, put_nodes id member members _ sorted is)

-- a new member
pub added : (members : List Member) (at : ℕ) (id : List ℕ) (member : Member) → AreInOrder members → IsGap id members at → member.node.id ≡ id
    → AreInOrder (insert members at member) × (nodes_of (insert members at member) ≡ fin.insert (nodes_of members) id member)
added members at id member sorted gap same =
    let is : HasPut id member members (insert members at member) = gap.inserted member same in
    (in_order id member members _ sorted is, put_nodes id member members _ sorted is)

-- a node that joins again
pub joins_again : (node : Node) (now : ℕ) (members : List Member) (at : ℕ) (old : Member) → AreInOrder members → IsPlace node.id members at → old ≡ get_or members at old
    → AreInOrder (set members at (record { node = node; heard = now; reports = old.reports })) × (nodes_of (set members at (record { node = node; heard = now; reports = old.reports })) ≡ joined node now (nodes_of members))
joins_again node now members at old sorted place is =
    let both = changed members at node.id (record { node = node; heard = now; reports = old.reports }) sorted place refl in
    let reports : old.reports ≡ reports_at node.id (nodes_of members) = sym (ap (λ found. option_map_or (λ (member : Member). member.reports) found fin.empty) (place.found old ∙ ap Some (sym is))) in
    (both.0, both.1 ∙ ap (λ reports. fin.insert (nodes_of members) node.id (record { node = node; heard = now; reports = reports })) reports)

-- a node that joins for the first time
pub joins_first : (node : Node) (now : ℕ) (members : List Member) (at : ℕ) → AreInOrder members → IsGap node.id members at
    → AreInOrder (insert members at (record { node = node; heard = now; reports = fin.empty })) × (nodes_of (insert members at (record { node = node; heard = now; reports = fin.empty })) ≡ joined node now (nodes_of members))
joins_first node now members at sorted gap =
    let both = added members at node.id (record { node = node; heard = now; reports = fin.empty }) sorted gap refl in
    let reports : fin.empty ≡ reports_at node.id (nodes_of members) = sym (ap (λ found. option_map_or (λ (member : Member). member.reports) found fin.empty) gap.none) in
    (both.0, both.1 ∙ ap (λ reports. fin.insert (nodes_of members) node.id (record { node = node; heard = now; reports = reports })) reports)

pub past_end : (at length : ℕ) → false ≡ nat_lt at length → at < length → ⊥
past_end at length past lt = grind (arith, nat_tests)

second_ids : (members : List Member) → map (λ (e : List ℕ × Member). e.1) (with_ids members) ≡ members
second_ids [] = refl
second_ids (x ∷ xs) = ap (λ rest. x ∷ rest) (second_ids xs)

-- the members of the nodes, in their order
pub values_nodes : (members : List Member) → AreInOrder members → fin.values (nodes_of members) ≡ members
values_nodes members sorted = ap (map (λ (e : List ℕ × Member). e.1)) (entries-from_sorted order (with_ids members) (subst T (sym sorted) tt)) ∙ second_ids members

both_true : (a b : Bool) → T a → T b → T (a && b)
both_true true b p q = q
both_true false b p q = p

left_true : (a b : Bool) → T (a && b) → T a
left_true true b p = tt
left_true false b p = p

right_true : (a b : Bool) → T (a && b) → T b
right_true true b p = p
right_true false b p = absurd p

less_from : (o : Ordering) → T (is_lt o) → o ≡ Less
less_from Less p = refl
less_from Equal p = absurd p
less_from Greater p = absurd p

-- behind a key no member has it
not_later : (id key : List ℕ) (members : List Member) → T (below_all order key (with_ids members)) → order id key ≡ Equal → find order id (with_ids members) ≡ None
not_later id key [] h tie = refl
not_later id key (x ∷ xs) h tie =
    let less : order key x.node.id ≡ Less = less_from (order key x.node.id) (left_true (is_lt (order key x.node.id)) (below_all order key (with_ids xs)) h) in
    let same : id ≡ key = slice_cmp-IsAntisymmetric nat_cmp-IsAntisymmetric id key tie in
    ap (λ r. cond (is_eq r) (Some x) (find order id (with_ids xs))) (ap (λ k. order k x.node.id) same ∙ less)
    ∙ not_later id key xs (right_true (is_lt (order key x.node.id)) (below_all order key (with_ids xs)) h) tie

below_filter : (p : Member → Bool) (key : List ℕ) (members : List Member) → T (below_all order key (with_ids members)) → T (below_all order key (with_ids (filter p members)))
below_filter p key [] h = tt
below_filter p key (x ∷ xs) h =
    let rest = below_filter p key xs (right_true (is_lt (order key x.node.id)) (below_all order key (with_ids xs)) h) in
    elim (p x) as (λ b. T (below_all order key (with_ids (cond b (x ∷ filter p xs) (filter p xs))))) [
      | true ↦ both_true (is_lt (order key x.node.id)) (below_all order key (with_ids (filter p xs))) (left_true (is_lt (order key x.node.id)) (below_all order key (with_ids xs)) h) rest
      | false ↦ rest
    ]

-- some of the members are in order too
pub filter_order : (p : Member → Bool) (members : List Member) → T (is_sorted order (with_ids members)) → T (is_sorted order (with_ids (filter p members)))
filter_order p [] h = tt
filter_order p (x ∷ xs) h =
    let rest = filter_order p xs (right_true (below_all order x.node.id (with_ids xs)) (is_sorted order (with_ids xs)) h) in
    elim (p x) as (λ b. T (is_sorted order (with_ids (cond b (x ∷ filter p xs) (filter p xs))))) [
      | true ↦ both_true (below_all order x.node.id (with_ids (filter p xs))) (is_sorted order (with_ids (filter p xs))) (below_filter p x.node.id xs (left_true (below_all order x.node.id (with_ids xs)) (is_sorted order (with_ids xs)) h)) rest
      | false ↦ rest
    ]

abbrev pub kept_if : (Member → Bool) → Member → Option Member
kept_if p member = cond (p member) (Some member) None

passed : (b : Bool) (id : List ℕ) (x : Member) (xs : List Member) → is_eq (order id x.node.id) ≡ false
    → find order id (with_ids (cond b (x ∷ xs) xs)) ≡ find order id (with_ids xs)
passed true id x xs e = ap (λ tie. cond tie (Some x) (find order id (with_ids xs))) e
passed false id x xs e = refl

find_filter : (p : Member → Bool) (id : List ℕ) (members : List Member) → T (is_sorted order (with_ids members))
    → find order id (with_ids (filter p members)) ≡ option_and_then (kept_if p) (find order id (with_ids members))
find_filter p id [] h = refl
find_filter p id (x ∷ xs) h =
    let rest = find_filter p id xs (right_true (below_all order x.node.id (with_ids xs)) (is_sorted order (with_ids xs)) h) in
    elim (order id x.node.id) as (λ r. order id x.node.id ≡ r → find order id (with_ids (cond (p x) (x ∷ filter p xs) (filter p xs))) ≡ option_and_then (kept_if p) (cond (is_eq r) (Some x) (find order id (with_ids xs)))) [
      | Less ↦ λ e. passed (p x) id x (filter p xs) (ap is_eq e) ∙ rest
      | Equal ↦ λ e. elim (p x) as (λ b. p x ≡ b → find order id (with_ids (cond b (x ∷ filter p xs) (filter p xs))) ≡ cond b (Some x) None) [
        | true ↦ λ _. ap (λ r. cond (is_eq r) (Some x) (find order id (with_ids (filter p xs)))) e
        | false ↦ λ _. rest ∙ ap (option_and_then (kept_if p)) (not_later id x.node.id xs (left_true (below_all order x.node.id (with_ids xs)) (is_sorted order (with_ids xs)) h) e)
      ] refl
      | Greater ↦ λ e. passed (p x) id x (filter p xs) (ap is_eq e) ∙ rest
    ] refl

-- what a filter leaves of the nodes
pub get_filter : (p : Member → Bool) (members : List Member) (id : List ℕ) → AreInOrder members → fin.get (nodes_of (filter p members)) id ≡ option_and_then (kept_if p) (fin.get (nodes_of members) id)
get_filter p members id sorted =
    let h = subst T (sym sorted) tt in
    get-from_sorted order (with_ids (filter p members)) id (filter_order p members h) ∙ find_filter p id members h
    ∙ ap (option_and_then (kept_if p)) (sym (get-from_sorted order (with_ids members) id h))

pub filter_in_order : (p : Member → Bool) (members : List Member) → AreInOrder members → AreInOrder (filter p members)
filter_in_order p members sorted = truly _ (filter_order p members (subst T (sym sorted) tt))

-- what is done to a member that is there
pub at_member : (step : Member → Nodes) (members : List Member) (at : ℕ) (id : List ℕ) (x : Member) → IsPlace id members at → x ≡ get_or members at x
    → option_map_or step (fin.get (nodes_of members) id) (nodes_of members) ≡ step x
at_member step members at id x place is = ap (λ found. option_map_or step found (nodes_of members)) (place.found x ∙ ap Some (sym is))

-- a member that stands there and gets other reports
pub told_anew : (members : List Member) (at : ℕ) (id : List ℕ) (x : Member) (now : ℕ) (reports : Reports) → AreInOrder members → IsPlace id members at → x ≡ get_or members at x
    → AreInOrder (set members at (record { node = x.node; heard = now; reports = reports }))
    × (nodes_of (set members at (record { node = x.node; heard = now; reports = reports })) ≡ fin.insert (nodes_of members) id (record { node = x.node; heard = now; reports = reports }))
told_anew members at id x now reports sorted place is =
    changed members at id (record { node = x.node; heard = now; reports = reports }) sorted place (ap (λ member. member.node.id) is ∙ sym (place.same x))

-- the nodes without one that isn't there
pub remove_none : (nodes : Nodes) (id : List ℕ) → fin.get nodes id ≡ None → nodes ≡ fin.remove nodes id
remove_none nodes id none = same_map nat_list_cmp_total (slice_cmp-IsAntisymmetric nat_cmp-IsAntisymmetric) _ _ (λ q.
    sym (get-remove nat_list_cmp_total nodes id q
    ∙ elim (order q id) as (λ r. order q id ≡ r → cond (is_eq r) None (fin.get nodes q) ≡ fin.get nodes q) [
      | Less ↦ λ _. refl
      | Equal ↦ λ e. sym none ∙ get_tied nat_list_cmp_total nodes q id e
      | Greater ↦ λ _. refl
    ] refl))

others : (id : List ℕ) (members : List Member) → with_ids (filter (λ member. not (has_id id member)) members) ≡ where_key order (λ key. not (eq_by_cmp order id key)) (with_ids members)
others id [] = refl
others id (x ∷ xs) =
    elim (has_id id x) as (λ b. has_id id x ≡ b → with_ids (cond (not b) (x ∷ filter (λ member. not (has_id id member)) xs) (filter (λ member. not (has_id id member)) xs))
    ≡ cond (not (eq_by_cmp order id x.node.id)) ((x.node.id, x) ∷ where_key order (λ key. not (eq_by_cmp order id key)) (with_ids xs)) (where_key order (λ key. not (eq_by_cmp order id key)) (with_ids xs))) [
      | true ↦ λ e. others id xs ∙ sym (ap (λ b. cond (not b) ((x.node.id, x) ∷ where_key order (λ key. not (eq_by_cmp order id key)) (with_ids xs)) (where_key order (λ key. not (eq_by_cmp order id key)) (with_ids xs))) (sym (texts_ties id x.node.id) ∙ e))
      | false ↦ λ e. ap (λ rest. (x.node.id, x) ∷ rest) (others id xs) ∙ sym (ap (λ b. cond (not b) ((x.node.id, x) ∷ where_key order (λ key. not (eq_by_cmp order id key)) (with_ids xs)) (where_key order (λ key. not (eq_by_cmp order id key)) (with_ids xs))) (sym (texts_ties id x.node.id) ∙ e))
    ] refl

turned : (id other : List ℕ) → eq_by_cmp order id other ≡ eq_by_cmp order other id
turned = (eq_by_cmp_equiv nat_list_cmp_total).symm

negated : (b : Bool) (found : Option Member) → cond (not b) found None ≡ cond b None found
negated true found = refl
negated false found = refl

-- the nodes that are left
pub left_nodes : (id : List ℕ) (members : List Member) → AreInOrder members → nodes_of (filter (λ member. not (has_id id member)) members) ≡ fin.remove (nodes_of members) id
left_nodes id members sorted =
    let h = subst T (sym sorted) tt in
    same_map nat_list_cmp_total (slice_cmp-IsAntisymmetric nat_cmp-IsAntisymmetric) _ _ (λ q.
    get-from_sorted order (with_ids (filter (λ member. not (has_id id member)) members)) q (filter_order (λ member. not (has_id id member)) members h)
    ∙ ap (find order q) (others id members)
    ∙ find-where_key order (λ key. not (eq_by_cmp order id key)) q (λ x tie. ap (λ r. not (is_eq r)) (sym (alike_right nat_list_cmp_total q x id tie))) (with_ids members)
    ∙ ap (λ b. cond (not b) (find order q (with_ids members)) None) (turned id q)
    ∙ negated (eq_by_cmp order q id) (find order q (with_ids members))
    ∙ ap (cond (eq_by_cmp order q id) None) (sym (get-from_sorted order (with_ids members) q h))
    ∙ sym (get-remove nat_list_cmp_total (nodes_of members) id q))

-- a node that is there
pub present : (id : List ℕ) (members : List Member) (at : ℕ) → IsPlace id members at → IsSome (fin.get (nodes_of members) id)
present id [] at place = absurd (let h = place.within in omega (arith, h))
present id (x ∷ xs) at place = subst IsSome (sym (place.found x)) refl

pub match_some : (found : Option Member) (P Q : Type 0) → IsSome found → Q → MatchOption found P (λ _. Q)
match_some None P Q some q = cc
match_some (Some x) P Q some q = q

pub few_set : (members : List Member) (at : ℕ) (member : Member) → length members ≤ 1024 → length (set members at member) ≤ 1024
few_set members at member le = omega (arith, length-set members at member)

pub few_insert : (members : List Member) (at : ℕ) (member : Member) → at ≤ length members → length members < 1024 → length (insert members at member) ≤ 1024
few_insert members at member within lt = let e = length-insert members at member within in omega (arith, e)

filter-le : (p : Member → Bool) (members : List Member) → length (filter p members) ≤ length members
filter-le p [] = omega arith
filter-le p (x ∷ xs) =
    let rest = filter-le p xs in
    elim (p x) as (λ b. length (cond b (x ∷ filter p xs) (filter p xs)) ≤ suc (length xs)) [ true ↦ omega (arith, rest) | false ↦ omega (arith, rest) ]

pub few_filter : (p : Member → Bool) (members : List Member) → length members ≤ 1024 → length (filter p members) ≤ 1024
few_filter p members le = let fewer = filter-le p members in omega (arith, fewer)
