-- Nodes picked for a part of a choice.
use Rattle.std.proofs.Common.{◌≡◌, ℕ, ◌+◌, ◌<◌, Bool, true, false, not, ◌&&◌, ◌||◌, nat_eq, nat_lt, List, [], ◌∷◌, ◌++◌, map, length, take, get_or, inl, inr, sym, refl, ap, ◌∙◌, subst, arith}
use Rattle.std.specs.List.{All, Contains, IsDistinct, list_any}
use Rattle.std.specs.Borrow.{Bor}
use Rattle.std.specs.Cmp.Lexicographic.{pointwise}
use Rattle.std.proofs.lemmas.Cmp.{nat_list_eq_equiv}
use Rattle.std.proofs.lemmas.List.{map-append, length-map, length-append, take_more, get_or-map}
use Rattle.std.proofs.lemmas.List.Elements.{All-nil, All-push, All-weaker, Contains-append_left, Contains-push, Contains-push_cases}
use Rattle.std.proofs.lemmas.Map.Keys.{IsDistinct-push}
use Rattle.std.proofs.lemmas.Bool.Decides.{nat_tests}
use Rattle.topology.specs.declared.member.Member.{Member}
use Rattle.topology.specs.declared.placing.Part.{Part}
use Rattle.topology.specs.Choices.{id_of}
use Rattle.topology.specs.Picks.{takes, mark_of, shown, has_mark, wants, IsPick}

abbrev pub same : List ℕ → List ℕ → Bool
same = pointwise nat_eq

-- a test of references is one of what they stand for
pub any_shown : (part : Part) (mark : List ℕ) (members : List (Bor Member)) → list_any (λ member. pointwise nat_eq mark (mark_of part member.now)) members ≡ has_mark part mark (shown members)
any_shown part mark [] = refl
any_shown part mark (x ∷ xs) = ap (λ b. pointwise nat_eq mark (mark_of part x.now) || b) (any_shown part mark xs)

pub shown-push : (members : List (Bor Member)) (member : Bor Member) → shown (members ++ member ∷ []) ≡ shown members ++ member.now ∷ []
shown-push [] member = refl
shown-push (x ∷ xs) member = ap (λ rest. x.now ∷ rest) (shown-push xs member)

or_right : (a b : Bool) → b ≡ true → (a || b) ≡ true
or_right true b e = refl
or_right false b e = e

or_left : (a b : Bool) → a ≡ true → (a || b) ≡ true
or_left true b e = refl
or_left false b e = cc

-- what has been picked stays
any_push : (part : Part) (mark : List ℕ) (picked : List Member) (x : Member) → has_mark part mark picked ≡ true → has_mark part mark (picked ++ x ∷ []) ≡ true
any_push part mark [] x e = cc
any_push part mark (y ∷ ys) x e =
    elim (pointwise nat_eq mark (mark_of part y)) as (λ b. (b || has_mark part mark ys) ≡ true → (b || has_mark part mark (ys ++ x ∷ [])) ≡ true) [
      | true ↦ λ _. refl
      | false ↦ λ e. any_push part mark ys x e
    ] e

any_last : (part : Part) (picked : List Member) (x : Member) → has_mark part (mark_of part x) (picked ++ x ∷ []) ≡ true
any_last part [] x = or_left _ _ (nat_list_eq_equiv.refl (mark_of part x))
any_last part (y ∷ ys) x = or_right (pointwise nat_eq (mark_of part x) (mark_of part y)) _ (any_last part ys x)

pub none_picked : (part : Part) (main : Member) (count : ℕ) (picked : List Member) → picked ≡ [] → IsPick part main count [] picked
unfolding IsDistinct
none_picked part main count picked is = subst (λ picked. IsPick part main count [] picked) (sym is) (record {
  differ = tt;
  taken = All-nil (λ member. takes part main member ≡ true);
  there = All-nil (Contains []);
  most = omega arith;
  all = λ _ member c _. absurd (omega (arith, c.1));
})

longer : (free picked : List Member) (x : Member) → All (Contains free) picked → All (Contains (free ++ x ∷ [])) picked
longer free picked x there = All-weaker (Contains free) (Contains (free ++ x ∷ [])) (λ m c. Contains-append_left free (x ∷ []) m c) picked there

-- one more is picked
pub picked_more : (part : Part) (main : Member) (count : ℕ) (free picked : List Member) (x : Member) → IsPick part main count free picked
    → length picked < count → takes part main x ≡ true → has_mark part (mark_of part x) picked ≡ false → IsPick part main count (free ++ x ∷ []) (picked ++ x ∷ [])
picked_more part main count free picked x is short takes_x new = record {
  differ = subst (IsDistinct same) (sym (map-append (mark_of part) picked (x ∷ []))) (IsDistinct-push nat_list_eq_equiv (map (mark_of part) picked) (mark_of part x) is.differ new);
  taken = All-push (λ member. takes part main member ≡ true) picked x is.taken takes_x;
  there = All-push (Contains (free ++ x ∷ [])) picked x (longer free picked x is.there) (Contains-push free x);
  most = omega (arith, length-append picked (x ∷ []));
  all = λ lt member has takes_member. elim (Contains-push_cases free x member has) [
    | inl before ↦ any_push part (mark_of part member) picked x (is.all (omega (arith, length-append picked (x ∷ []))) member before takes_member)
    | inr e ↦ subst (λ m. has_mark part (mark_of part m) (picked ++ x ∷ []) ≡ true) e (any_last part picked x)
  ];
}

-- one more is looked at, and none wanted
pub passed_more : (part : Part) (main : Member) (count : ℕ) (free picked : List Member) (x : Member) → IsPick part main count free picked
    → (length picked < count → takes part main x ≡ true → has_mark part (mark_of part x) picked ≡ true) → IsPick part main count (free ++ x ∷ []) picked
passed_more part main count free picked x is old = record {
  differ = is.differ;
  taken = is.taken;
  there = longer free picked x is.there;
  most = is.most;
  all = λ lt member has takes_member. elim (Contains-push_cases free x member has) [
    | inl before ↦ is.all lt member before takes_member
    | inr e ↦ subst (λ m. has_mark part (mark_of part m) picked ≡ true) e (old lt (ap (takes part main) e ∙ takes_member))
  ];
}

wanted : (a b c : Bool) → (a && b && not c) ≡ true → (a ≡ true) × (b ≡ true) × (c ≡ false)
wanted true true false e = (refl, refl, refl)
wanted true true true e = cc
wanted true false c e = cc
wanted false b c e = cc

unwanted : (a b c : Bool) → (a && b && not c) ≡ false → a ≡ true → b ≡ true → c ≡ true
unwanted true true true e _ _ = refl
unwanted true true false e _ _ = cc
unwanted true false c e _ h = cc
unwanted false b c e h _ = cc

-- the first of the next members, by whether it is wanted
pub pick_more : (part : Part) (main : Member) (count : ℕ) (free picked : List Member) (k : ℕ) (x : Member) → k < length free → x ≡ get_or free k x → IsPick part main count (take k free) picked
    → wants part main count picked x ≡ true → IsPick part main count (take (k + 1) free) (picked ++ x ∷ [])
pick_more part main count free picked k x lt at is w =
    let h = wanted (nat_lt (length picked) count) (takes part main x) (has_mark part (mark_of part x) picked) w in
    let short : length picked < count = let e : nat_lt (length picked) count ≡ true = h.0 in grind (arith, nat_tests) in
    let e : take (k + 1) free ≡ take k free ++ x ∷ [] = take_more free k x lt ∙ ap (λ y. take k free ++ y ∷ []) (sym at) in
    subst (λ l. IsPick part main count l (picked ++ x ∷ [])) (sym e) (picked_more part main count (take k free) picked x is short h.1 h.2)

pub pass_more : (part : Part) (main : Member) (count : ℕ) (free picked : List Member) (k : ℕ) (x : Member) → k < length free → x ≡ get_or free k x → IsPick part main count (take k free) picked
    → wants part main count picked x ≡ false → IsPick part main count (take (k + 1) free) picked
pass_more part main count free picked k x lt at is w =
    let e : take (k + 1) free ≡ take k free ++ x ∷ [] = take_more free k x lt ∙ ap (λ y. take k free ++ y ∷ []) (sym at) in
    let old : length picked < count → takes part main x ≡ true → has_mark part (mark_of part x) picked ≡ true =
    λ short t. unwanted (nat_lt (length picked) count) (takes part main x) (has_mark part (mark_of part x) picked) w (grind (arith, nat_tests)) t in
    subst (λ l. IsPick part main count l picked) (sym e) (passed_more part main count (take k free) picked x is old)

-- what is told of a member that is wanted but for its mark
pub wants_is : (a b c h : Bool) → a ≡ true → b ≡ true → h ≡ c → not h ≡ (a && b && not c)
wants_is true true c h _ _ e = ap not e
wants_is false b c h e _ _ = cc
wants_is true false c h _ e _ = cc

-- the ids of one member more
pub ids_more : (members : List (Bor Member)) (k : ℕ) (x : Bor Member) → k < length members → x ≡ get_or members k x
    → map id_of (take (k + 1) (shown members)) ≡ map id_of (take k (shown members)) ++ id_of x.now ∷ []
ids_more members k x lt at =
    ap (map id_of) (take_more (shown members) k x.now (omega (arith, length-map members (λ (m : Bor Member). m.now)))
    ∙ ap (λ y. take k (shown members) ++ y ∷ []) (get_or-map (λ (m : Bor Member). m.now) members k x x.now lt ∙ ap (λ (m : Bor Member). m.now) (sym at)))
    ∙ map-append id_of (take k (shown members)) (x.now ∷ [])
