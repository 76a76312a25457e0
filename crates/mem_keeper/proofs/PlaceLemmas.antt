-- Where a path stands beside those below a top that are past another.
use Rattle.std.proofs.Common.{◌≡◌, ◌≢◌, ℕ, ◌+◌, ◌<◌, suc, Bool, true, false, ◌&&◌, List, [], ◌∷◌, ◌++◌, length, take, drop, Option, Some, None, Ordering, refl, sym, ap, ◌∙◌, subst, append_assoc, arith, map, IsTrue}
use Rattle.std.specs.Prelude.{nat_lt, ◌==◌}
use Rattle.std.proofs.lemmas.List.{take-append-drop, length-append, take_all}
use Rattle.std.proofs.Math.Seq.{take-append_seam}
use Rattle.std.specs.declared.cmp.Ordering.TheVariants.{Less, Equal, Greater}
use Rattle.std.specs.Ordering.{is_lt, nat_cmp, ordering_then, ordering_reverse}
use Rattle.std.specs.Option.{option_map}
use Rattle.std.specs.List.{last_or}
use Rattle.std.specs.Cmp.{tied_itself}
use Rattle.std.specs.Cmp.Lexicographic.{slice_cmp, nat_list_cmp_total}
use Rattle.std.proofs.lemmas.Bool.Decides.{nat_tests}
use Rattle.weed_base.specs.Path.{IsBelow}
use Rattle.weed_base.proofs.PathLemmas.{last_or-append}
use Rattle.weed_base.specs.PathOrder.{path_cmp, path_cmp_total, path_cmp-IsAntisymmetric}
use Rattle.name_core.specs.Namespace.{is_within}
use Rattle.std.specs.List.{All}
use Rattle.std.specs.Option.{unwrap_or}
use Rattle.std.proofs.lemmas.List.Elements.{All-head, All-tail}
use Rattle.name_core.specs.Pages.{Named, IsNamed, is_past, child_path, is_child_past, in_directory}
use Rattle.mem_keeper.specs.Names.{child_of}
use Rattle.mem_keeper.specs.declared.places.Place.TheVariants.{Ahead, Behind}
use Rattle.mem_keeper.specs.Places.{StandsAt, IsNoneBetween}
use Rattle.mem_keeper.proofs.PutLemmas.{front_so, back_so, both_so, is_less}
use Rattle.mem_keeper.proofs.WithinLemmas.{front_is_within, front_of_within, is_or_below, not_before, between}
use Rattle.mem_keeper.proofs.WithoutLemmas.{before_is_apart, turned_less}

not_so : (b : Bool) → (b ≡ true → ⊥) → b ≡ false
not_so true wrong = absurd (wrong refl)
not_so false wrong = refl

below_is_within : (top path : List (List ℕ)) → IsBelow path top → is_within top path ≡ true
below_is_within top path below =
    front_is_within top path (ap (take (length top)) below.2 ∙ take-append_seam top (below.0 ∷ below.1))

within_is_top : (top path : List (List ℕ)) → is_within top path ≡ true → ¬ IsBelow path top → (path ≢ top) → ⊥
within_is_top top path within apart other =
    let split : path ≡ top ++ drop (length top) path = sym (take-append-drop (length top) path) ∙ ap (λ front. front ++ drop (length top) path) (sym (front_of_within top path within)) in
    is_or_below top path (drop (length top) path) split other apart

not_itself : (p : List (List ℕ)) → path_cmp p p ≡ Less → ⊥
not_itself p less = let turned : path_cmp p p ≡ ordering_reverse Less = path_cmp_total.antisymm p p ∙ ap ordering_reverse less in let wrong : Less ≡ Greater = sym less ∙ turned in cc

module _ (top : List (List ℕ)) (after : Option (List (List ℕ))) (deep : List (List ℕ) → Bool) (lower : (path : List (List ℕ)) → deep path ≡ true → length top < length path) where
  abbrev wanted : List (List ℕ) → Bool
  wanted path = is_within top path && (deep path && is_past after path)

  apart_is_not : (path : List (List ℕ)) → is_within top path ≡ false → wanted path ≡ false
  apart_is_not path apart = ap (λ b. b && (deep path && is_past after path)) apart

  pub stands_before : (path : List (List ℕ)) → path_cmp path top ≡ Less → StandsAt wanted path Ahead
  stands_before path before = (
    apart_is_not path (before_is_apart top path before),
    λ other less. apart_is_not other (before_is_apart top other (path_cmp_total.trans other path top less before)),
  )

  top_is_not : (path : List (List ℕ)) → path ≡ top → wanted path ≡ false
  top_is_not path is = not_so _ (λ so. let far : length top < length path = lower path (front_so _ _ (back_so _ _ so)) in absurd (omega (arith, far, ap length is)))

  pub stands_at_top : (path : List (List ℕ)) → path_cmp path top ≡ Equal → StandsAt wanted path Ahead
  stands_at_top path tied =
      let is : path ≡ top = path_cmp-IsAntisymmetric path top tied in (
        top_is_not path is,
        λ other less. apart_is_not other (before_is_apart top other (subst (λ p. path_cmp other p ≡ Less) is less)),
      )

  pub stands_behind : (path : List (List ℕ)) → path_cmp path top ≡ Greater → ¬ IsBelow path top → StandsAt wanted path Behind
  stands_behind path past apart =
      let turned : path_cmp top path ≡ Less = turned_less top path past in
      let out : is_within top path ≡ true → ⊥ = λ within. within_is_top top path within apart (λ is. not_itself top (subst (λ p. path_cmp top p ≡ Less) is turned)) in (
        apart_is_not path (not_so _ out),
        λ other less. apart_is_not other (not_so _ (λ within. out (between top path other within turned less))),
      )

  past_so : (path : List (List ℕ)) → is_past after path ≡ false → wanted path ≡ false
  past_so path isnt = not_so _ (λ so. let wrong : true ≡ false = sym (back_so _ _ (back_so _ _ so)) ∙ isnt in cc)

  pub stands_ahead : (path : List (List ℕ)) → is_past after path ≡ false → StandsAt wanted path Ahead
  stands_ahead path isnt = (past_so path isnt, λ other less. past_so other (not_so _ (λ so. let wrong : true ≡ false = sym (later after other path so less) ∙ isnt in cc)))
    where
      later : (after : Option (List (List ℕ))) (x y : List (List ℕ)) → is_past after x ≡ true → path_cmp x y ≡ Less → is_past after y ≡ true
      later None x y past less = refl
      later (Some a) x y past less = ap is_lt (path_cmp_total.trans a x y (is_less _ past) less)

  pub stands_within : (path : List (List ℕ)) → IsBelow path top → deep path ≡ true → is_past after path ≡ true → wanted path ≡ true
  stands_within path below low past = both_so _ _ (below_is_within top path below) (both_so _ _ low past)

  pub stands_apart : (path : List (List ℕ)) → deep path ≡ false → wanted path ≡ false
  stands_apart path isnt = not_so _ (λ so. let wrong : true ≡ false = sym (front_so _ _ (back_so _ _ so)) ∙ isnt in cc)

lt_so : (a b : ℕ) → nat_lt a b ≡ true → a < b
lt_so a b e = grind (arith, nat_tests)

so_lt : (a b : ℕ) → a < b → nat_lt a b ≡ true
so_lt a b e = grind (arith, nat_tests)

eq_so : (a b : ℕ) → (a == b) ≡ true → a ≡ b
eq_so a b e = grind (arith, nat_tests)

so_eq : (a b : ℕ) → a ≡ b → (a == b) ≡ true
so_eq a b e = grind (arith, nat_tests)

so_not_eq : (a b : ℕ) → a ≢ b → (a == b) ≡ false
so_not_eq a b other = not_so _ (λ e. other (eq_so a b e))

-- Paths below a top have more parts, and children one more.
pub is_lower : (top path : List (List ℕ)) → nat_lt (length top) (length path) ≡ true → length top < length path
is_lower top path e = lt_so _ _ e

pub is_lower_child : (top path : List (List ℕ)) → (length path == length top + 1) ≡ true → length top < length path
is_lower_child top path e = let is : length path ≡ length top + 1 = eq_so _ _ e in omega (arith, is)

pub below_is_lower : (top path : List (List ℕ)) → IsBelow path top → nat_lt (length top) (length path) ≡ true
below_is_lower top path below = so_lt _ _ (omega (arith, ap length below.2, length-append top (below.0 ∷ below.1)))

pub as_long : (a b : ℕ) → a ≡ b → (a == b) ≡ true
as_long = so_eq

pub not_as_long : (a b : ℕ) → a ≢ b → (a == b) ≡ false
not_as_long = so_not_eq

-- The paths of two names in a directory are ordered by the names first.
same_front : (dir a b : List (List ℕ)) → path_cmp (dir ++ a) (dir ++ b) ≡ path_cmp a b
same_front [] a b = refl
same_front (part ∷ dir) a b =
    ap (λ o. ordering_then o (path_cmp (dir ++ a) (dir ++ b))) (tied part) ∙ same_front dir a b
  where
    tied : (part : List ℕ) → slice_cmp nat_cmp part part ≡ Equal
    tied part = tied_itself nat_list_cmp_total part

front_of_child : (dir : List (List ℕ)) (part : List ℕ) (rest : List (List ℕ)) (n : ℕ) → n ≡ length dir + 1 → take n (dir ++ part ∷ rest) ≡ dir ++ part ∷ []
front_of_child [] part rest n is = ap (λ n. take n (part ∷ rest)) is
front_of_child (d ∷ dir) part rest n is =
    ap (λ n. take n (d ∷ (dir ++ part ∷ rest))) (is_suc n is) ∙ ap (λ more. d ∷ more) (front_of_child dir part rest (length dir + 1) refl)
  where
    is_suc : (n : ℕ) → n ≡ length (d ∷ dir) + 1 → n ≡ suc (length dir + 1)
    is_suc n is = omega (arith, is)

last_of_child : (dir : List (List ℕ)) (part : List ℕ) (none : Option (List ℕ)) → last_or none (dir ++ part ∷ []) ≡ Some part
last_of_child dir part none = last_or-append dir part none

-- A name of a child, and whether the path is past that of another name
pub child_name : (dir path child : List (List ℕ)) (n : ℕ) (name : Option (List ℕ)) → IsBelow path dir → n ≡ length dir + 1 → child ≡ take n path
    → name ≡ last_or None child → (rest : List (List ℕ)) × (part : List ℕ) × (name ≡ Some part) × (path ≡ dir ++ part ∷ rest)
child_name dir path child n name below is front last = (
  below.1,
  below.0,
  last ∙ ap (last_or None) (front ∙ ap (take n) below.2 ∙ front_of_child dir below.0 below.1 n is) ∙ last_of_child dir below.0 None,
  below.2,
)

pub past_name : (dir path : List (List ℕ)) (after part : List ℕ) (rest : List (List ℕ)) → path ≡ dir ++ part ∷ rest
    → is_past (option_map (child_path dir) (Some after)) path ≡ is_lt (ordering_then (slice_cmp nat_cmp after part) (path_cmp [] rest))
past_name dir path after part rest is = ap (λ p. is_lt (path_cmp (dir ++ after ∷ []) p)) is ∙ ap is_lt (same_front dir (after ∷ []) (part ∷ rest))

pub more_than_one : (rest : List (List ℕ)) (n m : ℕ) → m ≡ n + length rest → is_lt (path_cmp [] rest) ≡ nat_lt n m
more_than_one [] n m is = sym (not_so _ (λ e. let far : n < m = lt_so n m e in absurd (omega (arith, far, is))))
more_than_one (part ∷ rest) n m is = sym (so_lt n m (omega (arith, is)))

-- Whether a path below a directory is past a name's, by its own name there
pub past_as : (dir path child : List (List ℕ)) (n : ℕ) (name after : List ℕ) (o : Ordering) (told : Option (List ℕ)) → IsBelow path dir → n ≡ length dir + 1 → child ≡ take n path
    → Some name ≡ last_or None child → told ≡ Some after → o ≡ slice_cmp nat_cmp after name
    → (rest : List (List ℕ)) × (length path ≡ n + length rest) × (is_past (option_map (child_path dir) told) path ≡ is_lt (ordering_then o (path_cmp [] rest)))
past_as dir path child n name after o told below is front last told_is compared =
    let at = child_name dir path child n (Some name) below is front last in
    let part : name ≡ at.1 = some_same name at.1 at.2 in (
      at.0,
      omega (arith, ap length at.3, length-append dir (at.1 ∷ at.0), is),
      ap (λ told. is_past (option_map (child_path dir) told) path) told_is ∙ past_name dir path after at.1 at.0 at.3
          ∙ ap (λ o. is_lt (ordering_then o (path_cmp [] at.0))) (ap (slice_cmp nat_cmp after) (sym part) ∙ sym compared),
    )
  where
    some_same : (a b : List ℕ) → Some a ≡ Some b → a ≡ b
    some_same a b e = cc

-- None between two paths at or below one child is a child.
pub none_in_child : (dir least most child : List (List ℕ)) (n : ℕ) (after : Option (List ℕ)) → IsBelow least dir → n ≡ length dir + 1 → child ≡ take n least
    → IsBelow most child → IsNoneBetween (is_child_past dir after) least most
none_in_child dir least most child n after below is front under other past before =
    let there : child ≡ dir ++ below.0 ∷ [] = front ∙ ap (take n) below.2 ∙ front_of_child dir below.0 below.1 n is in
    let split : least ≡ child ++ below.1 = below.2 ∙ sym (append_assoc dir (below.0 ∷ []) below.1) ∙ ap (λ c. c ++ below.1) (sym there) in
    let at_least : is_within child least ≡ true = front_is_within child least (ap (take (length child)) split ∙ take-append_seam child below.1) in
    let behind : path_cmp child other ≡ Less = from_front child least other at_least past in
    let within : is_within child other ≡ true = between child other most (below_is_within child most under) behind before in
    not_so _ (λ so.
    let short : length other ≡ length dir + 1 = eq_so _ _ (front_so _ _ (back_so _ _ so)) in
    not_itself child (subst (λ p. path_cmp child p ≡ Less) (whole child other within (short ∙ sym (ap length there ∙ length-append dir (below.0 ∷ [])))) behind))
  where
    from_front : (c l o : List (List ℕ)) → is_within c l ≡ true → path_cmp l o ≡ Less → path_cmp c o ≡ Less
    from_front c l o within past = elim (path_cmp l c) as (λ r. path_cmp l c ≡ r → path_cmp c o ≡ Less) [
      | Less ↦ λ e. absurd (not_before c l within e)
      | Equal ↦ λ e. subst (λ p. path_cmp p o ≡ Less) (path_cmp-IsAntisymmetric l c e) past
      | Greater ↦ λ e. path_cmp_total.trans c l o (turned_less c l e) past
    ] refl

    whole : (c o : List (List ℕ)) → is_within c o ≡ true → length o ≡ length c → o ≡ c
    whole c o within long = sym (take_all (length c) o (omega (arith, long))) ∙ sym (front_of_within c o within)

-- The path of a child, by its last part
one_part : (dir path rest : List (List ℕ)) → path ≡ dir ++ rest → length path ≡ length dir + 1 → child_path dir (unwrap_or (last_or None path) []) ≡ path
one_part dir path [] split long = absurd (omega (arith, long, ap length split, length-append dir []))
one_part dir path (part ∷ []) split long =
    ap (λ p. dir ++ unwrap_or (last_or None p) [] ∷ []) split ∙ ap (λ o. dir ++ unwrap_or o [] ∷ []) (last_or-append dir part None) ∙ sym split
one_part dir path (part ∷ next ∷ rest) split long = absurd (omega (arith, long, ap length split, length-append dir (part ∷ next ∷ rest)))

pub children_are : (dir : List (List ℕ)) (after : Option (List ℕ)) (es : List Named) → All (λ item. IsNamed item × IsTrue (is_child_past dir after item.0)) es
    → in_directory dir (map child_of es) ≡ es
children_are dir after [] all = refl
children_are dir after (e ∷ es) all =
    let belongs = (All-head (λ item. IsNamed item × IsTrue (is_child_past dir after item.0)) e es all).1 in
    let split : e.0 ≡ dir ++ drop (length dir) e.0 =
    sym (take-append-drop (length dir) e.0) ∙ ap (λ front. front ++ drop (length dir) e.0) (sym (front_of_within dir e.0 (front_so _ _ belongs))) in
    λ i. (one_part dir e.0 (drop (length dir) e.0) split (eq_so _ _ (front_so _ _ (back_so _ _ belongs))) i, e.1)
    ∷ children_are dir after es (All-tail (λ item. IsNamed item × IsTrue (is_child_past dir after item.0)) e es all) i
