-- A move leaves a well-formed namespace after each change: what is below comes under its new top parents first.
use Rattle.std.proofs.Common.{◌≡◌, ◌≢◌, ◌⊎◌, ℕ, ◌+◌, ◌<◌, Bool, true, false, cond, not, List, [], ◌∷◌, ◌++◌, length, drop, map, Option, Some, None, Ok, refl, sym, ap, ◌∙◌, subst, inl, inr, arith, length-append, append_assoc, append-nil}
use Rattle.std.specs.Prelude.{◌&&◌, ◌||◌, IsSome, IsSomeAnd, is_some, nat_lt, ok_or}
use Rattle.std.specs.FinMap.{get, insert, entries, get-entries}
use Rattle.std.specs.FinMap.Entries.{find, find-where_key}
use Rattle.std.specs.Ordering.{is_eq}
use Rattle.std.specs.declared.cmp.Ordering.TheVariants.{Less}
use Rattle.std.specs.Cmp.{tied_itself}
use Rattle.std.proofs.lemmas.Bool.{cases_Bool, ltb-true, lt-ltb, or_parts}
use Rattle.std.proofs.lemmas.List.{append_cancel_left}
use Rattle.weed_base.specs.PathOrder.{path_cmp, path_cmp_total, path_cmp-IsAntisymmetric}
use Rattle.entry.specs.declared.entry.Entry.{Entry}
use Rattle.entry.specs.declared.entry.Kind.{Kind}
use Rattle.entry.specs.declared.entry.Kind.TheVariants.{Directory, File}
use Rattle.entry.specs.Entry.{is_file_kind}
use Rattle.name_core.specs.declared.change.Change.{Change}
use Rattle.name_core.specs.declared.change.Change.TheVariants.{Put, Drop}
use Rattle.name_core.specs.declared.command.Refusal.TheVariants.{RootFixed, NotFound, IntoItself, Exists, PathLimit}
use Rattle.name_core.specs.Namespace.{Namespace, step, after_changes, is_within, IsDirectoryIn, IsWellFormed, KeepsWellFormed}
use Rattle.name_core.specs.Pages.{Named, is_below_past}
use Rattle.name_core.specs.RecordText.{directory_of, name_of}
use Rattle.records.proofs.PathTexts.{directory_and_name}
use Rattle.name_core.proofs.Paths.{cases_path, get-insert_same, get-insert_other, filled-append}
use Rattle.name_core.proofs.NamespaceLemmas.{IsDirectoryIn-found, KeepsWellFormed-append}
use Rattle.name_plans.specs.Commands.{below, moved_entry, moving, parents_at, vacated}
use Rattle.name_plans.specs.Moving.{moved_put, outgrows, puts_moved}
use Rattle.name_plans.specs.Refusing.{refuse_if, unless, is_root}
use Rattle.name_plans.specs.Writing.{is_directory}
use Rattle.name_plans.proofs.Drops.{stays, below_within, directory_stays, drop_keeps}
use Rattle.name_plans.proofs.Keeps.{MakesParents, and_then_ok, found_or_not, not_root, parents_make, put_keeps, put_path_keeps, same_changes, unless_first, unless_ok}
use Rattle.name_plans.proofs.PageLoop.{Rises, back_so, below_is_past, below_rises, front_so, is_less}
use Rattle.name_plans.proofs.Within.{join_within, split_within}

-- A directory other than the root is found.
some_directory : (o : Option Entry) → IsSomeAnd o (λ entry. entry.kind ≡ Directory) → (entry : Entry) × (o ≡ Some entry) × (entry.kind ≡ Directory)
some_directory None is = absurd is
some_directory (Some entry) is = (entry, refl, is)

directory_found : (names : Namespace) (path : List (List ℕ)) → path ≢ [] → IsDirectoryIn names path → (entry : Entry) × (get names path ≡ Some entry) × (entry.kind ≡ Directory)
directory_found names [] filled is = absurd (filled refl)
directory_found names (part ∷ parts) filled is = some_directory (get names (part ∷ parts)) is

none_or_some : (o : Option Entry) (entry : Entry) → o ≡ None → o ≡ Some entry → ⊥
none_or_some o entry none some = cc

-- Where nothing is, nothing is below.
child_of_nothing : (now : Namespace) (top : List (List ℕ)) (part : List ℕ) → IsWellFormed now → top ≢ [] → get now top ≡ None → get now (top ++ part ∷ []) ≡ None
child_of_nothing now top part formed filled none =
    elim (found_or_not (get now (top ++ part ∷ []))) [
      | inl is ↦ is
      | inr (entry, is) ↦
          let parent = directory_found now top filled (formed.parents top part (ap is_some is)) in
          absurd (none_or_some (get now top) parent.0 none parent.1)
    ]

below_nothing : (now : Namespace) (top rest : List (List ℕ)) → IsWellFormed now → top ≢ [] → get now top ≡ None → get now (top ++ rest) ≡ None
below_nothing now top [] formed filled none = ap (get now) (append-nil top) ∙ none
below_nothing now top (part ∷ rest) formed filled none =
    ap (get now) (sym (append_assoc top (part ∷ []) rest))
    ∙ below_nothing now (top ++ part ∷ []) rest formed (filled-append top part) (child_of_nothing now top part formed filled none)

-- A path before all of a list in order isn't in it.
missed : (q : List (List ℕ)) (x : Named) (l : List Named) → Rises (x ∷ l) → path_cmp q x.0 ≡ Less → find path_cmp q (x ∷ l) ≡ None
missed q x [] rises less = ap (λ o. cond (is_eq o) (Some x.1) None) less
missed q x (y ∷ l) rises less =
    ap (λ o. cond (is_eq o) (Some x.1) (find path_cmp q (y ∷ l))) less
    ∙ missed q y l (back_so _ _ rises) (path_cmp_total.trans q x.0 y.0 less (is_less _ (front_so _ _ (front_so _ _ rises))))

not_again : (x : Named) (l : List Named) → Rises (x ∷ l) → find path_cmp x.0 l ≡ None
not_again x [] rises = refl
not_again x (y ∷ l) rises = missed x.0 y l (back_so _ _ rises) (is_less _ (front_so _ _ (front_so _ _ rises)))

first_found : (x : Named) (l : List Named) → find path_cmp x.0 (x ∷ l) ≡ Some x.1
first_found x l = ap (λ o. cond (is_eq o) (Some x.1) (find path_cmp x.0 l)) (tied_itself path_cmp_total x.0)

other_found : (q : List (List ℕ)) (x : Named) (l : List Named) → q ≢ x.0 → find path_cmp q (x ∷ l) ≡ find path_cmp q l
other_found q x l other =
    elim (cases_path q x.0) [
      | inl same ↦ absurd (other same)
      | inr apart ↦ ap (λ b. cond b (Some x.1) (find path_cmp q l)) apart.0
    ]

-- Each of the items stands below a path of the namespace.
abbrev Stand : Namespace → List (List ℕ) → List Named → Type 0
Stand names from items = (path : List (List ℕ)) (entry : Entry) → find path_cmp path items ≡ Some entry → (is_below_past from None path ≡ true) × (get names path ≡ Some entry)

later_stand : (names : Namespace) (from : List (List ℕ)) (x : Named) (l : List Named) → Rises (x ∷ l) → Stand names from (x ∷ l) → Stand names from l
later_stand names from x l rises stand = λ path entry is.
    elim (cases_path path x.0) [
      | inl same ↦ absurd (none_or_some (find path_cmp path l) entry (ap (λ q. find path_cmp q l) same ∙ not_again x l rises) is)
      | inr apart ↦ stand path entry (other_found path x l apart.1 ∙ is)
    ]

guarded : (b : Bool) (o : Option Entry) (entry : Entry) → cond b o None ≡ Some entry → (b ≡ true) × (o ≡ Some entry)
guarded true o entry is = (refl, is)
guarded false o entry is = cc

-- A look-up among what is below
find_below : (names : Namespace) (from path : List (List ℕ)) → find path_cmp path (below names from) ≡ cond (is_below_past from None path) (get names path) None
find_below names from path =
    find-where_key path_cmp (λ q. is_below_past from None q) path (λ other tied. ap (is_below_past from None) (sym (path_cmp-IsAntisymmetric path other tied))) (entries names)
    ∙ ap (λ o. cond (is_below_past from None path) o None) (sym (get-entries names path))

below_stand : (names : Namespace) (from : List (List ℕ)) → Stand names from (below names from)
below_stand names from = λ path entry is. guarded (is_below_past from None path) (get names path) entry (sym (find_below names from path) ∙ is)

-- What was below `from` is under `to` but for the items that are left, and nothing else is there.
record Moved (names now : Namespace) (from to : List (List ℕ)) (left : List Named) : Type 0 where
  pub formed : IsWellFormed now
  pub only : (rest : List (List ℕ)) → (get now (to ++ rest) ≡ None) ⊎ (get now (to ++ rest) ≡ get names (from ++ rest))
  pub there : (rest : List (List ℕ)) → IsSome (get names (from ++ rest)) → (get now (to ++ rest) ≡ get names (from ++ rest)) ⊎ IsSome (find path_cmp (from ++ rest) left)

-- The next item, and where it stands
record Next (names : Namespace) (from : List (List ℕ)) (item : Named) : Type 0 where
  pub up : List (List ℕ)
  pub name : List ℕ
  pub rest_is : drop (length from) item.0 ≡ up ++ name ∷ []
  pub split : item.0 ≡ from ++ drop (length from) item.0
  pub found : get names item.0 ≡ Some item.1

longer_filled : (top rest path : List (List ℕ)) → path ≡ top ++ rest → length top < length path → rest ≢ []
longer_filled top [] path split longer = let same : length path ≡ length top = ap length (split ∙ append-nil top) in absurd (omega arith)
longer_filled top (part ∷ rest) path split longer = λ none. cc

next_of : (names : Namespace) (from : List (List ℕ)) (item : Named) (left : List Named) → Stand names from (item ∷ left) → Next names from item
next_of names from item left stand =
    let is = stand item.0 item.1 (first_found item left) in
    let rest : List (List ℕ) = drop (length from) item.0 in
    let split : item.0 ≡ from ++ rest = split_within from item.0 (front_so _ _ is.0) in
    let longer : length from < length item.0 = ltb-true _ _ (front_so _ _ (back_so _ _ is.0)) in
    record {
      up = directory_of rest;
      name = name_of rest;
      rest_is = directory_and_name rest (longer_filled from rest item.0 split longer);
      split = split;
      found = is.1;
    }

whole_path : (names : Namespace) (from : List (List ℕ)) (item : Named) (next : Next names from item) → item.0 ≡ (from ++ next.up) ++ next.name ∷ []
whole_path names from item next = next.split ∙ ap (λ rest. from ++ rest) next.rest_is ∙ sym (append_assoc from next.up (next.name ∷ []))

-- The parent of the next item stands before it, so it isn't among what is left.
parent_missed : (names : Namespace) (from : List (List ℕ)) (item : Named) (left : List Named) (next : Next names from item) → Rises (item ∷ left) → find path_cmp (from ++ next.up) (item ∷ left) ≡ None
parent_missed names from item left next rises =
    let parent : List (List ℕ) = from ++ next.up in
    let whole : item.0 ≡ parent ++ next.name ∷ [] = whole_path names from item next in
    let size : length item.0 ≡ length parent + 1 = ap length whole ∙ length-append parent (next.name ∷ []) in
    missed parent item left rises
    (below_is_past parent item.0 (subst (λ p. is_within parent p ≡ true) (sym whole) (join_within parent (next.name ∷ []))) (omega arith))

filled-more : (top rest : List (List ℕ)) → top ≢ [] → top ++ rest ≢ []
filled-more [] rest filled = absurd (filled refl)
filled-more (part ∷ top) rest filled = λ none. cc

parent_moved : (names now : Namespace) (from to : List (List ℕ)) (item : Named) (left : List Named) (next : Next names from item) → IsWellFormed names → from ≢ [] → Rises (item ∷ left)
    → Moved names now from to (item ∷ left) → IsDirectoryIn now (to ++ next.up)
parent_moved names now from to item left next formed filled rises moved =
    let parent : List (List ℕ) = from ++ next.up in
    let is : IsDirectoryIn names parent = formed.parents parent next.name (ap is_some (ap (get names) (sym (whole_path names from item next)) ∙ next.found)) in
    let stands = directory_found names parent (filled-more from next.up filled) is in
    elim (moved.there next.up (ap is_some stands.1)) [
      | inl same ↦ IsDirectoryIn-found now (to ++ next.up) stands.0 (same ∙ stands.1) stands.2
      | inr left_over ↦
          let told : false ≡ true = sym (ap is_some (parent_missed names from item left next rises)) ∙ left_over in cc
    ]

directory_or_file : (kind : Kind) → (kind ≡ Directory) ⊎ (not (is_file_kind kind) ≡ false)
directory_or_file Directory = inl refl
directory_or_file File = inr refl

fits_there : (o : Option Entry) (entry : Entry) → (o ≡ None) ⊎ (o ≡ Some entry) → (entry.kind ≡ Directory) ⊎ (is_directory o ≡ false)
fits_there o entry (inl none) = inr (ap is_directory none)
fits_there o entry (inr some) =
    elim (directory_or_file entry.kind) [
      | inl kind ↦ inl kind
      | inr file ↦ inr (ap is_directory some ∙ file)
    ]

found_there : (names now : Namespace) (from to rest : List (List ℕ)) (entry : Entry) → get names (from ++ rest) ≡ Some entry
    → (get now (to ++ rest) ≡ None) ⊎ (get now (to ++ rest) ≡ get names (from ++ rest)) → (get now (to ++ rest) ≡ None) ⊎ (get now (to ++ rest) ≡ Some entry)
found_there names now from to rest entry found (inl none) = inl none
found_there names now from to rest entry found (inr same) = inr (same ∙ found)

item_formed : (names now : Namespace) (from to : List (List ℕ)) (item : Named) (left : List Named) (next : Next names from item) → IsWellFormed names → from ≢ [] → Rises (item ∷ left)
    → Moved names now from to (item ∷ left) → IsWellFormed (step (moved_put from to item) now)
item_formed names now from to item left next formed filled rises moved =
    let rest : List (List ℕ) = drop (length from) item.0 in
    let path : (to ++ next.up) ++ next.name ∷ [] ≡ to ++ rest = append_assoc to next.up (next.name ∷ []) ∙ ap (λ r. to ++ r) (sym next.rest_is) in
    let found : get names (from ++ rest) ≡ Some item.1 = ap (get names) (sym next.split) ∙ next.found in
    let fits : (item.1.kind ≡ Directory) ⊎ (is_directory (get now (to ++ rest)) ≡ false) = fits_there (get now (to ++ rest)) item.1 (found_there names now from to rest item.1 found (moved.only rest)) in
    subst (λ p. IsWellFormed (insert now p item.1)) path
    (put_keeps now (to ++ next.up) next.name item.1 moved.formed (parent_moved names now from to item left next formed filled rises moved)
    (subst (λ p. (item.1.kind ≡ Directory) ⊎ (is_directory (get now p) ≡ false)) (sym path) fits))

-- What the put of an item changes
put_there : (names now : Namespace) (from to rest r : List (List ℕ)) (entry : Entry) → get names (from ++ rest) ≡ Some entry → to ++ r ≡ to ++ rest
    → get (insert now (to ++ rest) entry) (to ++ r) ≡ get names (from ++ r)
put_there names now from to rest r entry found same =
    ap (get (insert now (to ++ rest) entry)) same ∙ get-insert_same now (to ++ rest) entry ∙ sym found ∙ ap (λ q. get names (from ++ q)) (sym (append_cancel_left to r rest same))

only_moved : (names now : Namespace) (from to rest r : List (List ℕ)) (entry : Entry) → get names (from ++ rest) ≡ Some entry
    → (get now (to ++ r) ≡ None) ⊎ (get now (to ++ r) ≡ get names (from ++ r))
    → (get (insert now (to ++ rest) entry) (to ++ r) ≡ None) ⊎ (get (insert now (to ++ rest) entry) (to ++ r) ≡ get names (from ++ r))
only_moved names now from to rest r entry found before =
    elim (cases_path (to ++ r) (to ++ rest)) [
      | inl same ↦ inr (put_there names now from to rest r entry found same)
      | inr apart ↦ elim before [
        | inl none ↦ inl (get-insert_other now (to ++ rest) entry (to ++ r) apart.1 ∙ none)
        | inr is ↦ inr (get-insert_other now (to ++ rest) entry (to ++ r) apart.1 ∙ is)
      ]
    ]

there_moved : (names now : Namespace) (from to rest r : List (List ℕ)) (item : Named) (left : List Named) → item.0 ≡ from ++ rest → get names (from ++ rest) ≡ Some item.1
    → (get now (to ++ r) ≡ get names (from ++ r)) ⊎ IsSome (find path_cmp (from ++ r) (item ∷ left))
    → (get (insert now (to ++ rest) item.1) (to ++ r) ≡ get names (from ++ r)) ⊎ IsSome (find path_cmp (from ++ r) left)
there_moved names now from to rest r item left split found before =
    elim (cases_path (to ++ r) (to ++ rest)) [
      | inl same ↦ inl (put_there names now from to rest r item.1 found same)
      | inr apart ↦ elim before [
        | inl is ↦ inl (get-insert_other now (to ++ rest) item.1 (to ++ r) apart.1 ∙ is)
        | inr left_over ↦
            let other : from ++ r ≢ item.0 = λ e. apart.1 (ap (λ q. to ++ q) (append_cancel_left from r rest (e ∙ split))) in
            inr (ap is_some (sym (other_found (from ++ r) item left other)) ∙ left_over)
      ]
    ]

item_moved : (names now : Namespace) (from to : List (List ℕ)) (item : Named) (left : List Named) → IsWellFormed names → from ≢ [] → Rises (item ∷ left) → Stand names from (item ∷ left)
    → Moved names now from to (item ∷ left) → Moved names (step (moved_put from to item) now) from to left
item_moved names now from to item left formed filled rises stand moved =
    let next : Next names from item = next_of names from item left stand in
    let rest : List (List ℕ) = drop (length from) item.0 in
    let found : get names (from ++ rest) ≡ Some item.1 = ap (get names) (sym next.split) ∙ next.found in record {
      formed = item_formed names now from to item left next formed filled rises moved;
      only = λ r. only_moved names now from to rest r item.1 found (moved.only r);
      there = λ r some. there_moved names now from to rest r item left next.split found (moved.there r some);
    }

puts_keep_formed : (names now : Namespace) (from to : List (List ℕ)) (left : List Named) → IsWellFormed names → from ≢ [] → Rises left → Stand names from left → Moved names now from to left
    → KeepsWellFormed (map (moved_put from to) left) now
puts_keep_formed names now from to [] formed filled rises stand moved = tt
puts_keep_formed names now from to (item ∷ left) formed filled rises stand moved =
    let later : Moved names (step (moved_put from to item) now) from to left = item_moved names now from to item left formed filled rises stand moved in
    (later.formed, puts_keep_formed names (step (moved_put from to item) now) from to left formed filled (back_so _ _ rises) (later_stand names from item left rises stand) later)

-- The top alone is moved first.
top_only : (names free : Namespace) (from to rest : List (List ℕ)) (entry : Entry) → to ≢ [] → IsWellFormed free → get free to ≡ None → get names from ≡ Some entry
    → (get (insert free to entry) (to ++ rest) ≡ None) ⊎ (get (insert free to entry) (to ++ rest) ≡ get names (from ++ rest))
top_only names free from to [] entry filled formed none found =
    inr (ap (get (insert free to entry)) (append-nil to) ∙ get-insert_same free to entry ∙ sym found ∙ ap (get names) (sym (append-nil from)))
top_only names free from to (part ∷ rest) entry filled formed none found =
    let longer : to ++ part ∷ rest ≢ to = λ e. (let same : length (to ++ part ∷ rest) ≡ length to = ap length e in omega (arith, length-append to (part ∷ rest))) in
    inl (get-insert_other free to entry (to ++ part ∷ rest) longer ∙ below_nothing free to (part ∷ rest) formed filled none)

below_found : (names : Namespace) (from : List (List ℕ)) (part : List ℕ) (rest : List (List ℕ)) → find path_cmp (from ++ part ∷ rest) (below names from) ≡ get names (from ++ part ∷ rest)
below_found names from part rest =
    let path : List (List ℕ) = from ++ part ∷ rest in
    let longer : length from < length path = omega (arith, length-append from (part ∷ rest)) in
    find_below names from path
    ∙ ap (λ b. cond (b && (nat_lt (length from) (length path) && true)) (get names path) None) (join_within from (part ∷ rest))
    ∙ ap (λ b. cond (b && true) (get names path) None) (lt-ltb (length from) (length path) longer)

top_there : (names free : Namespace) (from to rest : List (List ℕ)) (entry : Entry) → get names from ≡ Some entry → IsSome (get names (from ++ rest))
    → (get (insert free to entry) (to ++ rest) ≡ get names (from ++ rest)) ⊎ IsSome (find path_cmp (from ++ rest) (below names from))
top_there names free from to [] entry found some =
    inl (ap (get (insert free to entry)) (append-nil to) ∙ get-insert_same free to entry ∙ sym found ∙ ap (get names) (sym (append-nil from)))
top_there names free from to (part ∷ rest) entry found some = inr (ap is_some (below_found names from part rest) ∙ some)

-- What isn't refused of a move
record Movable (names : Namespace) (from to : List (List ℕ)) (entry : Entry) : Type 0 where
  pub from_filled : from ≢ []
  pub to_filled : to ≢ []
  pub found : get names from ≡ Some entry
  pub outside : is_within from to ≡ false

or_found : (o : Option Entry) (entry : Entry) → ok_or o NotFound ≡ Ok entry → o ≡ Some entry
or_found None entry is = cc
or_found (Some there) entry is = cc

movable : (names : Namespace) (from to : List (List ℕ)) (entry : Entry) → moved_entry names from to ≡ Ok entry → Movable names from to entry
movable names from to entry e =
    let first = and_then_ok (unless (refuse_if (is_root from || is_root to) RootFixed ∷ []) (get names from)) _ entry e in
    let second = and_then_ok (ok_or first.0 NotFound) _ entry first.2 in
    let filled = or_parts _ _ (unless_first (is_root from || is_root to) RootFixed [] (get names from) first.0 first.1) in
    let one : second.0 ≡ entry = unless_ok (refuse_if (is_within from to) IntoItself ∷ []) second.0 entry second.2 in
    record {
      from_filled = not_root from filled.0;
      to_filled = not_root to filled.1;
      found = unless_ok (refuse_if (is_root from || is_root to) RootFixed ∷ []) (get names from) first.0 first.1 ∙ or_found first.0 second.0 second.1 ∙ ap Some one;
      outside = unless_first (is_within from to) IntoItself [] second.0 entry second.2;
    }

nothing_there : (o : Option Entry) → is_some o ≡ false → o ≡ None
nothing_there None is = refl
nothing_there (Some entry) is = cc

vacant : (names : Namespace) (time : ℕ) (to : List (List ℕ)) (parents : List Change) → vacated names time to ≡ Ok parents → (parents_at names time to ≡ Ok parents) × (get names to ≡ None)
vacant names time to parents e =
    let first = and_then_ok (parents_at names time to) _ parents e in (
      first.1 ∙ ap (λ l. Ok l) (unless_ok (refuse_if (is_some (get names to)) Exists ∷ []) first.0 parents first.2),
      nothing_there (get names to) (unless_first (is_some (get names to)) Exists [] first.0 parents first.2),
    )

directory_outside : (from to : List (List ℕ)) → to ≢ [] → is_within from to ≡ false → is_within from (directory_of to) ≡ false
directory_outside from to filled outside =
    elim (cases_Bool (is_within from (directory_of to))) [
      | inl within ↦
          let told : false ≡ true = sym outside ∙ ap (is_within from) (directory_and_name to filled) ∙ below_within from (directory_of to) (name_of to) within in cc
      | inr apart ↦ apart
    ]

-- The drop, the top and all below it, where the parents are made
top_keeps : (names made : Namespace) (from to : List (List ℕ)) (entry : Entry) → Movable names from to entry → IsWellFormed names → IsWellFormed made
    → IsDirectoryIn made (directory_of to) → get made to ≡ None → KeepsWellFormed (Drop from ∷ Put to entry ∷ map (moved_put from to) (below names from)) made
top_keeps names made from to entry moves formed made_formed above none =
    let free : Namespace = step (Drop from) made in
    let free_formed : IsWellFormed free = drop_keeps from made made_formed in
    let nothing : get free to ≡ None = stays from to made moves.outside ∙ none in
    let above_free : IsDirectoryIn free (directory_of to) = directory_stays from (directory_of to) made (directory_outside from to moves.to_filled moves.outside) above in
    let topped : IsWellFormed (step (Put to entry) free) = put_path_keeps free to entry moves.to_filled free_formed above_free (inr (ap is_directory nothing)) in
    let moved : Moved names (step (Put to entry) free) from to (below names from) = record {
      formed = topped;
      only = λ rest. top_only names free from to rest entry moves.to_filled free_formed nothing moves.found;
      there = λ rest some. top_there names free from to rest entry moves.found some;
    } in (
      free_formed,
      (topped, puts_keep_formed names (step (Put to entry) free) from to (below names from) formed moves.from_filled (below_rises names from) (below_stand names from) moved),
    )

pub move_keeps : (names : Namespace) (time : ℕ) (from to : List (List ℕ)) (changes : List Change) → IsWellFormed names → moving names time from to ≡ Ok changes → KeepsWellFormed changes names
move_keeps names time from to changes formed e =
    let first = and_then_ok (moved_entry names from to) _ changes e in
    let second = and_then_ok (vacated names time to) _ changes first.2 in
    let third = and_then_ok (puts_moved from to (below names from)) _ changes second.2 in
    let moves : Movable names from to first.0 = movable names from to first.0 first.1 in
    let free = vacant names time to second.0 second.1 in
    let makes : MakesParents names to second.0 = parents_make names time to second.0 moves.to_filled formed free.0 in
    let puts : map (moved_put from to) (below names from) ≡ third.0 = unless_ok (refuse_if (outgrows from to (below names from)) PathLimit ∷ []) (map (moved_put from to) (below names from)) third.0 third.1 in
    let made : second.0 ++ Drop from ∷ Put to first.0 ∷ third.0 ≡ changes = same_changes _ _ third.2 in
    subst (λ l. KeepsWellFormed l names) (ap (λ l. second.0 ++ Drop from ∷ Put to first.0 ∷ l) puts ∙ made)
    (KeepsWellFormed-append second.0 (Drop from ∷ Put to first.0 ∷ map (moved_put from to) (below names from)) names makes.keeps
    (top_keeps names (after_changes second.0 names) from to first.0 moves formed makes.formed makes.above (makes.there ∙ free.1)))
