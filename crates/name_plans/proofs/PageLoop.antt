-- The walk over all that is below a path, page by page.
use Rattle.std.proofs.Common.{◌≡◌, ◌≢◌, ℕ, suc, ◌<◌, Bool, true, false, cond, List, [], ◌∷◌, ◌++◌, length, take, drop, map, Option, Some, None, Ok, Err, Ordering, refl, sym, ap, ◌∙◌, subst, inl, inr, arith, append_assoc, append-nil, T, IsTrue}
use Rattle.std.specs.Prelude.{All, IfSome, ◌&&◌, ◌||◌, nat_lt, not, Result}
use Rattle.std.specs.List.{filter, last_or}
use Rattle.std.specs.FinMap.{entries, entries_sorted, is_sorted}
use Rattle.std.specs.FinMap.Entries.{below_all, is_sorted-where_key}
use Rattle.std.specs.declared.cmp.Ordering.TheVariants.{Less, Equal, Greater}
use Rattle.std.specs.Ordering.{nat_cmp, is_lt, is_eq, ordering_then, ordering_reverse}
use Rattle.std.specs.Cmp.{tied_itself}
use Rattle.std.specs.Cmp.Lexicographic.{slice_cmp, texts_ties}
use Rattle.std.proofs.lemmas.Bool.{ltb-true, cases_Bool}
use Rattle.std.proofs.lemmas.List.{map-append, take-append-drop}
use Rattle.std.proofs.lemmas.List.Elements.{All-head, All-tail, All-map, All-weaker, filter_passes}
use Rattle.std.proofs.lemmas.List.Folds.{list_any-append}
use Rattle.weed_base.specs.PathOrder.{path_cmp, path_cmp_total}
use Rattle.entry.specs.declared.entry.Entry.{Entry}
use Rattle.name_core.specs.declared.change.Change.{Change}
use Rattle.name_core.specs.declared.change.Change.TheVariants.{Put}
use Rattle.name_core.specs.declared.command.PlanFault.{PlanFault}
use Rattle.name_core.specs.declared.command.PlanFault.TheVariants as faults
use Rattle.name_core.specs.declared.command.Refusal.{Refusal}
use Rattle.name_core.specs.declared.command.Refusal.TheVariants.{PathLimit}
use Rattle.name_core.specs.Namespace.{Namespace, is_within, path_of}
use Rattle.name_core.specs.Pages.{Named, IsNamed, is_past, is_below_past, page_of}
use Rattle.name_core.specs.Plan.{Changes}
use Rattle.name_plans.specs.Commands.{below}
use Rattle.name_plans.specs.Moving.{fits, within_limits, moved_path, moved_put, outgrows, puts_moved}
use Rattle.name_plans.specs.Paging.{last_path, PushesPage}
use Rattle.name_plans.specs.Refusing.{refuse_if, unless, Comes}
use Rattle.name_plans.specs.Makeable.{AreMakeable}
use Rattle.name_core.specs.RecordText.{HasValidEntry}
use Rattle.entry.specs.Entry.{IsValid}
use Rattle.name_plans.proofs.Makes.{makeable-append}

pub front_so : (a b : Bool) → (a && b) ≡ true → a ≡ true
front_so true b e = refl
front_so false b e = e

pub back_so : (a b : Bool) → (a && b) ≡ true → b ≡ true
back_so true b e = e
back_so false b e = cc

so : (b : Bool) → T b → b ≡ true
so true t = refl
so false t = absurd t

pub is_less : (o : Ordering) → is_lt o ≡ true → o ≡ Less
is_less Less e = refl
is_less Equal e = cc
is_less Greater e = cc

is_equal : (o : Ordering) → is_eq o ≡ true → o ≡ Equal
is_equal Less e = cc
is_equal Equal e = refl
is_equal Greater e = cc

abbrev past : List (List ℕ) → Named → Bool
past after item = is_past (Some after) item.0

abbrev pub Rises : List Named → Type 0
Rises items = is_sorted path_cmp items ≡ true

-- What passes a test and another is what passes the other of what passes the one.
filter_twice : {A : Type 0} (a b c : A → Bool) (items : List A) → filter (λ x. a x && (b x && c x)) items ≡ filter c (filter (λ x. a x && (b x && true)) items)
filter_twice a b c [] = refl
filter_twice a b c (x ∷ items) =
    let rest = filter_twice a b c items in
    let kept = filter (λ y. a y && (b y && c y)) items in
    let first = filter (λ y. a y && (b y && true)) items in
    elim (a x) as (λ p. cond (p && (b x && c x)) (x ∷ kept) kept ≡ filter c (cond (p && (b x && true)) (x ∷ first) first)) [
      | false ↦ rest
      | true ↦ elim (b x) as (λ p. cond (p && c x) (x ∷ kept) kept ≡ filter c (cond (p && true) (x ∷ first) first)) [
        | false ↦ rest
        | true ↦ ap (λ l. cond (c x) (x ∷ l) l) rest
      ]
    ]

below_past : (names : Namespace) (from after : List (List ℕ)) → filter (λ item. is_below_past from (Some after) item.0) (entries names) ≡ filter (past after) (below names from)
below_past names from after = filter_twice (λ (item : Named). is_within from item.0) (λ item. nat_lt (length from) (length item.0)) (past after) (entries names)

pub below_rises : (names : Namespace) (from : List (List ℕ)) → Rises (below names from)
below_rises names from = so _ (is_sorted-where_key path_cmp (λ path. is_below_past from None path) (entries names) (entries_sorted names))

-- What is below a path is past it.
pub below_is_past : (top path : List (List ℕ)) → is_within top path ≡ true → length top < length path → path_cmp top path ≡ Less
below_is_past [] [] within longer = absurd (omega arith)
below_is_past [] (y ∷ ys) within longer = refl
below_is_past (t ∷ ts) [] within longer = absurd (omega arith)
below_is_past (t ∷ ts) (y ∷ ys) within longer =
    let same : slice_cmp nat_cmp t y ≡ Equal = is_equal _ (sym (texts_ties t y) ∙ front_so _ _ within) in
    ap (λ o. ordering_then o (path_cmp ts ys)) same ∙ below_is_past ts ys (back_so _ _ within) (omega arith)

item_is_past : (from : List (List ℕ)) (item : Named) → is_below_past from None item.0 ≡ true → past from item ≡ true
item_is_past from item is =
    let longer : nat_lt (length from) (length item.0) ≡ true = front_so _ _ (back_so _ _ is) in
    ap is_lt (below_is_past from item.0 (front_so _ _ is) (ltb-true _ _ longer))

filter_all : (p : Named → Bool) (items : List Named) → All (λ item. p item ≡ true) items → filter p items ≡ items
filter_all p [] each = refl
filter_all p (x ∷ items) each =
    ap (λ b. cond b (x ∷ filter p items) (filter p items)) (All-head (λ item. p item ≡ true) x items each)
    ∙ ap (λ l. x ∷ l) (filter_all p items (All-tail (λ item. p item ≡ true) x items each))

all_past : (names : Namespace) (from : List (List ℕ)) → filter (past from) (below names from) ≡ below names from
all_past names from =
    filter_all (past from) (below names from)
    (All-weaker (λ (item : Named). is_below_past from None item.0 ≡ true) (λ item. past from item ≡ true) (item_is_past from) (below names from)
    (filter_passes (λ (item : Named). is_below_past from None item.0) (entries names)))

not_past : (e x : List (List ℕ)) → path_cmp x e ≡ Less → is_lt (path_cmp e x) ≡ false
not_past e x before = ap is_lt (path_cmp_total.antisymm e x ∙ ap ordering_reverse before)

rest_past : (e : Named) (r : List Named) → below_all path_cmp e.0 r ≡ true → filter (past e.0) r ≡ r
rest_past e [] all = refl
rest_past e (y ∷ r) all =
    ap (λ b. cond b (y ∷ filter (past e.0) r) (filter (past e.0) r)) (front_so _ _ all) ∙ ap (λ l. y ∷ l) (rest_past e r (back_so _ _ all))

below_all-at : (x : List (List ℕ)) (l : List Named) (e : Named) (r : List Named) → below_all path_cmp x (l ++ e ∷ r) ≡ true → path_cmp x e.0 ≡ Less
below_all-at x [] e r all = is_less _ (front_so _ _ all)
below_all-at x (y ∷ l) e r all = below_all-at x l e r (back_so _ _ all)

-- Of a list in order, what is past one of its items stands behind it.
pub past_item : (l : List Named) (e : Named) (r : List Named) → Rises (l ++ e ∷ r) → filter (past e.0) (l ++ e ∷ r) ≡ r
past_item [] e r rises =
    ap (λ o. cond (is_lt o) (e ∷ filter (past e.0) r) (filter (past e.0) r)) (tied_itself path_cmp_total e.0) ∙ rest_past e r (front_so _ _ rises)
past_item (x ∷ l) e r rises =
    ap (λ b. cond b (x ∷ filter (past e.0) (l ++ e ∷ r)) (filter (past e.0) (l ++ e ∷ r))) (not_past e.0 x.0 (below_all-at x.0 l e r (front_so _ _ rises)))
    ∙ past_item l e r (back_so _ _ rises)

-- What is below, up to a path, is done.
pub record Done (items : List Named) (from to after : List (List ℕ)) (changes : List Change) : Type 0 where
  pub done : List Named
  pub split : items ≡ done ++ filter (past after) items
  pub puts : changes ≡ map (moved_put from to) done
  pub within : outgrows from to done ≡ false

abbrev pub MovesFront : Option Namespace → List (List ℕ) → List (List ℕ) → List (List ℕ) → List Change → Type 0
MovesFront told from to after changes = IfSome told (λ names. Done (below names from) from to after changes)

pub front_begins : (told : Option Namespace) (from to : List (List ℕ)) → MovesFront told from to from []
front_begins None from to = tt
front_begins (Some names) from to = record { done = []; split = sym (all_past names from); puts = refl; within = refl }

some_same : (x y : List (List ℕ)) → Some x ≡ Some y → x ≡ y
some_same x y e = cc

-- A page with a last path has it behind its other items.
last_splits : (page : List Named) (a : List (List ℕ)) → last_path page ≡ Some a → (l : List Named) × (entry : Entry) × (page ≡ l ++ (a, entry) ∷ [])
last_splits [] a is = cc
last_splits (x ∷ []) a is = ([], x.1, ap (λ path. (path, x.1) ∷ []) (some_same x.0 a is))
last_splits (x ∷ y ∷ rest) a is =
    let later = last_splits (y ∷ rest) a is in
    (x ∷ later.0, later.1, ap (λ l. x ∷ l) later.2)

last_there : (paths : List (List (List ℕ))) (first : List (List ℕ)) → last_or (Some first) paths ≢ None
last_there [] first none = cc
last_there (path ∷ paths) first none = last_there paths path none

no_last : (page : List Named) → last_path page ≡ None → page ≡ []
no_last [] is = refl
no_last (x ∷ page) is = absurd (last_there (map (λ (item : Named). item.0) page) x.0 is)

none_left : (n : ℕ) (items : List Named) → take (suc n) items ≡ [] → items ≡ []
none_left n [] is = refl
none_left n (x ∷ items) is = cc

-- What is left is the page, and what is behind it.
left_split : (names : Namespace) (from after : List (List ℕ)) (page : List Named) → page ≡ page_of names 1024 (is_below_past from (Some after))
    → filter (past after) (below names from) ≡ page ++ drop 1024 (filter (past after) (below names from))
left_split names from after page is =
    let left = filter (past after) (below names from) in
    let page_is : page ≡ take 1024 left = is ∙ ap (take 1024) (below_past names from after) in
    sym (take-append-drop 1024 left) ∙ ap (λ l. l ++ drop 1024 left) (sym page_is)

or_true : (a : Bool) → (a || true) ≡ true
or_true true = refl
or_true false = refl

or_false : (a b : Bool) → a ≡ false → b ≡ false → (a || b) ≡ false
or_false true b e f = e
or_false false b e f = f

pub front_moves : (told : Option Namespace) (from to after a : List (List ℕ)) (page : List Named) (before now : List Change)
    → IfSome told (λ names. page ≡ page_of names 1024 (is_below_past from (Some after)))
    → MovesFront told from to after before
    → now ≡ before ++ map (moved_put from to) page → outgrows from to page ≡ false → Some a ≡ last_path page
    → MovesFront told from to a now
front_moves None from to after a page before now told_page front pushed within last = tt
front_moves (Some names) from to after a page before now told_page front pushed within last =
    let items = below names from in
    let rest = drop 1024 (filter (past after) items) in
    let all : items ≡ front.done ++ (page ++ rest) = front.split ∙ ap (λ l. front.done ++ l) (left_split names from after page told_page) in
    let ends = last_splits page a (sym last) in
    let at : front.done ++ (page ++ rest) ≡ (front.done ++ ends.0) ++ (a, ends.1) ∷ rest =
    ap (λ l. front.done ++ (l ++ rest)) ends.2 ∙ ap (λ l. front.done ++ l) (append_assoc ends.0 ((a, ends.1) ∷ []) rest) ∙ sym (append_assoc front.done ends.0 ((a, ends.1) ∷ rest)) in
    let cut : items ≡ (front.done ++ ends.0) ++ (a, ends.1) ∷ rest = all ∙ at in
    let left : filter (past a) items ≡ rest =
    ap (filter (past a)) cut ∙ past_item (front.done ++ ends.0) (a, ends.1) rest (subst Rises cut (below_rises names from)) in record {
      done = front.done ++ page;
      split = all ∙ sym (append_assoc front.done page rest) ∙ ap (λ l. (front.done ++ page) ++ l) (sym left);
      puts = pushed ∙ ap (λ l. l ++ map (moved_put from to) page) front.puts ∙ sym (map-append (moved_put from to) front.done page);
      within = list_any-append _ front.done page ∙ or_false _ _ front.within within;
    }

pub front_ends : (told : Option Namespace) (from to after : List (List ℕ)) (page : List Named) (before now : List Change)
    → IfSome told (λ names. page ≡ page_of names 1024 (is_below_past from (Some after)))
    → MovesFront told from to after before
    → now ≡ before ++ map (moved_put from to) page → None ≡ last_path page
    → IfSome told (λ names. puts_moved from to (below names from) ≡ Ok now)
front_ends None from to after page before now told_page front pushed last = tt
front_ends (Some names) from to after page before now told_page front pushed last =
    let items = below names from in
    let none : page ≡ [] = no_last page (sym last) in
    let left : filter (past after) items ≡ [] =
    none_left 1023 _ (sym (told_page ∙ ap (take 1024) (below_past names from after)) ∙ none) in
    let all : items ≡ front.done = front.split ∙ ap (λ l. front.done ++ l) left ∙ append-nil front.done in
    let is : now ≡ map (moved_put from to) front.done = pushed ∙ ap (λ l. before ++ map (moved_put from to) l) none ∙ append-nil before ∙ front.puts in
    ap (puts_moved from to) all ∙ ap (λ b. unless (refuse_if b PathLimit ∷ []) (map (moved_put from to) front.done)) front.within ∙ ap (λ l. Ok l) (sym is)

pub front_outgrows : (told : Option Namespace) (from to after : List (List ℕ)) (page : List Named) (before : List Change) (refusal : Refusal)
    → IfSome told (λ names. page ≡ page_of names 1024 (is_below_past from (Some after)))
    → MovesFront told from to after before
    → outgrows from to page ≡ true → refusal ≡ PathLimit
    → IfSome told (λ names. puts_moved from to (below names from) ≡ Err refusal)
front_outgrows None from to after page before refusal told_page front outgrow is = tt
front_outgrows (Some names) from to after page before refusal told_page front outgrow is =
    let items = below names from in
    let rest = drop 1024 (filter (past after) items) in
    let all : items ≡ front.done ++ (page ++ rest) = front.split ∙ ap (λ l. front.done ++ l) (left_split names from after page told_page) in
    let grown : outgrows from to items ≡ true =
    ap (outgrows from to) all ∙ list_any-append _ front.done (page ++ rest) ∙ ap (λ b. outgrows from to front.done || b) (list_any-append _ page rest ∙ ap (λ b. b || outgrows from to rest) outgrow) ∙ or_true _ in
    ap (λ b. unless (refuse_if b PathLimit ∷ []) (map (moved_put from to) items)) grown ∙ ap (λ r. Err r) (sym is)

abbrev BelowItem : List (List ℕ) → List (List ℕ) → Named → Type 0
BelowItem from after item = IsNamed item × IsTrue (is_below_past from (Some after) item.0)

pub page_within : (from after : List (List ℕ)) (page : List Named) → All (BelowItem from after) page → All (λ item. IsTrue (is_within from item.0)) page
page_within from after page each = All-weaker (BelowItem from after) (λ (item : Named). IsTrue (is_within from item.0)) (λ item is. front_so _ _ is.1) page each

moved_filled : (from to path : List (List ℕ)) → to ≢ [] → moved_path from to path ≢ []
moved_filled from [] path filled = absurd (filled refl)
moved_filled from (part ∷ to) path filled = λ none. cc

pub page_makeable : (from to after : List (List ℕ)) (page : List Named) (before now : List Change) → to ≢ [] → All (BelowItem from after) page
    → AreMakeable before → now ≡ before ++ map (moved_put from to) page → AreMakeable now
page_makeable from to after page before now filled each had pushed =
    subst AreMakeable (sym pushed) (makeable-append before (map (moved_put from to) page) had (record {
      rootless = All-map (λ change. path_of change ≢ []) (moved_put from to) page
          (All-weaker (BelowItem from after) (λ (item : Named). moved_path from to item.0 ≢ []) (λ item is. moved_filled from to item.0 filled) page each);
      valid = All-map HasValidEntry (moved_put from to) page (All-weaker (BelowItem from after) (λ (item : Named). IsValid item.1) (λ item is. is.0.2) page each);
    }))

-- One item more of a page
pub item_within : (from : List (List ℕ)) (page done : List Named) (item : Named) (rest : List Named) → page ≡ done ++ item ∷ rest
    → All (λ item. IsTrue (is_within from item.0)) page → IsTrue (is_within from item.0)
item_within from page [] item rest is each = All-head (λ (i : Named). IsTrue (is_within from i.0)) item rest (subst (All (λ (i : Named). IsTrue (is_within from i.0))) is each)
item_within from page (x ∷ done) item rest is each =
    item_within from (done ++ item ∷ rest) done item rest refl (All-tail (λ (i : Named). IsTrue (is_within from i.0)) x (done ++ item ∷ rest) (subst (All (λ (i : Named). IsTrue (is_within from i.0))) is each))

ok_same : (x y : List (List ℕ)) → ◌≡◌ {A = Result (List (List ℕ)) Refusal} (Ok x) (Ok y) → x ≡ y
ok_same x y e = cc

err_same : (x y : Refusal) → ◌≡◌ {A = Result (List (List ℕ)) Refusal} (Err x) (Err y) → x ≡ y
err_same x y e = cc

ok_or_err : (x : List (List ℕ)) (y : Refusal) → ◌≡◌ {A = Result (List (List ℕ)) Refusal} (Ok x) (Err y) → ⊥
ok_or_err x y e = cc

-- What a path within the limits says, and one that isn't
pub limits_met : (path read : List (List ℕ)) → within_limits path ≡ Ok read → (fits path ≡ true) × (read ≡ path)
limits_met path read is =
    elim (cases_Bool (fits path)) [
      | inl met ↦ (met, ok_same read path (sym is ∙ ap (λ b. unless (refuse_if (not b) PathLimit ∷ []) path) met))
      | inr past_one ↦ absurd (ok_or_err read PathLimit (sym is ∙ ap (λ b. unless (refuse_if (not b) PathLimit ∷ []) path) past_one))
    ]

pub limits_past : (path : List (List ℕ)) (refusal : Refusal) → within_limits path ≡ Err refusal → (fits path ≡ false) × (refusal ≡ PathLimit)
limits_past path refusal is =
    elim (cases_Bool (fits path)) [
      | inl met ↦ absurd (ok_or_err path refusal (sym (ap (λ b. unless (refuse_if (not b) PathLimit ∷ []) path) met) ∙ is))
      | inr past_one ↦ (past_one, err_same refusal PathLimit (sym is ∙ ap (λ b. unless (refuse_if (not b) PathLimit ∷ []) path) past_one))
    ]

one_outgrows : (from to : List (List ℕ)) (done : List Named) (item : Named) (rest : List Named) → fits (moved_path from to item.0) ≡ false → outgrows from to (done ++ item ∷ rest) ≡ true
one_outgrows from to done item rest not_fit =
    list_any-append _ done (item ∷ rest) ∙ ap (λ b. outgrows from to done || (not b || outgrows from to rest)) not_fit ∙ or_true _

fault_pushes : (from to : List (List ℕ)) (page : List Named) (before now : List Change) (done : List Named) (item : Named) (rest : List Named)
    (fault : PlanFault) → page ≡ done ++ item ∷ rest
    → Comes (within_limits (moved_path from to item.0)) (Err fault) → PushesPage from to page before now (Err fault)
fault_pushes from to page before now done item rest (faults.Refused refusal) is comes =
    let told = limits_past (moved_path from to item.0) refusal comes in
    (told.1, ap (outgrows from to) is ∙ one_outgrows from to done item rest told.0)
fault_pushes from to page before now done item rest faults.KeeperFault is comes = tt
fault_pushes from to page before now done item rest faults.Memory is comes = tt

pub push_fails : (from to : List (List ℕ)) (page : List Named) (before now : List Change) (done : List Named) (item : Named) (rest : List Named)
    (result : Result (Option (List (List ℕ))) PlanFault) (fault : PlanFault) → result ≡ Err fault → page ≡ done ++ item ∷ rest
    → Comes (within_limits (moved_path from to item.0)) (Err fault) → PushesPage from to page before now result
push_fails from to page before now done item rest result fault fails is comes =
    subst (PushesPage from to page before now) (sym fails) (fault_pushes from to page before now done item rest fault is comes)

pub push_one : (from to : List (List ℕ)) (done : List Named) (path : List (List ℕ)) (entry : Entry) (put : List (List ℕ)) (before old now : List Change)
    → old ≡ before ++ map (moved_put from to) done → now ≡ old ++ Put put entry ∷ [] → put ≡ moved_path from to path
    → now ≡ before ++ map (moved_put from to) (done ++ (path, entry) ∷ [])
push_one from to done path entry put before old now had pushed is =
    pushed ∙ ap (λ l. l ++ Put put entry ∷ []) had ∙ append_assoc before (map (moved_put from to) done) (Put put entry ∷ [])
    ∙ ap (λ p. before ++ (map (moved_put from to) done ++ Put p entry ∷ [])) is
    ∙ ap (λ l. before ++ l) (sym (map-append (moved_put from to) done ((path, entry) ∷ [])))

pub within_one : (from to : List (List ℕ)) (done : List Named) (item : Named) → outgrows from to done ≡ false → fits (moved_path from to item.0) ≡ true → outgrows from to (done ++ item ∷ []) ≡ false
within_one from to done item within fit =
    list_any-append _ done (item ∷ []) ∙ or_false _ _ within (ap (λ b. not b || false) fit)

last_of_more : (paths : List (List (List ℕ))) (path : List (List ℕ)) (other : Option (List (List ℕ))) → last_or other (paths ++ path ∷ []) ≡ Some path
last_of_more [] path other = refl
last_of_more (x ∷ paths) path other = last_of_more paths path (Some x)

pub last_one : (done : List Named) (item : Named) → last_path (done ++ item ∷ []) ≡ Some item.0
last_one done item =
    ap (last_or None) (map-append (λ (i : Named). i.0) done (item ∷ [])) ∙ last_of_more (map (λ (i : Named). i.0) done) item.0 None

unless_told : (told : Option Namespace) → IfSome told (λ names. Unit {0})
unless_told None = tt
unless_told (Some names) = tt

fault_told : (told : Option Namespace) (from to after : List (List ℕ)) (page : List Named) (before now : List Change) (fault : PlanFault)
    → IfSome told (λ names. page ≡ page_of names 1024 (is_below_past from (Some after)))
    → MovesFront told from to after before
    → PushesPage from to page before now (Err fault)
    → IfSome told (λ names. Changes (puts_moved from to (below names from)) (Err fault))
fault_told told from to after page before now (faults.Refused refusal) told_page front pushes = front_outgrows told from to after page before refusal told_page front pushes.1 pushes.0
fault_told told from to after page before now faults.KeeperFault told_page front pushes = unless_told told
fault_told told from to after page before now faults.Memory told_page front pushes = unless_told told

pub page_fails : (told : Option Namespace) (from to after : List (List ℕ)) (page : List Named) (before now : List Change) (fault : PlanFault) (result : Result (List Change) PlanFault)
    → result ≡ Err fault
    → IfSome told (λ names. page ≡ page_of names 1024 (is_below_past from (Some after)))
    → MovesFront told from to after before
    → PushesPage from to page before now (Err fault)
    → IfSome told (λ names. Changes (puts_moved from to (below names from)) result)
page_fails told from to after page before now fault result fails told_page front pushes =
    subst (λ r. IfSome told (λ names. Changes (puts_moved from to (below names from)) r)) (sym fails) (fault_told told from to after page before now fault told_page front pushes)
