-- New directories, a write and a placed entry leave a well-formed namespace after each change.
use Rattle.std.proofs.Common.{◌≡◌, ◌≢◌, ◌⊎◌, ℕ, ◌+◌, ◌<◌, Bool, true, false, cond, not, List, [], ◌∷◌, ◌++◌, length, Option, Some, None, Result, Ok, Err, refl, sym, ap, ◌∙◌, subst, inl, inr, arith, length-append, append_assoc, append-nil}
use Rattle.std.specs.Prelude.{◌&&◌, ◌||◌, IsSome, IsSomeAnd, is_none}
use Rattle.std.specs.Option.{option_or}
use Rattle.std.specs.FinMap.{get, insert}
use Rattle.std.proofs.lemmas.Bool.{false≢true, and_cases, or_parts, eqb-false}
use Rattle.std.proofs.lemmas.List.Folds.{find-append}
use Rattle.entry.specs.declared.entry.Entry.{Entry}
use Rattle.entry.specs.declared.entry.Kind.{Kind}
use Rattle.entry.specs.declared.entry.Kind.TheVariants.{Directory, File}
use Rattle.entry.specs.Entry.{is_file_kind}
use Rattle.name_core.specs.declared.change.Change.{Change}
use Rattle.name_core.specs.declared.change.Change.TheVariants.{Put, Drop}
use Rattle.name_core.specs.declared.command.Refusal.{Refusal}
use Rattle.name_core.specs.declared.command.Refusal.TheVariants.{RootFixed, IsDirectory}
use Rattle.name_core.specs.Namespace.{Namespace, step, after_changes, is_within, IsDirectoryIn, IsWellFormed, KeepsWellFormed}
use Rattle.name_core.specs.Plan.{new_directory, prefixes_from, prefixes, is_file, first_file, missing, puts, unless_file, directories_at}
use Rattle.name_core.specs.RecordText.{directory_of, name_of}
use Rattle.records.proofs.PathTexts.{directory_and_name}
use Rattle.name_core.proofs.Paths.{cases_path, get-insert_same, get-insert_other, filled-append, longer_is_other, longer_than_top, parent_is}
use Rattle.name_core.proofs.NamespaceLemmas.{IsDirectoryIn-found, IsDirectoryIn-same, IsWellFormed-after, KeepsWellFormed-append, after_changes-append}
use Rattle.name_core.proofs.PlanLemmas.{puts_keep}
use Rattle.name_plans.specs.Commands.{parents_at, writing}
use Rattle.name_plans.specs.Placing.{drop_of, clearing, cleared, has_already, replacing, placed, placing}
use Rattle.name_plans.specs.Refusing.{refuse_if, unless, and_then, is_root}
use Rattle.name_plans.specs.Writing.{Written, is_directory, file_written, file_after}
use Rattle.name_plans.proofs.Drops.{gone, stays, below_within, directory_stays, drop_keeps}
use Rattle.name_plans.proofs.Ways.{Splits, first_splits, prefixes_from-append, shorter_is_outside, itself_within}

-- What an outcome that isn't refused says
pub and_then_ok : {T U : Type 0} (r : Result T Refusal) (later : T → Result U Refusal) (x : U) → and_then r later ≡ Ok x → (y : T) × (r ≡ Ok y) × (later y ≡ Ok x)
and_then_ok (Ok y) later x e = (y, refl, e)
and_then_ok (Err refusal) later x e = cc

pub unless_ok : {T : Type 0} (refusals : List (Option Refusal)) (outcome x : T) → unless refusals outcome ≡ Ok x → outcome ≡ x
unless_ok [] outcome x e = cc
unless_ok (None ∷ refusals) outcome x e = unless_ok refusals outcome x e
unless_ok (Some refusal ∷ refusals) outcome x e = cc

pub unless_first : {T : Type 0} (b : Bool) (refusal : Refusal) (refusals : List (Option Refusal)) (outcome x : T) → unless (refuse_if b refusal ∷ refusals) outcome ≡ Ok x → b ≡ false
unless_first true refusal refusals outcome x e = cc
unless_first false refusal refusals outcome x e = refl

pub no_file_above : (file : Option (List (List ℕ))) (changes made : List Change) → unless_file file changes ≡ Ok made → (file ≡ None) × (changes ≡ made)
no_file_above None changes made e = (refl, cc)
no_file_above (Some file) changes made e = cc

pub same_changes : (x y : List Change) → ◌≡◌ {A = Result (List Change) Refusal} (Ok x) (Ok y) → x ≡ y
same_changes x y e = cc

pub not_root : (path : List (List ℕ)) → is_root path ≡ false → path ≢ []
not_root path is none = eqb-false (length path) 0 is (ap length none)

not_file_is_directory : (kind : Kind) → is_file_kind kind ≡ false → kind ≡ Directory
not_file_is_directory Directory e = refl
not_file_is_directory File e = absurd (false≢true (sym e))

find_none : (b : Bool) (path : List (List ℕ)) (rest : Option (List (List ℕ))) → cond b (Some path) rest ≡ None → (b ≡ false) × (rest ≡ None)
find_none true path rest e = cc
find_none false path rest e = (refl, e)

pub found_or_not : (o : Option Entry) → (o ≡ None) ⊎ ((entry : Entry) × (o ≡ Some entry))
found_or_not None = inl refl
found_or_not (Some entry) = inr (entry, refl)

-- Below a directory, with no file on the way, a path is a directory once the missing ones are put.
pub made_there : (first names : Namespace) (time : ℕ) (top parts : List (List ℕ))
    → IsDirectoryIn names top
    → ((q : List (List ℕ)) → length top < length q → get names q ≡ get first q)
    → first_file first (prefixes_from top parts) ≡ None
    → IsDirectoryIn (after_changes (puts time (missing first (prefixes_from top parts))) names) (top ++ parts)
made_there first names time top [] above alike clear = subst (IsDirectoryIn names) (sym (append-nil top)) above
made_there first names time top (part ∷ parts) above alike clear =
    let path : List (List ℕ) = top ++ part ∷ [] in
    let longer : length top < length path = longer_than_top top part in
    let later : List (List (List ℕ)) = missing first (prefixes_from path parts) in
    let parted : (is_file (get first path) ≡ false) × (first_file first (prefixes_from path parts) ≡ None) = find_none _ path _ clear in
    let new : Entry = new_directory time in
    let changes : Option Entry → List Change = λ o. puts time (cond (is_none o) (path ∷ later) later) in
    subst (IsDirectoryIn (after_changes (changes (get first path)) names)) (append_assoc top (part ∷ []) parts)
    (elim (found_or_not (get first path)) [
      | inl is ↦
          subst (λ o. IsDirectoryIn (after_changes (changes o) names) (path ++ parts)) (sym is)
          (made_there first (insert names path new) time path parts
          (IsDirectoryIn-found _ path new (get-insert_same names path new) refl)
          (λ q h. get-insert_other names path new q (longer_is_other path q h) ∙ alike q (omega arith))
          parted.1)
      | inr (entry, is) ↦
          let kind : entry.kind ≡ Directory = not_file_is_directory entry.kind (ap is_file (sym is) ∙ parted.0) in
          subst (λ o. IsDirectoryIn (after_changes (changes o) names) (path ++ parts)) (sym is)
          (made_there first names time path parts
          (IsDirectoryIn-found names path entry (alike path longer ∙ is) kind)
          (λ q h. alike q (omega arith))
          parted.1)
    ])

-- New directories leave what is at longer paths.
pub puts_leave : (first names : Namespace) (time : ℕ) (top parts q : List (List ℕ)) → length top + length parts < length q
    → get (after_changes (puts time (missing first (prefixes_from top parts))) names) q ≡ get names q
puts_leave first names time top [] q long = refl
puts_leave first names time top (part ∷ parts) q long =
    let path : List (List ℕ) = top ++ part ∷ [] in
    let size : length path ≡ length top + 1 = length-append top (part ∷ []) in
    let later : List (List (List ℕ)) = missing first (prefixes_from path parts) in
    elim (is_none (get first path)) as (λ b. get (after_changes (puts time (cond b (path ∷ later) later)) names) q ≡ get names q) [
      | true ↦
          puts_leave first (insert names path (new_directory time)) time path parts q (omega arith)
          ∙ get-insert_other names path (new_directory time) q (longer_is_other path q (omega arith))
      | false ↦ puts_leave first names time path parts q (omega arith)
    ]

some_directory : (o : Option Entry) → IsSomeAnd o (λ entry. entry.kind ≡ Directory) → is_directory o ≡ true
some_directory None is = absurd is
some_directory (Some entry) is = ap (λ kind. not (is_file_kind kind)) is

directory_is : (names : Namespace) (path : List (List ℕ)) → path ≢ [] → IsDirectoryIn names path → is_directory (get names path) ≡ true
directory_is names [] filled is = absurd (filled refl)
directory_is names (x ∷ xs) filled is = some_directory (get names (x ∷ xs)) is

-- What is put in a directory keeps the names well-formed, unless a file takes a directory's place.
pub put_keeps : (names : Namespace) (top : List (List ℕ)) (part : List ℕ) (entry : Entry) → IsWellFormed names → IsDirectoryIn names top
    → (entry.kind ≡ Directory) ⊎ (is_directory (get names (top ++ part ∷ [])) ≡ false)
    → IsWellFormed (insert names (top ++ part ∷ []) entry)
put_keeps names top part entry formed above fits = record {
  rootless = get-insert_other names (top ++ part ∷ []) entry [] (λ e. filled-append top part (sym e)) ∙ formed.rootless;
  parents = λ parent name there.
      let path : List (List ℕ) = top ++ part ∷ [] in
      let longer : length top < length path = longer_than_top top part in
      let other : top ≢ path = λ e. (let same : length top ≡ length path = ap length e in omega arith) in
      elim (cases_path (parent ++ name ∷ []) path) [
        | inl same ↦
            subst (IsDirectoryIn (insert names path entry)) (sym (parent_is parent top name part same))
            (IsDirectoryIn-same names (insert names path entry) top (get-insert_other names path entry top other) above)
        | inr apart ↦
            let is : IsDirectoryIn names parent = formed.parents parent name (subst IsSome (get-insert_other names path entry (parent ++ name ∷ []) apart.1) there) in
            elim (cases_path parent path) [
              | inr other_parent ↦ IsDirectoryIn-same names (insert names path entry) parent (get-insert_other names path entry parent other_parent.1) is
              | inl same ↦ elim fits [
                | inl kind ↦ IsDirectoryIn-found (insert names path entry) parent entry (ap (get (insert names path entry)) same ∙ get-insert_same names path entry) kind
                | inr no_directory ↦
                    absurd (false≢true (sym no_directory ∙ directory_is names path (filled-append top part) (subst (IsDirectoryIn names) same is)))
              ]
            ]
      ];
}

-- The missing ancestors of a path put, with no file among them
pub record MakesParents (names : Namespace) (path : List (List ℕ)) (parents : List Change) : Type 0 where
  pub keeps : KeepsWellFormed parents names
  pub formed : IsWellFormed (after_changes parents names)
  pub above : IsDirectoryIn (after_changes parents names) (directory_of path)
  pub there : get (after_changes parents names) path ≡ get names path

pub puts_parents : (names : Namespace) (time : ℕ) (path : List (List ℕ)) → path ≢ [] → IsWellFormed names → first_file names (prefixes (directory_of path)) ≡ None
    → MakesParents names path (puts time (missing names (prefixes (directory_of path))))
puts_parents names time path filled formed clear =
    let directory : List (List ℕ) = directory_of path in
    let long : length path ≡ length directory + 1 = ap length (directory_and_name path filled) ∙ length-append directory (name_of path ∷ []) in
    let keeps : KeepsWellFormed (puts time (missing names (prefixes directory))) names = puts_keep names names time [] directory formed tt (λ q h. refl) clear in record {
      keeps = keeps;
      formed = IsWellFormed-after _ names formed keeps;
      above = made_there names names time [] directory tt (λ q h. refl) clear;
      there = puts_leave names names time [] directory path (omega arith);
    }

pub parents_make : (names : Namespace) (time : ℕ) (path : List (List ℕ)) (parents : List Change) → path ≢ [] → IsWellFormed names → parents_at names time path ≡ Ok parents
    → MakesParents names path parents
parents_make names time path parents filled formed e =
    let is = no_file_above (first_file names (prefixes (directory_of path))) (puts time (missing names (prefixes (directory_of path)))) parents e in
    subst (MakesParents names path) is.1 (puts_parents names time path filled formed is.0)

-- The same of a path, as it is put in its directory
pub put_path_keeps : (names : Namespace) (path : List (List ℕ)) (entry : Entry) → path ≢ [] → IsWellFormed names → IsDirectoryIn names (directory_of path)
    → (entry.kind ≡ Directory) ⊎ (is_directory (get names path) ≡ false)
    → IsWellFormed (step (Put path entry) names)
put_path_keeps names path entry filled formed above fits =
    let split : path ≡ directory_of path ++ name_of path ∷ [] = directory_and_name path filled in
    subst (λ p. IsWellFormed (insert names p entry)) (sym split)
    (put_keeps names (directory_of path) (name_of path) entry formed above
    (subst (λ p. (entry.kind ≡ Directory) ⊎ (is_directory (get names p) ≡ false)) split fits))

-- Writes
pub write_keeps : (names : Namespace) (time : ℕ) (path : List (List ℕ)) (w : Written) (changes : List Change) → IsWellFormed names → writing names time path w ≡ Ok changes → KeepsWellFormed changes names
write_keeps names time path w changes formed e =
    let first = and_then_ok (parents_at names time path) _ changes e in
    let second = and_then_ok (file_written time path (get names path) w) _ changes first.2 in
    let apart = or_parts _ _ (unless_first (is_root path || is_directory (get names path)) IsDirectory _ (file_after time (get names path) w) second.0 second.1) in
    let filled : path ≢ [] = not_root path apart.0 in
    let makes : MakesParents names path first.0 = parents_make names time path first.0 filled formed first.1 in
    let made : first.0 ++ Put path second.0 ∷ [] ≡ changes = same_changes _ _ second.2 in
    subst (λ l. KeepsWellFormed l names) made
    (KeepsWellFormed-append first.0 (Put path second.0 ∷ []) names makes.keeps
    (put_path_keeps (after_changes first.0 names) path second.0 filled makes.formed makes.above (inr (ap is_directory makes.there ∙ apart.1)), tt))

-- No file is left among a path and those above it once the first one is dropped.
first_above : (file : List (List ℕ)) (names : Namespace) (top a : List (List ℕ)) → length top + length a < length file
    → first_file (step (Drop file) names) (prefixes_from top a) ≡ first_file names (prefixes_from top a)
first_above file names top [] short = refl
first_above file names top (x ∷ a) short =
    let path : List (List ℕ) = top ++ x ∷ [] in
    let size : length path ≡ length top + 1 = length-append top (x ∷ []) in
    ap (λ o. cond (is_file o) (Some path) (first_file (step (Drop file) names) (prefixes_from path a)))
    (stays file path names (shorter_is_outside file path (omega arith)))
    ∙ ap (λ o. cond (is_file (get names path)) (Some path) o) (first_above file names path a (omega arith))

first_within : (file : List (List ℕ)) (names : Namespace) (top a : List (List ℕ)) → is_within file top ≡ true → first_file (step (Drop file) names) (prefixes_from top a) ≡ None
first_within file names top [] within = refl
first_within file names top (x ∷ a) within =
    let path : List (List ℕ) = top ++ x ∷ [] in
    ap (λ o. cond (is_file o) (Some path) (first_file (step (Drop file) names) (prefixes_from path a)))
    (gone file path names (below_within file top x within))
    ∙ first_within file names path a (below_within file top x within)

no_file_left : (names : Namespace) (a : List (List ℕ)) (part : List ℕ) (rest : List (List ℕ)) → first_file names (prefixes a) ≡ None
    → first_file (step (Drop (a ++ part ∷ [])) names) (prefixes (a ++ part ∷ rest)) ≡ None
no_file_left names a part rest clear =
    let file : List (List ℕ) = a ++ part ∷ [] in
    let size : length file ≡ length a + 1 = length-append a (part ∷ []) in
    let now : Namespace = step (Drop file) names in
    ap (first_file now) (prefixes_from-append [] a (part ∷ rest)) ∙ find-append _ (prefixes a) (file ∷ prefixes_from file rest)
    ∙ ap (λ o. option_or o (first_file now (file ∷ prefixes_from file rest))) (first_above file names [] a (omega arith) ∙ clear)
    ∙ ap (λ o. cond (is_file o) (Some file) (first_file now (prefixes_from file rest))) (gone file file names (itself_within file))
    ∙ first_within file names file rest (itself_within file)

-- The way cleared
record Clears (names : Namespace) (directory : List (List ℕ)) (drops : List Change) : Type 0 where
  pub keeps : KeepsWellFormed drops names
  pub formed : IsWellFormed (after_changes drops names)
  pub clear : first_file (after_changes drops names) (prefixes directory) ≡ None

clears_by : (names : Namespace) (directory : List (List ℕ)) (file : Option (List (List ℕ))) → IsWellFormed names → first_file names (prefixes directory) ≡ file → Clears names directory (drop_of file)
clears_by names directory None formed is = record { keeps = tt; formed = formed; clear = is }
clears_by names directory (Some file) formed is =
    let split : Splits names [] directory file = first_splits names [] directory file is in record {
      keeps = (drop_keeps file names formed, tt);
      formed = drop_keeps file names formed;
      clear = ap (λ f. first_file (step (Drop f) names) (prefixes directory)) split.file_is
          ∙ ap (λ d. first_file (step (Drop (split.a ++ split.part ∷ [])) names) (prefixes d)) split.is
          ∙ no_file_left names split.a split.part split.rest split.clear;
    }

-- What is there replaced
replaced_keeps : (names : Namespace) (path : List (List ℕ)) (entry : Entry) (drops has : Bool) → path ≢ [] → IsWellFormed names → IsDirectoryIn names (directory_of path)
    → (is_directory (get names path) && is_file_kind entry.kind) ≡ drops
    → KeepsWellFormed (cond drops (Drop path ∷ []) [] ++ cond has [] (Put path entry ∷ [])) names
replaced_keeps names path entry true true filled formed above is = (drop_keeps path names formed, tt)
replaced_keeps names path entry true false filled formed above is =
    let long : length path ≡ length (directory_of path) + 1 = ap length (directory_and_name path filled) ∙ length-append (directory_of path) (name_of path ∷ []) in (
      drop_keeps path names formed,
      (
        put_path_keeps (step (Drop path) names) path entry filled (drop_keeps path names formed)
            (directory_stays path (directory_of path) names (shorter_is_outside path (directory_of path) (omega arith)) above)
            (inr (ap is_directory (gone path path names (itself_within path)))),
        tt,
      ),
    )
replaced_keeps names path entry false true filled formed above is = tt
replaced_keeps names path entry false false filled formed above is = (
  put_path_keeps names path entry filled formed above (elim (and_cases (is_directory (get names path)) (is_file_kind entry.kind) is) [
    | inl no_directory ↦ inr no_directory
    | inr no_file ↦ inl (not_file_is_directory entry.kind no_file)
  ]),
  tt,
)

placed_keeps : (names : Namespace) (time : ℕ) (path : List (List ℕ)) (entry : Entry) → path ≢ [] → IsWellFormed names → KeepsWellFormed (placed names time path entry) names
placed_keeps names time path entry filled formed =
    let directory : List (List ℕ) = directory_of path in
    let drops : List Change = clearing names directory in
    let free : Namespace = cleared names directory in
    let made : List Change = puts time (missing free (prefixes directory)) in
    let there : Option Entry = get free path in
    let clears : Clears names directory drops = clears_by names directory (first_file names (prefixes directory)) formed refl in
    let makes : MakesParents free path made = puts_parents free time path filled clears.formed clears.clear in
    let now : after_changes (drops ++ made) names ≡ after_changes made free = after_changes-append drops made names in
    let replaced : KeepsWellFormed (replacing path there entry) (after_changes made free) =
    replaced_keeps (after_changes made free) path entry (is_directory there && is_file_kind entry.kind) (has_already there entry) filled makes.formed makes.above
    (ap (λ o. is_directory o && is_file_kind entry.kind) makes.there) in
    KeepsWellFormed-append (drops ++ made) (replacing path there entry) names
    (KeepsWellFormed-append drops made names clears.keeps makes.keeps)
    (subst (KeepsWellFormed (replacing path there entry)) (sym now) replaced)

pub place_keeps : (names : Namespace) (time : ℕ) (path : List (List ℕ)) (entry : Entry) (changes : List Change) → IsWellFormed names → placing names time path entry ≡ Ok changes → KeepsWellFormed changes names
place_keeps names time path entry changes formed e =
    subst (λ l. KeepsWellFormed l names) (unless_ok (refuse_if (is_root path) RootFixed ∷ []) (placed names time path entry) changes e)
    (placed_keeps names time path entry (not_root path (unless_first (is_root path) RootFixed [] (placed names time path entry) changes e)) formed)

-- New directories
pub directories_keep : (names : Namespace) (time : ℕ) (path : List (List ℕ)) (changes : List Change) → IsWellFormed names → directories_at names time (prefixes path) ≡ Ok changes → KeepsWellFormed changes names
directories_keep names time path changes formed e =
    let is = no_file_above (first_file names (prefixes path)) (puts time (missing names (prefixes path))) changes e in
    subst (λ l. KeepsWellFormed l names) is.1 (puts_keep names names time [] path formed tt (λ q h. refl) is.0)
