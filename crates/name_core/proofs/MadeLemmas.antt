-- What a plan of a directory leaves at its path and above it.
use Rattle.std.proofs.Common.{◌≡◌, ℕ, Bool, true, false, cond, List, [], ◌∷◌, Some, None, Option, refl, sym, subst, eqb}
use Rattle.std.specs.Prelude.{All, is_none}
use Rattle.std.specs.FinMap.{get, insert}
use Rattle.std.proofs.lemmas.List.Elements.{All-nil, All-cons}
use Rattle.entry.specs.declared.entry.Entry.{Entry}
use Rattle.entry.specs.declared.entry.Kind.{Kind}
use Rattle.entry.specs.declared.entry.Kind.TheVariants.{Directory, File}
use Rattle.name_core.specs.declared.change.Change.{Change}
use Rattle.name_core.specs.declared.change.Record.{Record}
use Rattle.name_core.specs.declared.command.Command.TheVariants.{MakeDir}
use Rattle.name_core.specs.declared.command.Refusal.TheVariants.{ClockAtEnd}
use Rattle.entry.specs.Entry.{is_file_kind}
use Rattle.name_core.specs.Plan.{new_directory, prefixes, is_file, first_file, missing, puts, unless_file, record_time, Recorded, Nothing, Refused, planned, plan_of}
use Rattle.name_core.specs.Namespace.{Namespace, after_changes, IsDirectoryIn}
use Rattle.name_core.specs.Log.{end_of_time, after_record}
use Rattle.name_core.proofs.Paths.{get-insert_same}
use Rattle.name_core.proofs.NamespaceLemmas.{IsDirectoryIn-found, IsDirectoryIn-insert}
use Rattle.name_core.proofs.PlanLemmas.{Makes, planned_makes}

-- Each directory of the one map is a directory of the other.
abbrev pub KeepsDirectories : Namespace → Namespace → Type 0
KeepsDirectories old new = (path : List (List ℕ)) → IsDirectoryIn old path → IsDirectoryIn new path

puts_keep_directories : (time : ℕ) (paths : List (List (List ℕ))) (names : Namespace) → KeepsDirectories names (after_changes (puts time paths) names)
puts_keep_directories time [] names path is = is
puts_keep_directories time (p ∷ paths) names path is =
    puts_keep_directories time paths (insert names p (new_directory time)) path (IsDirectoryIn-insert names p (new_directory time) refl path is)

-- A path that is no file and isn't missing is a directory.
stands : (first : Namespace) (path : List (List ℕ)) (entry : Entry) (kind : Kind) (rest : Option (List (List ℕ)))
    → get first path ≡ Some entry
    → entry.kind ≡ kind
    → cond (is_file_kind kind) (Some path) rest ≡ None
    → IsDirectoryIn first path × (rest ≡ None)
stands first path entry Directory rest found is clear = (IsDirectoryIn-found first path entry found is, clear)
stands first path entry File rest found is clear = cc

-- The first path of more, by what is found there: it is a directory in the end, as are the others.
one_more : (found : Option Entry) (first names : Namespace) (time : ℕ) (path : List (List ℕ)) (paths : List (List (List ℕ)))
    → get first path ≡ found
    → KeepsDirectories first names
    → cond (is_file found) (Some path) (first_file first paths) ≡ None
    → ((now : Namespace) → KeepsDirectories first now → first_file first paths ≡ None → All (IsDirectoryIn (after_changes (puts time (missing first paths)) now)) paths)
    → All (IsDirectoryIn (after_changes (puts time (cond (is_none found) (path ∷ missing first paths) (missing first paths))) names)) (path ∷ paths)
one_more None first names time path paths is keeps clear others =
    let now : Namespace = insert names path (new_directory time) in
    let there : IsDirectoryIn now path = IsDirectoryIn-found now path (new_directory time) (get-insert_same names path (new_directory time)) refl in
    All-cons (IsDirectoryIn (after_changes (puts time (missing first paths)) now)) path paths
    (puts_keep_directories time (missing first paths) now path there)
    (others now (λ q h. IsDirectoryIn-insert names path (new_directory time) refl q (keeps q h)) clear)
one_more (Some entry) first names time path paths is keeps clear others =
    let parted : IsDirectoryIn first path × (first_file first paths ≡ None) = stands first path entry entry.kind _ is refl clear in
    All-cons (IsDirectoryIn (after_changes (puts time (missing first paths)) names)) path paths
    (puts_keep_directories time (missing first paths) names path (keeps path parted.0))
    (others names keeps parted.1)

-- Where none of the paths is a file, each is a directory once the missing ones are put.
puts_make : (first : Namespace) (time : ℕ) (paths : List (List (List ℕ))) (names : Namespace)
    → KeepsDirectories first names
    → first_file first paths ≡ None
    → All (IsDirectoryIn (after_changes (puts time (missing first paths)) names)) paths
puts_make first time [] names keeps clear = All-nil (IsDirectoryIn names)
puts_make first time (path ∷ paths) names keeps clear =
    one_more (get first path) first names time path paths refl keeps clear (puts_make first time paths)

not_nothing : (full : Bool) (made : Record) → cond full (Refused ClockAtEnd) (Recorded made) ≡ Nothing → ⊥
not_nothing true made e = cc
not_nothing false made e = cc

planned_nothing : (last time : ℕ) (file : Option (List (List ℕ))) (changes : List Change) → planned last time (unless_file file changes) ≡ Nothing → (file ≡ None) × (changes ≡ [])
planned_nothing last time None [] e = (refl, refl)
planned_nothing last time None (change ∷ more) e = absurd (not_nothing (eqb last end_of_time) _ e)
planned_nothing last time (Some file) changes e = cc

pub made_are_there : (names : Namespace) (path : List (List ℕ)) (clock last : ℕ) (made : Record) → plan_of names (MakeDir path) clock last ≡ Recorded made → All (IsDirectoryIn (after_record made names)) (prefixes path)
made_are_there names path clock last made e =
    let time : ℕ = record_time clock last in
    let makes : (first_file names (prefixes path) ≡ None) × Makes (puts time (missing names (prefixes path))) last time made = planned_makes last time _ _ made e in
    subst (λ changes. All (IsDirectoryIn (after_changes changes names)) (prefixes path)) (sym makes.1.changes)
    (puts_make names time (prefixes path) names (λ q h. h) makes.0)

pub unmade_are_there : (names : Namespace) (path : List (List ℕ)) (clock last : ℕ) → plan_of names (MakeDir path) clock last ≡ Nothing → All (IsDirectoryIn names) (prefixes path)
unmade_are_there names path clock last e =
    let time : ℕ = record_time clock last in
    let is : (first_file names (prefixes path) ≡ None) × (puts time (missing names (prefixes path)) ≡ []) = planned_nothing last time _ _ e in
    subst (λ changes. All (IsDirectoryIn (after_changes changes names)) (prefixes path)) is.1
    (puts_make names time (prefixes path) names (λ q h. h) is.0)
