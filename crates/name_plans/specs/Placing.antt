-- What it takes to have an entry at a path, whatever stands in its way.
use Rattle.std.specs.Prelude.{ℕ, ◌&&◌, Bool, false, List, [], ◌∷◌, ◌++◌, Option, None, Some, Result, if◌then◌else◌}
use Rattle.std.specs.FinMap.{get}
use Rattle.entry.specs.declared.entry.Entry.{Entry}
use Rattle.entry.specs.Entry.{is_file_kind}
use Rattle.name_core.specs.declared.change.Change.{Change}
use Rattle.name_core.specs.declared.change.Change.TheVariants.{Put, Drop}
use Rattle.name_core.specs.declared.command.Refusal.{Refusal}
use Rattle.name_core.specs.declared.command.Refusal.TheVariants.{RootFixed}
use Rattle.name_core.specs.Namespace.{Namespace, after_changes}
use Rattle.name_core.specs.Plan.{first_file, missing, prefixes, puts}
use Rattle.name_core.specs.RecordText.{directory_of}
use Rattle.records.specs.Sameness.{is_same_entry}
use Rattle.name_plans.specs.Refusing.{refuse_if, unless, is_root}
use Rattle.name_plans.specs.Writing.{is_directory}

-- A drop of the file, where there is one.
abbrev pub drop_of : Option (List (List ℕ)) → List Change
drop_of None = []
drop_of (Some file) = Drop file ∷ []

-- The first file among a path and those above it is taken away.
abbrev pub clearing : Namespace → List (List ℕ) → List Change
clearing names directory = drop_of (first_file names (prefixes directory))

-- The names once neither a path nor one above it is a file.
abbrev pub cleared : Namespace → List (List ℕ) → Namespace
cleared names directory = after_changes (clearing names directory) names

-- What is there is this entry.
abbrev pub has_already : Option Entry → Entry → Bool
has_already None entry = false
has_already (Some there) entry = is_same_entry there entry

-- A directory that stands where a file is to be is dropped.
abbrev pub dropping : List (List ℕ) → Option Entry → Entry → List Change
dropping path there entry = if is_directory there && is_file_kind entry.kind then Drop path ∷ [] else []

-- The entry is put unless it is there.
abbrev pub putting : List (List ℕ) → Option Entry → Entry → List Change
putting path there entry = if has_already there entry then [] else Put path entry ∷ []

-- What is at a path is replaced by the entry.
abbrev pub replacing : List (List ℕ) → Option Entry → Entry → List Change
replacing path there entry = dropping path there entry ++ putting path there entry

-- What makes a path and each one above it a directory: a drop of the first file among them, and a new directory at each
-- that is missing then.
abbrev pub way_made : Namespace → ℕ → List (List ℕ) → List Change
way_made names time directory = clearing names directory ++ puts time (missing (cleared names directory) (prefixes directory))

-- All changes that place an entry at a path: the way to it, and what is there replaced.
abbrev pub placed : Namespace → ℕ → List (List ℕ) → Entry → List Change
placed names time path entry =
    let directory = directory_of path in
    way_made names time directory ++ replacing path (get (cleared names directory) path) entry

-- The same, unless the path is the root.
abbrev pub placing : Namespace → ℕ → List (List ℕ) → Entry → Result (List Change) Refusal
placing names time path entry = unless (refuse_if (is_root path) RootFixed ∷ []) (placed names time path entry)
