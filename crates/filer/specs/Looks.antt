-- What stands at a path of a namespace, the root included, and in a directory.
use Rattle.std.specs.Prelude.{◌≡◌, ◌≢◌, ℕ, List, [], ◌∷◌, Option, None, Some}
use Rattle.std.specs.FinMap.{get}
use Rattle.entry.specs.declared.entry.Entry.{Entry}
use Rattle.entry.specs.declared.entry.Kind.TheVariants as kind
use Rattle.entry.specs.Entry.{IsValid}
use Rattle.name_core.specs.Namespace.{Namespace}
use Rattle.name_core.specs.Plan.{new_directory}
use Rattle.name_core.specs.Pages.{in_directory, is_child_past, page_of, IsPage}
use Rattle.filer.specs.declared.listed.Listed.{Listed}
use Rattle.filer.specs.declared.listed.Listed.TheVariants.{Absent, File, Directory}

-- The root: a directory of mode 493, with all other attributes zero.
abbrev pub root_directory : Entry
root_directory = new_directory 0

-- What stands at a path. At the root it is always a directory, which no namespace has.
abbrev pub entry_at : Namespace → List (List ℕ) → Option Entry
entry_at names [] = Some root_directory
entry_at names (part ∷ parts) = get names (part ∷ parts)

-- What stands at the path, and, of a directory, its first so many children with names past another.
abbrev pub Lists : Namespace → List (List ℕ) → Option (List ℕ) → ℕ → Listed → Type 0
Lists names dir after limit Absent = entry_at names dir ≡ None
Lists names dir after limit (File entry) = entry_at names dir ≡ Some entry
Lists names dir after limit (Directory children) =
    (entry : Entry) × (entry_at names dir ≡ Some entry) × (entry.kind ≡ kind.Directory)
    × (in_directory dir children ≡ page_of names limit (is_child_past dir after))

-- A listing by itself, whatever the names: a file is one, and valid; children are at most so many, rise strictly, and are
-- past the name; and the root is a directory.
abbrev pub IsListing : List (List ℕ) → Option (List ℕ) → ℕ → Listed → Type 0
IsListing dir after limit Absent = dir ≢ []
IsListing dir after limit (File entry) = (dir ≢ []) × (entry.kind ≡ kind.File) × IsValid entry
IsListing dir after limit (Directory children) = IsPage limit (is_child_past dir after) (in_directory dir children)
