-- Which records can be written, and the directory and the name of a path, by which a text names it.
use Rattle.std.specs.Prelude.{◌≢◌, ℕ, ◌≤◌, List, [], All, None, unwrap_or}
use Rattle.std.specs.List.{last_or}
use Rattle.weed_base.specs.Path.{parent_of}
use Rattle.entry.specs.Entry.{IsValid}
use Rattle.name_core.specs.declared.change.Change.{Change}
use Rattle.name_core.specs.declared.change.Change.TheVariants.{Put, Drop}
use Rattle.name_core.specs.declared.change.Record.{Record}
use Rattle.name_core.specs.Namespace.{AreRootless}
use Rattle.name_core.specs.Log.{end_of_time}

-- The directory that a path stands in, for the root itself.
abbrev pub directory_of : List (List ℕ) → List (List ℕ)
directory_of path = unwrap_or (parent_of path) []

-- The last part of a path, empty for the root.
abbrev pub name_of : List (List ℕ) → List ℕ
name_of path = unwrap_or (last_or None path) []

-- The entry of a Put is valid.
abbrev pub HasValidEntry : Change → Type 0
HasValidEntry (Put path entry) = IsValid entry
HasValidEntry (Drop path) = Unit {0}

-- What can be written: a change, a time of 1 to 2^63 - 1, no change of the root, and valid entries.
pub record CanBeWritten (r : Record) : Type 0 where
  pub filled : r.changes ≢ []
  pub after_start : 1 ≤ r.time
  pub before_end : r.time ≤ end_of_time
  pub rootless : AreRootless r.changes
  pub valid : All HasValidEntry r.changes
