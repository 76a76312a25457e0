-- What a commit asks of changes.
use Rattle.std.specs.Prelude.{ℕ, ◌+◌, List, [], ◌∷◌, All}
use Rattle.name_core.specs.declared.change.Change.{Change}
use Rattle.name_core.specs.declared.change.Change.TheVariants.{Put, Drop}
use Rattle.name_core.specs.Namespace.{AreRootless}
use Rattle.name_core.specs.RecordText.{HasValidEntry}

-- How many of the changes are puts.
abbrev pub put_count : List Change → ℕ
put_count [] = 0
put_count (Put path entry ∷ more) = put_count more + 1
put_count (Drop path ∷ more) = put_count more

-- No change is of the root, and each that puts an entry puts a valid one.
pub record MayBeMade (changes : List Change) : Type 0 where
  pub rootless : AreRootless changes
  pub valid : All HasValidEntry changes
