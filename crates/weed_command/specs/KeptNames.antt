-- What is asked of each change that is made to the names in a table.
use Rattle.std.specs.Prelude.{◌≢◌, []}
use Rattle.name_core.specs.declared.change.Change.{Change}
use Rattle.name_core.specs.Namespace.{path_of}
use Rattle.name_core.specs.RecordText.{HasValidEntry}

-- A change isn't of the root, and what it puts is valid.
pub record MayBeMade (change : Change) : Type 0 where
  pub rootless : path_of change ≢ []
  pub valid : HasValidEntry change
