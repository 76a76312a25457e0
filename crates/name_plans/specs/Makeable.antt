-- What a record may hold.
use Rattle.std.specs.Prelude.{List, All}
use Rattle.name_core.specs.declared.change.Change.{Change}
use Rattle.name_core.specs.Namespace.{AreRootless}
use Rattle.name_core.specs.RecordText.{HasValidEntry}

-- No change is of the root, and each that puts an entry puts a valid one.
pub record AreMakeable (changes : List Change) : Type 0 where
  pub rootless : AreRootless changes
  pub valid : All HasValidEntry changes
