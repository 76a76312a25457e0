-- The making of a first segment, step by step.
use Rattle.std.specs.Prelude.{◌≡◌, ◌≢◌, ◌⊎◌, ℕ, List, [], ◌∷◌}
use Rattle.std.specs.FinMap.{get}
use Rattle.weed_base.specs.Files.{Files, content}
use Rattle.meta_log.specs.LogText.{segment_name, on_name, Counts, NoneFrom}
use Rattle.meta_log.specs.declared.stem.Stem.{Stem}

-- Its file is there, with a closed gate, and doesn't count yet.
pub record IsPrepared (stem : Stem) (files : Files) : Type 0 where
  pub none : NoneFrom stem 1 files
  pub closed : content files (segment_name stem 1) ≡ 0 ∷ []

-- It counts.
pub record IsFresh (stem : Stem) (files : Files) : Type 0 where
  pub counts : Counts stem 1 files
  pub alone : NoneFrom stem 2 files
  pub closed : content files (segment_name stem 1) ≡ 0 ∷ []

-- It counts, or nothing does.
abbrev pub IsFreshOrEmpty : Stem → Files → Type 0
IsFreshOrEmpty stem files = NoneFrom stem 1 files ⊎ IsFresh stem files

-- Every file but the first segment's two is as it was.
abbrev pub LeavesOthers : Stem → Files → Files → Type 0
LeavesOthers stem old new =
    (name : List ℕ) → name ≢ segment_name stem 1 → name ≢ on_name stem 1 → get new name ≡ get old name
