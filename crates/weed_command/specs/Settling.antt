-- What calls leave of a log, at whichever moment a crash comes.
use Rattle.std.specs.Prelude.{◌⊎◌, ℕ, List}
use Rattle.weed_base.specs.Files.{Files}
use Rattle.weed_base.specs.Images.{LeavesOnly}
use Rattle.name_core.specs.declared.change.Record.{Record}
use Rattle.meta_log.specs.Kept.{IsRecordLog}
use Rattle.meta_log.specs.Images.{ImagesHoldRecords}

-- The image is a log of these records or of those.
abbrev pub IsOneOf : List Record → List Record → Files → Type 0
IsOneOf before after image = IsRecordLog image before ⊎ IsRecordLog image after

-- The calls led from one log to another: each image since a moment was one before them, or is one of the two logs,
-- and by now each is the latter.
pub record Settles {D : Type 0} (tick : D → ℕ) (images : D → Files → Type 0) (since : D → ℕ → Files → Type 0) (old new : D) (before after : List Record) : Type 0 where
  pub leaves : LeavesOnly tick since old new (IsOneOf before after)
  pub now : ImagesHoldRecords (images new) after

-- They did, where each image was the first of the logs.
abbrev pub Settling : {D : Type 0} → (D → ℕ) → (D → Files → Type 0) → (D → ℕ → Files → Type 0) → D → D → List Record → List Record → Type 0
Settling tick images since old new before after = ImagesHoldRecords (images old) before → Settles tick images since old new before after

-- The same where a call failed: each image may still be either of the two.
abbrev pub Tearing : {D : Type 0} → (D → ℕ) → (D → Files → Type 0) → (D → ℕ → Files → Type 0) → D → D → List Record → List Record → Type 0
Tearing tick images since old new before after = ImagesHoldRecords (images old) before → LeavesOnly tick since old new (IsOneOf before after)
