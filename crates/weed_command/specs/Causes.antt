-- How an end of a run tells of faults that were counted.
use Rattle.std.specs.Prelude.{◌≡◌, ℕ, ◌≤◌, ◌⊎◌}
use Rattle.weed_base.specs.Told.{raised}

-- The count goes up by one with this end. Another one may hide that it did, and without both it stays as it was.
pub record IsCauseBeside (before now : ℕ) (Fault Hides : Type 0) : Type 0 where
  pub later : before ≤ now
  pub quiet : ¬ Fault → ¬ Hides → now ≡ before
  pub failed : Fault → now ≡ raised before
  pub hidden : Hides → (now ≡ before) ⊎ (now ≡ raised before)
