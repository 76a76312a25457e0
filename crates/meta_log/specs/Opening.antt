-- What an opening finds and leaves.
use Rattle.std.specs.Prelude.{◌≡◌, ℕ, List, length}
use Rattle.weed_base.specs.Files.{Files}
use Rattle.meta_log.specs.Segment.{items}
use Rattle.meta_log.specs.LogText.{HasText, HasSegment}
use Rattle.meta_log.specs.declared.stem.Stem.{Stem}

-- The files held a list of allowed payloads, which were let through; they hold it in their first segment now,
-- and behind its items stands this gate.
pub record IsOpen (Allowed Passed : List (List ℕ) → Type 0) (stem : Stem) (gate : ℕ) (old new : Files) : Type 0 where
  pub payloads : List (List ℕ)
  pub before : HasText Allowed stem old payloads
  pub now : HasSegment Allowed stem new payloads
  pub place : gate ≡ length (items payloads)
  pub passed : Passed payloads
