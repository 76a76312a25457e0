-- How far a segment was read, and what was met there.
use Rattle.std.specs.Prelude.{◌≡◌, ℕ, ◌<◌, ◌≤◌, List, length, take, All}
use Rattle.meta_log.specs.Segment.{IsShort, items, IsSegment, IsBroken}
use Rattle.meta_log.specs.Stretch.{Stretch, IsOf}
use Rattle.meta_log.specs.declared.scan.Step.{Step}
use Rattle.meta_log.specs.declared.scan.Step.TheVariants.{More, End, Broken}

-- Up to where the reading is, the bytes are items of payloads that were let through.
pub record IsScanned (Passed : List (List ℕ) → Type 0) (bytes : List ℕ) (reading : Stretch) : Type 0 where
  pub good : List (List ℕ)
  pub of : IsOf bytes reading
  pub front : take reading.at bytes ≡ items good
  pub short : All IsShort good
  pub passed : Passed good

-- The bytes hold these payloads, which were let through, and the reading is at the gate behind them.
pub record IsAtEnd (Passed : List (List ℕ) → Type 0) (bytes : List ℕ) (at : ℕ) : Type 0 where
  pub payloads : List (List ℕ)
  pub segment : IsSegment bytes payloads
  pub place : at ≡ length (items payloads)
  pub passed : Passed payloads

-- After a step: an item more, the end, or the place where the bytes break.
abbrev pub IsStep : (List (List ℕ) → Type 0) → (List (List ℕ) → Type 0) → List ℕ → Stretch → Step → Type 0
IsStep Allowed Passed bytes reading More = IsScanned Passed bytes reading
IsStep Allowed Passed bytes reading End = IsAtEnd Passed bytes reading.at
IsStep Allowed Passed bytes reading Broken = IsBroken Allowed bytes reading.at

-- A step goes on within the file, or ends at a byte.
abbrev pub GoesOn : Stretch → Stretch → Step → Type 0
GoesOn old new More = (old.at < new.at) × (new.at ≤ new.size)
GoesOn old new End = 1 ≤ length new.held
GoesOn old new Broken = Unit {0}
