-- Bytes of a file that were read at once.
use Rattle.std.specs.Prelude.{◌≡◌, ℕ, ◌+◌, ◌-◌, ◌≤◌, List, length, take, drop, min}
use Rattle.needle.specs.Crc.{checksum}
use Rattle.needle.specs.Fields.{AreBytes}
use Rattle.needle.specs.Running.{IsRunOf}
use Rattle.needle.specs.declared.crc.Checksum.{Checksum}

-- Bytes, and the place in the file that they begin at.
pub record Stretch : Type 0 where
  pub at : ℕ
  pub held : List ℕ

-- They are a stretch of this text.
abbrev pub IsOf : List ℕ → Stretch → Type 0
IsOf text stretch = stretch.held ≡ take (length stretch.held) (drop stretch.at text)

-- They go from before a place so many bytes beyond it, or to the text's end.
abbrev pub Reaches : List ℕ → ℕ → ℕ → Stretch → Type 0
Reaches text place wanted stretch = min wanted (length text - place) ≤ stretch.at + length stretch.held - place

-- Bytes that were read in pieces, with their checksum.
pub record IsSummed (text : List ℕ) (place count sum : ℕ) : Type 0 where
  pub sum_is : sum ≡ checksum (take count (drop place text))
  pub bytes : AreBytes (take count (drop place text))

-- The same of a checksum that goes on.
pub record IsSummedSoFar (text : List ℕ) (place count : ℕ) (sum : Checksum) : Type 0 where
  pub taken : IsRunOf (take count (drop place text)) sum
  pub bytes : AreBytes (take count (drop place text))
