-- A file that is read from front to end.
use Rattle.std.specs.Prelude.{◌≡◌, ℕ, ◌-◌, ◌≤◌, List, ◌++◌, length, take, drop, min, Option, IfSome}
use Rattle.weed_base.specs.Files.{Files, content}

-- Bytes that were read and not used yet, the place in the file that they begin at, and the file's length.
pub record Stretch : Type 0 where
  pub at : ℕ
  pub held : List ℕ
  pub size : ℕ

-- They are a stretch of these bytes.
pub record IsOf (bytes : List ℕ) (stretch : Stretch) : Type 0 where
  pub whole : stretch.size ≡ length bytes
  pub within : stretch.at ≤ length bytes
  pub read : stretch.held ≡ take (length stretch.held) (drop stretch.at bytes)

-- So many bytes were read, or all that there are.
abbrev pub IsFilled : ℕ → List ℕ → Stretch → Type 0
IsFilled wanted bytes stretch = min wanted (length bytes - stretch.at) ≤ length stretch.held

-- A list grew by bytes of the file from a place on: as many as fit into the room, or as there are.
abbrev pub GrowsBy : Option Files → List ℕ → ℕ → ℕ → List ℕ → List ℕ → Type 0
GrowsBy told name at room old new =
    (more : List ℕ) × (new ≡ old ++ more) × (length more ≤ room) × IfSome told (λ files. more ≡ take room (drop at (content files name)))
