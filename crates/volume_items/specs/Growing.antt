-- How a file grows at its end.
use Rattle.std.specs.Prelude.{◌≡◌, ℕ, List, ◌++◌, length, take, Some}
use Rattle.std.specs.FinMap.{get}
use Rattle.weed_base.specs.Files.{Files, content}
use Rattle.volume_items.specs.Changes.{ChangesOnly}

-- The file is there, and ends at this place.
pub record EndsAt (name : List ℕ) (at : ℕ) (files : Files) : Type 0 where
  pub text : List ℕ
  pub there : get files name ≡ Some text
  pub length_is : length text ≡ at

-- The file has grown by these bytes, and no other file has changed.
pub record Appends (name piece : List ℕ) (old new : Files) : Type 0 where
  pub there : get new name ≡ Some (content old name ++ piece)
  pub others : ChangesOnly name old new

-- The first bytes of a file are as they were.
abbrev pub KeepsFront : List ℕ → ℕ → Files → Files → Type 0
KeepsFront name at old new = take at (content new name) ≡ take at (content old name)
