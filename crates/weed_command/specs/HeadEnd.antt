-- Where a head ends: at the first empty line of some bytes.
use Rattle.std.specs.Prelude.{◌≡◌, ℕ, ◌+◌, ◌<◌, List, take, drop, codes}

-- The end of a line stands at the place, and an empty line behind it.
abbrev pub IsEndAt : List ℕ → ℕ → Type 0
IsEndAt bytes place = take 3 (drop place bytes) ≡ codes "\n\r\n"

-- None stands below the place.
abbrev pub HasNoEndBelow : List ℕ → ℕ → Type 0
HasNoEndBelow bytes limit = (place : ℕ) → place < limit → ¬ IsEndAt bytes place

-- The first of them ends with so many first bytes.
pub record IsHeadLength (bytes : List ℕ) (count : ℕ) : Type 0 where
  pub place : ℕ
  pub ends : count ≡ place + 3
  pub stands : IsEndAt bytes place
  pub first : HasNoEndBelow bytes place
