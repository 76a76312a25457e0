-- What a read or a write of a whole piece comes to.
use Rattle.std.specs.Prelude.{ℕ, ◌≤◌, ◌<◌, Option, List, length, take, Result, MatchResult}
use Rattle.weed_base.specs.Told.{Appends, Consumes, IsAtEnd}

-- What was left has lost some bytes, which stand at the room's front and don't fill it.
abbrev pub ConsumesSome : Option (List ℕ) → Option (List ℕ) → List ℕ → Type 0
ConsumesSome old new room = (count : ℕ) × (count < length room) × Consumes old new (take count room)

-- What was left has lost so many bytes, which stand at the room's front and are fewer than fit only at the end, or
-- some that don't fill it where a read failed.
abbrev pub FillsRoom : {E : Type 0} → Option (List ℕ) → Option (List ℕ) → Result ℕ E → List ℕ → Type 0
FillsRoom old new result room =
    MatchResult result
    (λ count. (count ≤ length room) × Consumes old new (take count room) × (count < length room → IsAtEnd new))
    (λ _. ConsumesSome old new room)

-- What was written has grown by some first bytes of these, but not by all.
abbrev pub AppendsFront : Option (List ℕ) → Option (List ℕ) → List ℕ → Type 0
AppendsFront old new bytes = (count : ℕ) × Appends old new (take count bytes) × (count < length bytes)

-- What was written has grown by these bytes, or by some first ones, not all, where the call failed.
abbrev pub WritesAll : {T E : Type 0} → Option (List ℕ) → Option (List ℕ) → Result T E → List ℕ → Type 0
WritesAll old new result bytes = MatchResult result (λ _. Appends old new bytes) (λ _. AppendsFront old new bytes)
