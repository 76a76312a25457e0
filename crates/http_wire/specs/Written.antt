-- What a write of some bytes may have left where it failed.
use Rattle.std.specs.Prelude.{ℕ, ◌<◌, Option, List, length, take, Result, MatchResult}
use Rattle.weed_base.specs.Told.{Appends}

-- What was written has grown by some first bytes of these, but not by all.
abbrev pub AppendsFront : Option (List ℕ) → Option (List ℕ) → List ℕ → Type 0
AppendsFront old new bytes = (count : ℕ) × Appends old new (take count bytes) × (count < length bytes)

-- What was written has grown by these bytes, or by some first ones, not all, where the call failed.
abbrev pub WritesAll : {T E : Type 0} → Option (List ℕ) → Option (List ℕ) → Result T E → List ℕ → Type 0
WritesAll old new result bytes = MatchResult result (λ _. Appends old new bytes) (λ _. AppendsFront old new bytes)
