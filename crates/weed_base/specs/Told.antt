-- What an object of the outside tells of its contents, and how it counts its faults.
-- An object that is told gives its contents as `Some`, one that isn't gives `None`. A clause on contents
-- holds where they are told, and a clause on causes always.
use Rattle.std.specs.Prelude.{◌≡◌, ℕ, ◌+◌, ◌-◌, ◌^◌, ◌≤◌, ◌<◌, ◌⊎◌, min, max, List, [], ◌++◌, length, take, Ok, MatchResult, IsErr, Option, Result}
use Rattle.std.specs.Option.{option_map}

-- The count after one more. It stays at the end of its type.
abbrev pub raised : ℕ → ℕ
raised count = min (count + 1) (2 ^ 64 - 1)

-- The count went up, or stands at the end of its type.
abbrev pub Rose : ℕ → ℕ → Type 0
Rose before now = max before (raised before) ≤ now

-- The count went up by one where this is so, and stays as it was where it isn't.
pub record IsCauseOf (before now : ℕ) (Fault : Type 0) : Type 0 where
  pub later : before ≤ now
  pub quiet : ¬ Fault → now ≡ before
  pub failed : Fault → now ≡ raised before

-- The count went up by one where the call failed, and stays as it was where it is Ok.
abbrev pub HasCause : {T E : Type 0} → ℕ → ℕ → Result T E → Type 0
HasCause before now result = IsCauseOf before now (IsErr result)

-- A write failed, or took nothing of a piece that isn't empty.
abbrev pub IsWriteFault : {E : Type 0} → Result ℕ E → List ℕ → Type 0
IsWriteFault result piece = IsErr result ⊎ ((result ≡ Ok 0) × (0 < length piece))

-- The same of a write, where taking nothing of a piece that isn't empty counts as a failed call too.
abbrev pub HasWriteCause : {E : Type 0} → ℕ → ℕ → Result ℕ E → List ℕ → Type 0
HasWriteCause before now result piece = IsCauseOf before now (IsWriteFault result piece)

-- What was left began with these bytes, and has lost them.
abbrev pub Consumes : Option (List ℕ) → Option (List ℕ) → List ℕ → Type 0
Consumes old new bytes = old ≡ option_map (λ left. bytes ++ left) new

-- Nothing is left.
abbrev pub IsAtEnd : Option (List ℕ) → Type 0
IsAtEnd left = left ≡ option_map (λ _. []) left

-- What was written has grown by these bytes.
abbrev pub Appends : Option (List ℕ) → Option (List ℕ) → List ℕ → Type 0
Appends old new bytes = new ≡ option_map (λ written. written ++ bytes) old

-- A read took the bytes that it gave, none only at the end or with no room, and nothing where it failed.
abbrev pub Reads : {E : Type 0} → Option (List ℕ) → Option (List ℕ) → Result ℕ E → List ℕ → Type 0
Reads old new result room =
    MatchResult result
    (λ n. (n ≤ length room) × Consumes old new (take n room) × (n ≡ 0 → 0 < length room → IsAtEnd new))
    (λ _. new ≡ old)

-- A write took so many first bytes of the piece, and nothing where it failed.
abbrev pub Writes : {E : Type 0} → Option (List ℕ) → Option (List ℕ) → Result ℕ E → List ℕ → Type 0
Writes old new result piece =
    MatchResult result (λ n. (n ≤ length piece) × Appends old new (take n piece)) (λ _. new ≡ old)
