-- The bytes of one file of a log: items behind open gates, then a gate that isn't open, then any bytes.
use Rattle.std.specs.Prelude.{◌≡◌, ◌≢◌, ℕ, ◌+◌, ◌<◌, ◌≤◌, ◌⊎◌, List, [], ◌∷◌, ◌++◌, length, take, All}
use Rattle.std.specs.Int.{w32, to_be_bytes, from_be_bytes}

-- A payload fits into an item.
abbrev pub IsShort : List ℕ → Type 0
IsShort payload = length payload ≤ 67108864

-- What stands behind a gate: the length in 4 bytes, highest first, and the payload.
unfoldable pub framed : List ℕ → List ℕ
framed payload = to_be_bytes w32 (length payload) ++ payload

-- A payload behind an open gate.
abbrev pub item : List ℕ → List ℕ
item payload = 1 ∷ framed payload

-- The items of these payloads, one behind another.
abbrev pub items : List (List ℕ) → List ℕ
items [] = []
items (payload ∷ payloads) = item payload ++ items payloads

-- These bytes hold these payloads.
pub record IsSegment (bytes : List ℕ) (payloads : List (List ℕ)) : Type 0 where
  pub gate : ℕ
  pub rest : List ℕ
  pub spelled : bytes ≡ items payloads ++ gate ∷ rest
  pub closed : gate ≢ 1
  pub short : All IsShort payloads

-- Behind an open gate stands no item: fewer than 4 bytes, a length over the limit, or fewer bytes than it says.
abbrev pub IsCut : List ℕ → Type 0
IsCut behind =
    (length behind < 4)
    ⊎ (67108864 < from_be_bytes w32 (take 4 behind))
    ⊎ (length behind < 4 + from_be_bytes w32 (take 4 behind))

-- Behind good items stands neither a gate that isn't open nor an item whose payload may follow theirs.
abbrev pub EndsBadly : (List (List ℕ) → Type 0) → List (List ℕ) → List ℕ → Type 0
EndsBadly Allowed good tail =
    (tail ≡ [])
    ⊎ ((behind : List ℕ) × (tail ≡ 1 ∷ behind) × IsCut behind)
    ⊎ ((payload : List ℕ) × (rest : List ℕ) × (tail ≡ item payload ++ rest) × IsShort payload × ¬ Allowed (good ++ payload ∷ []))

-- The bytes hold no allowed list of payloads, and this is the place of the first item that is to blame.
pub record IsBroken (Allowed : List (List ℕ) → Type 0) (bytes : List ℕ) (at : ℕ) : Type 0 where
  pub good : List (List ℕ)
  pub tail : List ℕ
  pub spelled : bytes ≡ items good ++ tail
  pub place : at ≡ length (items good)
  pub short : All IsShort good
  pub allowed : Allowed good
  pub ends : EndsBadly Allowed good tail
