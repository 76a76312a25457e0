-- What stands at a place in a segment.
use Rattle.std.specs.Prelude.{◌≡◌, ◌≢◌, ℕ, ◌+◌, ◌<◌, ◌≤◌, ◌⊎◌, List, [], ◌∷◌, ◌++◌, length, take}
use Rattle.std.specs.Int.{w32, to_be_bytes, from_be_bytes}
use Rattle.meta_log.specs.Segment.{IsShort, item, IsCut}
use Rattle.meta_log.specs.declared.head.Head.{Head}
use Rattle.meta_log.specs.declared.head.Head.TheVariants.{Closed, Broken, Item}

-- What these bytes begin with: a gate that isn't open; no gate, or an open one with no good length behind it;
-- or an open gate and the length of a payload.
abbrev pub IsHead : List ℕ → Head → Type 0
IsHead bytes Closed = (gate : ℕ) × (rest : List ℕ) × (bytes ≡ gate ∷ rest) × (gate ≢ 1)
IsHead bytes Broken =
    (bytes ≡ []) ⊎ ((behind : List ℕ) × (bytes ≡ 1 ∷ behind) × ((length behind < 4) ⊎ (67108864 < from_be_bytes w32 (take 4 behind))))
IsHead bytes (Item size) = (rest : List ℕ) × (bytes ≡ 1 ∷ (to_be_bytes w32 size ++ rest)) × (size ≤ 67108864)

-- The same where the whole rest of the file is looked at: behind the length stands the payload.
abbrev pub IsNextHead : List ℕ → Head → Type 0
IsNextHead bytes Closed = (gate : ℕ) × (rest : List ℕ) × (bytes ≡ gate ∷ rest) × (gate ≢ 1)
IsNextHead bytes Broken = (bytes ≡ []) ⊎ ((behind : List ℕ) × (bytes ≡ 1 ∷ behind) × IsCut behind)
IsNextHead bytes (Item size) =
    (payload : List ℕ) × (rest : List ℕ) × (bytes ≡ item payload ++ rest) × (length payload ≡ size) × IsShort payload

-- Behind an open gate and a length, so many bytes are there.
abbrev pub HasPayload : List ℕ → Head → Type 0
HasPayload held Closed = 1 ≤ length held
HasPayload held Broken = Unit {0}
HasPayload held (Item size) = 5 + size ≤ length held

-- The same where nothing is said of a gate.
abbrev pub HasItem : List ℕ → Head → Type 0
HasItem held Closed = Unit {0}
HasItem held Broken = Unit {0}
HasItem held (Item size) = 5 + size ≤ length held
