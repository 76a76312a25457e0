-- When the bytes that were sent were handed over.
use Rattle.std.specs.Prelude.{◌≡◌, ℕ, ◌-◌, ◌<◌, ◌≤◌, ◌⊎◌, List, [], ◌∷◌, ◌++◌, length, All, Option, IsSomeAnd}
use Rattle.std.specs.Option.{option_map}
use Rattle.weed_base.specs.Sent.{Piece}

-- The byte at an offset of pieces was handed over at that tick.
abbrev pub IsHandedAt : List Piece → ℕ → ℕ → Type 0
IsHandedAt [] offset tick = ⊥
IsHandedAt (piece ∷ later) offset tick =
    ((offset < length piece.bytes) × (tick ≡ piece.tick))
    ⊎ ((length piece.bytes ≤ offset) × IsHandedAt later (offset - length piece.bytes) tick)

-- The same of all that was sent, which is told.
abbrev pub IsSentAt : Option (List Piece) → ℕ → ℕ → Type 0
IsSentAt sent offset tick = IsSomeAnd sent (λ pieces. IsHandedAt pieces offset tick)

-- Pieces were sent, all of them at that tick.
abbrev pub SendsAt : ℕ → Option (List Piece) → Option (List Piece) → Type 0
SendsAt tick old new =
    (pieces : List Piece) × (new ≡ option_map (λ sent. sent ++ pieces) old) × All (λ piece. piece.tick ≡ tick) pieces
