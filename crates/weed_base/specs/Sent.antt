-- What was sent over a disk that is a host's: its pieces, in order.
use Rattle.std.specs.Prelude.{◌≡◌, ℕ, ◌≤◌, List, [], ◌∷◌, ◌++◌, length, take, MatchResult, Option, Result}
use Rattle.std.specs.Option.{option_map}
use Rattle.std.specs.List.{flat_map}

-- Bytes that were sent at once, and the disk's tick when they were handed over.
pub record Piece : Type 0 where
  pub tick : ℕ
  pub bytes : List ℕ

-- All the bytes of pieces.
abbrev pub bytes_of : List Piece → List ℕ
bytes_of pieces = flat_map (λ piece. piece.bytes) pieces

-- All the bytes sent, where they are told.
abbrev pub bytes_sent : Option (List Piece) → Option (List ℕ)
bytes_sent sent = option_map bytes_of sent

-- A send at a tick took so many first bytes of the piece, and nothing where it failed.
abbrev pub Sends : {E : Type 0} → ℕ → Option (List Piece) → Option (List Piece) → Result ℕ E → List ℕ → Type 0
Sends tick old new result piece =
    MatchResult result
    (λ n. (n ≤ length piece) × (new ≡ option_map (λ pieces. pieces ++ record { tick = tick; bytes = take n piece } ∷ []) old))
    (λ _. new ≡ old)
