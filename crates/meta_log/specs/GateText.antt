-- What a text that is ready to be appended keeps.
use Rattle.std.specs.Prelude.{◌≡◌, ℕ, ◌-◌, List, [], ◌∷◌, ◌++◌, length, take, drop}
use Rattle.meta_log.specs.Segment.{IsShort, framed}

-- The payload among its bytes.
abbrev pub payload_of : List ℕ → List ℕ
payload_of bytes = take (length bytes - 5) (drop 4 bytes)

-- The bytes are a frame and a closed gate.
pub record IsGateText (bytes : List ℕ) : Type 0 where
  pub spelled : bytes ≡ framed (payload_of bytes) ++ 0 ∷ []
  pub short : IsShort (payload_of bytes)
