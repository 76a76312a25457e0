-- The lengths of texts that aren't built, as numbers of 64 bits.
use Rattle.std.specs.Prelude.{◌≡◌, ℕ, List, length, min}

-- A length, and 2^64 - 1 where it is past that.
abbrev pub capped : ℕ → ℕ
capped n = min n 18446744073709551615

-- The number is the length of the text.
abbrev pub Measures : ℕ → List ℕ → Type 0
Measures size text = size ≡ capped (length text)
