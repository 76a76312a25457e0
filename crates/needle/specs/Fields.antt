-- What the bytes of an item say, each field at its place. Bytes that aren't there count as 0.
use Rattle.std.specs.Prelude.{ℕ, ◌+◌, ◌^◌, ◌<◌, ◌≤◌, List, slice_index, take, drop, length}
use Rattle.std.specs.Int.{w32, w64, from_be_bytes}
use Rattle.needle.specs.declared.version.Version.{Version}
use Rattle.needle.specs.declared.version.Version.TheVariants.{V2, V3}
use Rattle.needle.specs.Layout.{padded}

-- Each is a byte.
abbrev pub AreBytes : List ℕ → Type 0
AreBytes bytes = (i : ℕ) → slice_index bytes i < 2 ^ 8

-- A number of four bytes at a place.
abbrev pub four_at : ℕ → List ℕ → ℕ
four_at place text = from_be_bytes w32 (take 4 (drop place text))

-- A number of eight bytes at a place.
abbrev pub eight_at : ℕ → List ℕ → ℕ
eight_at place text = from_be_bytes w64 (take 8 (drop place text))

-- The size that an item tells.
abbrev pub size_in : List ℕ → ℕ
size_in text = four_at 12 text

-- What the size counts.
abbrev pub counted_in : List ℕ → List ℕ
counted_in text = take (size_in text) (drop 16 text)

-- The checksum, behind what the size counts.
abbrev pub checksum_in : List ℕ → ℕ
checksum_in text = four_at (16 + size_in text) text

-- The moment, which version 2 hasn't.
abbrev pub moment_in : Version → List ℕ → ℕ
moment_in V2 text = 0
moment_in V3 text = eight_at (20 + size_in text) text

-- The text doesn't end inside the item, whose padding belongs to it.
abbrev pub IsWhole : Version → List ℕ → Type 0
IsWhole version text = padded version (size_in text) ≤ length text

-- The bytes end inside the item, its padding included.
abbrev pub IsTruncated : Version → List ℕ → Type 0
IsTruncated version text = length text < padded version (size_in text)
