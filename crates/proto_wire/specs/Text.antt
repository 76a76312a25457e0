-- How fields are written, after the proto3 wire format. Numbers have seven bits a byte, the lowest first, and
-- the top bit where more bytes follow; fixed values are little-endian. A field has its tag first, which is its
-- number times 8 plus its wire type: 0 varint, 1 eight bytes, 2 a length and that many bytes, 5 four bytes.
use Rattle.std.specs.Prelude.{ℕ, zero, suc, ◌+◌, ◌*◌, ◌/◌, ◌%◌, ◌≤◌, List, [], ◌∷◌, ◌++◌, length, nat_lt, ◌==◌, if◌then◌else◌}
use Rattle.std.specs.Int.{w32, to_le_bytes}

-- A field's number is from 1 to 2^29 - 1.
pub record IsFieldNumber (number : ℕ) : Type 0 where
  pub low : 1 ≤ number
  pub high : number ≤ 536870911

-- The seven-bit groups of a number, at most so many.
abbrev pub groups : ℕ → ℕ → List ℕ
groups zero n = []
groups (suc most) n = if nat_lt n 128 then n ∷ [] else (n % 128 + 128) ∷ groups most (n / 128)

-- The one shortest spelling of a number below 2^64, which has at most ten bytes.
unfoldable pub varint_text : ℕ → List ℕ
varint_text n = groups 10 n

-- The tag of a field: its number, and its wire type in the low three bits.
abbrev pub tag_text : ℕ → ℕ → List ℕ
tag_text number kind = varint_text (number * 8 + kind)

-- A number; zero is written as nothing.
abbrev pub varint_field : ℕ → ℕ → List ℕ
varint_field number value = if value == 0 then [] else tag_text number 0 ++ varint_text value

-- Four bytes; zero is written as nothing.
abbrev pub fixed32_field : ℕ → ℕ → List ℕ
fixed32_field number value = if value == 0 then [] else tag_text number 5 ++ to_le_bytes w32 value

-- A message, also an empty one.
abbrev pub message_field : ℕ → List ℕ → List ℕ
message_field number bytes = tag_text number 2 ++ varint_text (length bytes) ++ bytes

-- Bytes; none are written as nothing.
abbrev pub bytes_field : ℕ → List ℕ → List ℕ
bytes_field number bytes = if length bytes == 0 then [] else message_field number bytes
