-- CRC-32C (Castagnoli), bit by bit, as RFC 3720, section 12.1, and RFC 9260, appendix A, define it: the lowest
-- bit of each byte first.
use Rattle.std.specs.Prelude.{◌≡◌, ℕ, zero, suc, ◌+◌, ◌*◌, ◌/◌, ◌%◌, List, [], ◌<◌, bit_xor, ◌==◌, if◌then◌else◌, fold, slice_index, slice_index_or}

-- The polynomial, its bits in reverse order.
abbrev pub polynomial : ℕ
polynomial = 0x82F63B78

-- One bit: the remainder moves down by a place, and where a 1 falls out the polynomial is added.
unfoldable pub shifted : ℕ → ℕ
shifted remainder = if remainder % 2 == 1 then bit_xor (remainder / 2) polynomial else remainder / 2

-- That many bits.
unfoldable pub shifted_by : ℕ → ℕ → ℕ
shifted_by zero remainder = remainder
shifted_by (suc n) remainder = shifted_by n (shifted remainder)

-- One byte: it is added at the low end, and its eight bits fall out.
abbrev pub byte_step : ℕ → ℕ → ℕ
byte_step remainder byte = shifted_by 8 (bit_xor remainder byte)

-- The checksum: from a remainder of ones over all bytes, and its bits turned.
abbrev pub checksum : List ℕ → ℕ
checksum bytes = bit_xor (fold byte_step 0xFFFFFFFF bytes) 0xFFFFFFFF

-- Entry `byte` of table k is the remainder of that byte with k bytes of zero behind it.
abbrev pub AreTables : List (List ℕ) → Type 0
AreTables tables = (k byte : ℕ) → k < 16 → byte < 256 → slice_index (slice_index_or tables k []) byte ≡ shifted_by (8 * (k + 1)) byte
