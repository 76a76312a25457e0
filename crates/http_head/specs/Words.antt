-- Words and numbers in the lines of a head.
use Rattle.std.specs.Prelude.{ℕ, ◌-◌, ◌+◌, ◌^◌, nat_lt, Bool, ◌||◌, ◌&&◌, ◌==◌, not, List, length, take, drop, min, reverse, Option, None, Some, if◌then◌else◌}
use Rattle.std.specs.List.{list_any, list_all, slice_split, prefix_len, position_or_len}
use Rattle.std.specs.Str.{bytes_eq, str_to_ascii_lowercase}
use Rattle.std.specs.Char.{is_ascii_digit}
use Rattle.std.specs.Str.Parse.{digits_value}

-- Where the byte first stands, or the length where it doesn't.
abbrev pub place_of : ℕ → List ℕ → ℕ
place_of byte text = position_or_len (λ other. other == byte) text

-- The byte stands in the text.
abbrev pub has_byte : ℕ → List ℕ → Bool
has_byte byte text = nat_lt (place_of byte text) (length text)

-- What stands before the first such byte: all, where there is none.
abbrev pub front_of : ℕ → List ℕ → List ℕ
front_of byte text = take (place_of byte text) text

-- What stands behind it: nothing, where there is none.
abbrev pub back_of : ℕ → List ℕ → List ℕ
back_of byte text = drop (place_of byte text + 1) text

-- The text is the word, in any case.
abbrev pub is_word : List ℕ → List ℕ → Bool
is_word text word = bytes_eq (str_to_ascii_lowercase text) (str_to_ascii_lowercase word)

-- A blank or a tab.
abbrev pub is_blank : ℕ → Bool
is_blank byte = (byte == 32) || (byte == 9)

-- The text from its first byte that isn't blank.
abbrev pub without_front : List ℕ → List ℕ
without_front text = drop (prefix_len is_blank text) text

-- The text up to its last byte that isn't blank.
abbrev pub without_end : List ℕ → List ℕ
without_end text = take (length text - prefix_len is_blank (reverse text)) text

-- The text without the blanks around it.
abbrev pub trimmed : List ℕ → List ℕ
trimmed text = without_end (without_front text)

-- One of the words between the commas is the word.
abbrev pub has_word : List ℕ → List ℕ → Bool
has_word text word = list_any (λ part. is_word (trimmed part) word) (slice_split (λ byte. byte == 44) text)

-- One or more decimal digits.
abbrev pub is_number : List ℕ → Bool
is_number text = not (length text == 0) && list_all is_ascii_digit text

-- The number that the decimal digits say, at most 2^64 - 1.
abbrev pub capped_value : List ℕ → ℕ
capped_value digits = min (digits_value 10 digits) (2 ^ 64 - 1)

-- The same of a text, where it is a number.
abbrev pub read_number : List ℕ → Option ℕ
read_number text = if is_number text then Some (capped_value text) else None
