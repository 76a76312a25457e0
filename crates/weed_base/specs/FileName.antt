-- Names of files: 1 to 64 bytes of a small alphabet.
use Rattle.std.specs.Prelude.{ℕ, Bool, List, length, nat_le, ◌==◌, ◌&&◌, ◌||◌}
use Rattle.std.specs.List.{list_all}

-- `a` to `z`, `0` to `9`, `.` or `_`
abbrev pub is_file_byte : ℕ → Bool
is_file_byte b = (nat_le 97 b && nat_le b 122) || (nat_le 48 b && nat_le b 57) || (b == 46) || (b == 95)

-- A name: 1 to 64 of these bytes
abbrev pub is_file_name : List ℕ → Bool
is_file_name text = nat_le 1 (length text) && nat_le (length text) 64 && list_all is_file_byte text
