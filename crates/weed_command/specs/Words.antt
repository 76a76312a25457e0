-- The words of a command line: `filer.once`, and `-dir=` before 1 to 1,024 bytes.
use Rattle.std.specs.Prelude.{ℕ, Bool, List, [], ◌∷◌, length, bytes_eq, nat_le, ◌&&◌, Result, Ok, Err, take, drop, codes, if◌then◌else◌}
use Rattle.weed_command.specs.declared.words.Order.{Order}
use Rattle.weed_command.specs.declared.words.Order.TheVariants.{FilerOnce}

-- The directory of an order.
abbrev pub dir_of : Order → List ℕ
dir_of (FilerOnce dir) = dir.now

-- The word `filer.once`.
abbrev pub is_command : List ℕ → Bool
is_command word = bytes_eq word (codes "filer.once")

-- `-dir=`, and 1 to 1,024 bytes behind it.
abbrev pub is_dir_flag : List ℕ → Bool
is_dir_flag word = bytes_eq (take 5 word) (codes "-dir=") && nat_le 6 (length word) && nat_le (length word) 1029

-- The directory that the flags name, or the place of the first bad word.
abbrev pub directory_of : List (List ℕ) → Result (List ℕ) ℕ
directory_of [] = Err 1
directory_of (flag ∷ []) = if is_dir_flag flag then Ok (drop 5 flag) else Err 1
directory_of (flag ∷ third ∷ more) = if is_dir_flag flag then Err 2 else Err 1

-- The directory that the words name, or the place of the first bad word.
abbrev pub order_of : List (List ℕ) → Result (List ℕ) ℕ
order_of [] = Err 0
order_of (command ∷ flags) = if is_command command then directory_of flags else Err 0
