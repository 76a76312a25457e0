-- An item in pieces: its head, its data, and the tail behind them.
use Rattle.std.specs.Prelude.{◌≡◌, ℕ, ◌+◌, ◌≤◌, nat_lt, ◌==◌, if◌then◌else◌, List, [], ◌++◌, length, take, drop, Option, Some, None, Result, Ok, Err, IsOk}
use Rattle.needle.specs.declared.fault.NeedleFault.{NeedleFault}
use Rattle.needle.specs.declared.fault.NeedleFault.TheVariants.{SizeMismatch, ChecksumMismatch}
use Rattle.needle.specs.declared.head.Head.{Head}
use Rattle.needle.specs.declared.version.Version.{Version}
use Rattle.needle.specs.Crc.{checksum}
use Rattle.needle.specs.Fields.{four_at, eight_at, size_in}
use Rattle.needle.specs.Layout.{padded}
use Rattle.needle.specs.Reading.{Contents, told_at, check_marks, behind}

-- The text begins with this head.
pub record IsHead (text : List ℕ) (head : Head) : Type 0 where
  pub cookie : head.cookie ≡ four_at 0 text
  pub key : head.key ≡ eight_at 4 text
  pub size : head.size ≡ size_in text
  pub data_len : head.data_len ≡ four_at 16 text

-- How many bytes of data stand behind a head: none where the size doesn't count them with their length and the flags.
abbrev pub data_behind : Head → ℕ
data_behind head = if nat_lt head.size (head.data_len + 5) then 0 else head.data_len

-- The data of a text of this head.
abbrev pub data_in : Head → List ℕ → List ℕ
data_in head text = take (data_behind head) (drop 20 text)

-- The text begins with this head, its data has this checksum, and this tail stands behind them.
pub record IsInPieces (head : Head) (sum : ℕ) (tail text : List ℕ) : Type 0 where
  pub begins : IsHead text head
  pub sum_is : sum ≡ checksum (data_in head text)
  pub more : List ℕ
  pub ends : drop (20 + data_behind head) text ≡ tail ++ more

-- The tail goes to the end of the item.
abbrev pub IsWholeTail : Version → Head → List ℕ → Type 0
IsWholeTail version head tail = padded version head.size ≤ 20 + data_behind head + length tail

-- Whether two checksums are one.
abbrev pub check_sums : ℕ → ℕ → Result (Unit {0}) NeedleFault
check_sums stored computed = if stored == computed then Ok tt else Err (ChecksumMismatch stored computed)

-- What is said of the parts behind the data, where they were read, and of the checksum that stands behind them.
abbrev pub parts_verdict : Option Contents → ℕ → ℕ → Result (Unit {0}) NeedleFault
parts_verdict None stored sum = Err SizeMismatch
parts_verdict (Some parts) stored sum = behind (check_marks parts.flags) (λ _. check_sums stored sum)

-- The same of a tail of which the size counts so many bytes.
abbrev pub tail_verdict : ℕ → ℕ → List ℕ → Result (Unit {0}) NeedleFault
tail_verdict count sum tail = parts_verdict (told_at [] (take count tail)) (four_at count tail) sum

-- What a check answered is what reading gives, without what was read.
abbrev pub Checks : {A : Type 0} → Result (Unit {0}) NeedleFault → Result A NeedleFault → Type 0
Checks (Ok _) read = IsOk read
Checks (Err fault) read = read ≡ Err fault
