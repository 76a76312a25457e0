-- What part of a file a `Range` line asks for.
use Rattle.std.specs.Prelude.{ℕ, nat_le, ◌==◌, List, length, drop, Option, None, Some, if◌then◌else◌, codes, nat_eq}
use Rattle.std.specs.List.{starts_with}
use Rattle.http_head.specs.Words.{has_byte, front_of, back_of, read_number}
use Rattle.http_head.specs.declared.range.RangeWish.{RangeWish}
use Rattle.http_head.specs.declared.range.RangeWish.TheVariants.{All, Between, From, Last}

-- `bytes=a-b` with a at most b, where both are numbers.
abbrev pub between : Option ℕ → Option ℕ → RangeWish
between (Some first) (Some last) = if nat_le first last then Between first last else All
between (Some first) None = All
between None last = All

-- `bytes=a-`.
abbrev pub from : Option ℕ → RangeWish
from (Some first) = From first
from None = All

-- `bytes=-n`.
abbrev pub last : Option ℕ → RangeWish
last (Some count) = Last count
last None = All

-- What stands on each side of the dash.
abbrev pub wish_of_sides : List ℕ → List ℕ → RangeWish
wish_of_sides front back =
    if length front == 0 then last (read_number back)
    else if length back == 0 then from (read_number front)
    else between (read_number front) (read_number back)

-- What stands behind `bytes=`, cut at its first dash. With no dash it is ignored.
abbrev pub wish_of_span : List ℕ → RangeWish
wish_of_span span = if has_byte 45 span then wish_of_sides (front_of 45 span) (back_of 45 span) else All

-- The value of a `Range` line. All other forms are ignored.
abbrev pub wish_of_value : List ℕ → RangeWish
wish_of_value value = if starts_with nat_eq value (codes "bytes=") then wish_of_span (drop 6 value) else All

-- The first `Range` line, where there is one.
abbrev pub wish_of : Option (List ℕ) → RangeWish
wish_of (Some value) = wish_of_value value
wish_of None = All
