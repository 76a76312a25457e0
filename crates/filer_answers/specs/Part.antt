-- What part of a file is sent.
use Rattle.std.specs.Prelude.{ℕ, ◌+◌, ◌-◌, ◌<◌, ◌≤◌, nat_lt, min, if◌then◌else◌, Option, None, Some}
use Rattle.http_head.specs.declared.range.RangeWish.{RangeWish}
use Rattle.http_head.specs.declared.range.RangeWish.TheVariants as wish
use Rattle.filer_answers.specs.declared.part.Part.{Part}
use Rattle.filer_answers.specs.declared.part.Part.TheVariants.{Whole, Between}

-- The bytes from a place to before another, as far as the file goes; none where it has none of them.
abbrev pub part_between : ℕ → ℕ → ℕ → Option Part
part_between from to length = if nat_lt from (min to length) then Some (Between from (min to length)) else None

-- The part of a file of that length that is wished for, where the range doesn't miss the file.
abbrev pub wished_part : RangeWish → ℕ → Option Part
wished_part wish.All length = Some Whole
wished_part (wish.Between first last) length = part_between first (last + 1) length
wished_part (wish.From first) length = part_between first length length
wished_part (wish.Last count) length = part_between (length - count) length length

-- The part is one of a file of that length, and has a byte unless it is all of it.
abbrev pub IsWithin : ℕ → Part → Type 0
IsWithin length Whole = Unit {0}
IsWithin length (Between from to) = (from < to) × (to ≤ length)
