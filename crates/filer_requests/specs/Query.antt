-- The values of a query.
use Rattle.std.specs.Prelude.{ℕ, ◌-◌, ◌^◌, nat_le, Bool, ◌&&◌, true, false, List, [], ◌∷◌, Option, None, Some, option_map, min, codes, bytes_eq, if◌then◌else◌}
use Rattle.std.specs.Str.Parse.{digits_value}
use Rattle.http_head.specs.Words.{is_number, read_number}

-- The value of the first part of that name.
abbrev pub value_of : List ℕ → List (List ℕ × List ℕ) → Option (List ℕ)
value_of name [] = None
value_of name (part ∷ parts) = if bytes_eq part.0 name then Some part.1 else value_of name parts

-- `true` or `false`. A missing one is false.
abbrev pub truth_of : Option (List ℕ) → Option Bool
truth_of None = Some false
truth_of (Some value) = if bytes_eq value (codes "true") then Some true else if bytes_eq value (codes "false") then Some false else None

-- A number from 1 to 10,000.
abbrev pub within_limits : Option ℕ → Option ℕ
within_limits None = None
within_limits (Some count) = if nat_le 1 count && nat_le count 10000 then Some count else None

-- How many names a listing has at most. A missing one is 100.
abbrev pub limit_of : Option (List ℕ) → Option ℕ
limit_of None = Some 100
limit_of (Some value) = within_limits (read_number value)

-- A place in a file. All places past 274,877,906,944, the greatest length of a file, are one.
abbrev pub place_of : List ℕ → Option ℕ
place_of value = option_map (λ place. min place 274877906945) (read_number value)

-- A number of 64 bits.
abbrev pub fitting : ℕ → Option ℕ
fitting count = if nat_le count (2 ^ 64 - 1) then Some count else None

-- A moment.
abbrev pub moment_of : List ℕ → Option ℕ
moment_of value = if is_number value then fitting (digits_value 10 value) else None
