-- Where a text stands in some bytes.
use Rattle.std.specs.Prelude.{ℕ, ◌+◌, List, length, take, drop, Option, None, Some, option_map, nat_eq, if◌then◌else◌}
use Rattle.std.specs.List.{starts_with}
use Rattle.memchr.specs.Find.{first_of, matches}

-- Where the text first stands in the bytes.
abbrev pub place_in : List ℕ → List ℕ → Option ℕ
place_in text bytes = first_of (matches bytes text 0)

-- What stands before its first place.
abbrev pub before : List ℕ → List ℕ → Option (List ℕ)
before text bytes = option_map (λ place. take place bytes) (place_in text bytes)

-- What stands behind its first place.
abbrev pub behind : List ℕ → List ℕ → Option (List ℕ)
behind text bytes = option_map (λ place. drop (place + length text) bytes) (place_in text bytes)

-- What stands behind the text, where the bytes begin with it.
abbrev pub stripped : List ℕ → List ℕ → Option (List ℕ)
stripped text bytes = if starts_with nat_eq bytes text then Some (drop (length text) bytes) else None
