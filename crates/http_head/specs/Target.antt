-- The target of a request: a path and a query, with bytes escaped.
use Rattle.std.specs.Prelude.{ℕ, ◌+◌, Bool, true, false, not, ◌&&◌, ◌||◌, ◌==◌, drop, slice_index, List, [], ◌∷◌, map, if◌then◌else◌}
use Rattle.std.specs.List.{slice_split}
use Rattle.std.specs.Char.{is_ascii_hexdigit}
use Rattle.http_head.specs.Words.{has_byte, front_of, back_of}
use Rattle.percent_encoding.specs.Percent.{percent_decode}

-- Two hexadecimal digits stand in front.
abbrev pub begins_escape : List ℕ → Bool
begins_escape [] = false
begins_escape (high ∷ []) = false
begins_escape (high ∷ low ∷ rest) = is_ascii_hexdigit high && is_ascii_hexdigit low

-- At the place stands no `%`, or two hexadecimal digits stand behind it.
abbrev pub stands_well : List ℕ → ℕ → Bool
stands_well text place = not (slice_index text place == 37) || begins_escape (drop (place + 1) text)

-- Behind each `%` stand two hexadecimal digits.
abbrev pub is_well_escaped : List ℕ → Bool
is_well_escaped [] = true
is_well_escaped (byte ∷ rest) = (not (byte == 37) || begins_escape rest) && is_well_escaped rest

-- The path: what stands before the first `?`, decoded.
abbrev pub path_of : List ℕ → List ℕ
path_of target = percent_decode (front_of 63 target)

-- `+` is a blank.
abbrev pub with_blank : ℕ → ℕ
with_blank byte = if byte == 43 then 32 else byte

-- A name or a value of a query.
abbrev pub decoded : List ℕ → List ℕ
decoded text = percent_decode (map with_blank text)

-- A part of a query: what stands before and behind its first `=`.
abbrev pub query_part : List ℕ → List ℕ × List ℕ
query_part part = (decoded (front_of 61 part), decoded (back_of 61 part))

-- `&`
abbrev pub is_ampersand : ℕ → Bool
is_ampersand byte = byte == 38

-- The parts of the query between its `&`, none where there is no `?`.
abbrev pub query_of : List ℕ → List (List ℕ × List ℕ)
query_of target =
    if has_byte 63 target
    then map query_part (slice_split is_ampersand (back_of 63 target))
    else []
