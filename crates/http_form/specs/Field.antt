-- What the header lines of a part say. Each begins behind a CR LF, and ends at its first CR LF.
use Rattle.std.specs.Prelude.{ℕ, ◌+◌, Bool, ◌&&◌, nat_le, List, [], ◌++◌, length, drop, map, Option, None, Some, option_map, codes, unwrap_or, if◌then◌else◌}
use Rattle.std.specs.Option.{option_and_then}
use Rattle.std.specs.Char.{to_ascii_lowercase}
use Rattle.std.specs.Str.{is_utf8}
use Rattle.http_head.specs.Words.{trimmed}
use Rattle.http_form.specs.Search.{place_in, before, behind}

-- What stands up to the line's end behind the first place of the front, in any case.
abbrev pub value_behind : List ℕ → List ℕ → Option (List ℕ)
value_behind front lines =
    option_and_then
    (λ place. before (codes "\r\n") (drop (place + length front) lines))
    (place_in front (map to_ascii_lowercase lines))

-- At most 255 bytes of UTF-8.
abbrev pub is_filename : List ℕ → Bool
is_filename name = nat_le (length name) 255 && is_utf8 name

-- A name that is one.
abbrev pub well_named : List ℕ → Option (List ℕ)
well_named name = if is_filename name then Some name else None

-- What stands behind the first `filename="` up to the next double quote.
abbrev pub named : List ℕ → Option (List ℕ)
named value = option_and_then well_named (option_and_then (before (codes "\"")) (behind (codes "filename=\"") value))

-- The file name that the first line named `Content-Disposition` gives.
abbrev pub filename_of : List ℕ → Option (List ℕ)
filename_of lines = option_and_then named (value_behind (codes "\r\ncontent-disposition:") lines)

-- The value of a line, or nothing where there is none.
abbrev pub shown : Option (List ℕ) → List ℕ
shown (Some value) = trimmed value
shown None = []

-- The content type that the first line named `Content-Type` states, without the blanks around it.
abbrev pub mime_of : List ℕ → List ℕ
mime_of lines = shown (value_behind (codes "\r\ncontent-type:") lines)
