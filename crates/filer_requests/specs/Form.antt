-- Forms, by RFC 7578: their media type, and the boundary that it states.
use Rattle.std.specs.Prelude.{ℕ, ◌-◌, nat_le, nat_eq, Bool, ◌&&◌, List, [], ◌∷◌, length, take, drop, Option, None, Some, codes, bytes_eq, if◌then◌else◌}
use Rattle.std.specs.List.{starts_with, ends_with}
use Rattle.http_head.specs.Words.{is_word, front_of}

-- The media type begins as that of a form, in any case.
abbrev pub is_form : List ℕ → Bool
is_form mime = nat_le 19 (length mime) && is_word (take 19 mime) (codes "multipart/form-data")

-- What stands behind the first such word.
abbrev pub behind : List ℕ → List ℕ → Option (List ℕ)
behind word [] = None
behind word (byte ∷ text) = if bytes_eq (take (length word) (byte ∷ text)) word then Some (drop (length word) (byte ∷ text)) else behind word text

-- The text without the double quotes around it.
abbrev pub unquoted : List ℕ → List ℕ
unquoted text =
    if nat_le 2 (length text) && (starts_with nat_eq text (codes "\"") && ends_with nat_eq text (codes "\""))
    then take (length text - 2) (drop 1 text)
    else text

-- A boundary has 1 to 70 bytes.
abbrev pub bounded : List ℕ → Option (List ℕ)
bounded text = if nat_le 1 (length text) && nat_le (length text) 70 then Some text else None

-- The boundary: what stands behind the first `boundary=`, up to a `;` or the end.
abbrev pub boundary_behind : Option (List ℕ) → Option (List ℕ)
boundary_behind (Some text) = bounded (unquoted (front_of 59 text))
boundary_behind None = None

abbrev pub boundary_of : List ℕ → Option (List ℕ)
boundary_of mime = boundary_behind (behind (codes "boundary=") mime)
