-- What a content type says of a form.
use Rattle.std.specs.Prelude.{ℕ, ◌-◌, Bool, ◌&&◌, ◌==◌, not, nat_lt, nat_le, List, length, take, drop, slice_index, Option, None, Some, option_map, codes, if◌then◌else◌}
use Rattle.std.specs.Option.{option_and_then}
use Rattle.http_head.specs.Words.{is_word, front_of}
use Rattle.http_form.specs.Search.{behind}

-- The content type begins so, in any case.
abbrev pub is_form : List ℕ → Bool
is_form content_type = nat_le 19 (length content_type) && is_word (take 19 content_type) (codes "multipart/form-data")

-- A double quote stands on both sides.
abbrev pub is_quoted : List ℕ → Bool
is_quoted text = nat_lt 1 (length text) && (slice_index text 0 == 34 && slice_index text (length text - 1) == 34)

-- The text without the double quotes around it.
abbrev pub unquoted : List ℕ → List ℕ
unquoted text = if is_quoted text then drop 1 (take (length text - 1) text) else text

-- A boundary has 1 to 70 bytes.
abbrev pub fits : List ℕ → Bool
fits boundary = not (length boundary == 0) && nat_le (length boundary) 70

-- A boundary that fits.
abbrev pub fitting : List ℕ → Option (List ℕ)
fitting boundary = if fits boundary then Some boundary else None

-- What stands behind the first `boundary=` up to a `;` or the end, without the quotes around it.
abbrev pub boundary_of : List ℕ → Option (List ℕ)
boundary_of content_type = option_and_then (λ rest. fitting (unquoted (front_of 59 rest))) (behind (codes "boundary=") content_type)
