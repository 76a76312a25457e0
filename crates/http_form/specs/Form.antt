-- A form of one part, by RFC 7578: two dashes and the boundary, header lines, an empty line, the data, and the
-- delimiter: a line end, two dashes and the boundary, behind which stand two dashes and any bytes.
use Rattle.std.specs.Prelude.{◌≡◌, ℕ, ◌+◌, nat_le, List, ◌++◌, length, take, drop, Option, None, Some, Result, Ok, Err, option_map, codes, if◌then◌else◌, ⊤}
use Rattle.std.specs.Option.{option_and_then}
use Rattle.http_bodies.specs.declared.fault.BodyFault.{BodyFault}
use Rattle.http_bodies.specs.declared.fault.BodyFault.TheVariants.{ReadFault, Cut, BadChunk, TooLong, BadForm, Memory}
use Rattle.http_form.specs.declared.part.Part.{Part}
use Rattle.http_form.specs.Search.{place_in, stripped}
use Rattle.http_form.specs.Boundary.{fits}
use Rattle.http_form.specs.Field.{filename_of, mime_of}

-- The header lines of a part, with the line end before them, and its data.
pub record Laid : Type 0 where
  pub lines : List ℕ
  pub body : List ℕ

-- What a form begins with.
abbrev pub opening_of : List ℕ → List ℕ
opening_of boundary = codes "--" ++ boundary

-- What stands behind its data.
abbrev pub delimiter_of : List ℕ → List ℕ
delimiter_of boundary = codes "\r\n--" ++ boundary

-- The header lines have at most 16,384 bytes. They begin behind a line end, and the empty line stands behind theirs.
abbrev pub end_at : ℕ → Option ℕ
end_at place = if nat_le place 16384 then Some (place + 2) else None

-- Where the header lines end in what stands behind the opening: at its first empty line.
abbrev pub lines_end : List ℕ → Option ℕ
lines_end front = option_and_then (λ _. option_and_then end_at (place_in (codes "\r\n\r\n") front)) (stripped (codes "\r\n") front)

-- The data: what stands before the first delimiter, where two dashes stand behind it.
abbrev pub data_of : List ℕ → List ℕ → Option (List ℕ)
data_of delimiter bytes =
    option_and_then
    (λ place. option_map (λ _. take place bytes) (stripped (codes "--") (drop (place + length delimiter) bytes)))
    (place_in delimiter bytes)

-- The parts behind the opening, where the header lines end there.
abbrev pub laid_at : List ℕ → List ℕ → ℕ → Option Laid
laid_at delimiter front end = option_map (λ body. record { lines = take end front; body = body }) (data_of delimiter (drop (end + 2) front))

-- The parts of a form that opens so and has this delimiter.
abbrev pub laid_out : List ℕ → List ℕ → List ℕ → Option Laid
laid_out opening delimiter bytes =
    option_and_then (λ front. option_and_then (laid_at delimiter front) (lines_end front)) (stripped opening bytes)

-- The part of a form that is laid out so, where its lines name a file.
abbrev pub part_of : Laid → Option Part
part_of laid = option_map (λ name. record { filename = name; content_type = mime_of laid.lines; body = laid.body }) (filename_of laid.lines)

-- The part of the form that the bytes are.
abbrev pub form_of : List ℕ → List ℕ → Option Part
form_of boundary bytes =
    if fits boundary then option_and_then part_of (laid_out (opening_of boundary) (delimiter_of boundary) bytes) else None

-- The part was read, or there is none, or memory was wanting.
abbrev pub Gives : Option Part → Result Part BodyFault → Type 0
Gives found (Ok part) = found ≡ Some part
Gives found (Err ReadFault) = ⊥
Gives found (Err Cut) = ⊥
Gives found (Err BadChunk) = ⊥
Gives found (Err TooLong) = ⊥
Gives found (Err BadForm) = found ≡ None
Gives found (Err Memory) = ⊤
