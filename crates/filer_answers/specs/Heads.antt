-- The head of a file's answer, behind which its bytes are sent, and the head before the records of a subscription.
use Rattle.std.specs.Prelude.{ℕ, ◌-◌, ◌==◌, Bool, true, false, if◌then◌else◌, List, [], ◌∷◌, ◌++◌, length, Option, None, Some, codes, decimal}
use Rattle.hex.specs.Hex.{encode_lower}
use Rattle.entry.specs.declared.entry.Attributes.{Attributes}
use Rattle.entry.specs.declared.entry.Entry.{Entry}
use Rattle.entry.specs.Entry.{file_length}
use Rattle.http_wire.specs.declared.answer.Answer.{Answer}
use Rattle.filer_answers.specs.Lines.{Line, type_line, length_line, range_line}
use Rattle.filer_answers.specs.declared.part.Part.{Part}
use Rattle.filer_answers.specs.declared.part.Part.TheVariants.{Whole, Between}

-- The media type that is told of a file.
abbrev pub shown_mime : List ℕ → List ℕ
shown_mime mime = if length mime == 0 then codes "application/octet-stream" else mime

-- The line of the digest, where there is one: in lower-case hexadecimal between double quotes.
abbrev pub etag_lines : Option (List ℕ) → List Line
etag_lines None = []
etag_lines (Some md5) = (codes "ETag", codes "\"" ++ (encode_lower md5 ++ codes "\"")) ∷ []

-- The lines that are told of a file whatever part of it is sent.
abbrev pub contents_lines : Attributes → List Line
contents_lines attributes =
    type_line (shown_mime attributes.mime) ∷ (etag_lines attributes.md5 ++ (codes "Accept-Ranges", codes "bytes") ∷ [])

-- 200 for all of the file, and 206 for a part.
abbrev pub part_status : Part → ℕ
part_status Whole = 200
part_status (Between from to) = 206

-- The first and the last place of a part, and the length of its file.
abbrev pub range_text : ℕ → ℕ → ℕ → List ℕ
range_text from to length = codes "bytes " ++ (decimal from ++ (codes "-" ++ (decimal (to - 1) ++ (codes "/" ++ decimal length))))

-- The lines of a part of a file of that length.
abbrev pub part_lines : Part → ℕ → List Line
part_lines Whole length = length_line length ∷ []
part_lines (Between from to) length = range_line (range_text from to length) ∷ length_line (to - from) ∷ []

-- A file: the head alone.
abbrev pub file_head : Entry → Part → Bool → Answer
file_head entry part close = record {
  status = part_status part;
  headers = contents_lines entry.attributes ++ part_lines part (file_length entry);
  body = [];
  close = close;
  bare = true;
}

-- A subscription: 200, of a body that goes on to the connection's end.
abbrev pub subscription_head : Answer
subscription_head = record {
  status = 200;
  headers = type_line (codes "application/octet-stream") ∷ [];
  body = [];
  close = true;
  bare = true;
}
