-- How long the body of a message is, as its header lines say.
use Rattle.std.specs.Prelude.{ℕ, nat_lt, Bool, not, ◌||◌, ◌==◌, List, length, filter, Option, None, Some, if◌then◌else◌, codes, true, false}
use Rattle.http_head.specs.Words.{is_word, read_number}
use Rattle.http_head.specs.Lines.{Line, is_named, has_line, first_value}
use Rattle.http_head.specs.declared.body.BodyKind.{BodyKind}
use Rattle.http_head.specs.declared.body.BodyKind.TheVariants.{Missing, Length, Chunked}

-- `Transfer-Encoding`
abbrev pub coding_name : List ℕ
coding_name = codes "transfer-encoding"

-- `Content-Length`
abbrev pub length_name : List ℕ
length_name = codes "content-length"

-- Some line has that name.
abbrev pub has_name : List ℕ → List Line → Bool
has_name name lines = has_line name (λ _. true) lines

-- A transfer coding other than `chunked`.
abbrev pub has_foreign_coding : List Line → Bool
has_foreign_coding lines = has_line coding_name (λ value. not (is_word value (codes "chunked"))) lines

-- Several lines of transfer codings.
abbrev pub has_several_codings : List Line → Bool
has_several_codings lines = nat_lt 1 (length (filter (is_named coding_name) lines))

-- A transfer coding other than `chunked`, as several lines of them are.
abbrev pub has_other_coding : List Line → Bool
has_other_coding lines = has_foreign_coding lines || has_several_codings lines

-- The value is that number.
abbrev pub is_that : ℕ → Option ℕ → Bool
is_that count (Some stated) = stated == count
is_that count None = false

-- Some line states another length, or none.
abbrev pub has_other_length : ℕ → List Line → Bool
has_other_length count lines = has_line length_name (λ value. not (is_that count (read_number value))) lines

-- The length, where each line states this one.
abbrev pub agreed : ℕ → List Line → Option BodyKind
agreed count lines = if has_other_length count lines then None else Some (Length count)

-- The same, where the first line states it.
abbrev pub stated : Option ℕ → List Line → Option BodyKind
stated (Some count) lines = agreed count lines
stated None lines = None

-- The body by its length. None where a length is no number, or two differ.
abbrev pub body_by_length : Option (List ℕ) → List Line → Option BodyKind
body_by_length (Some value) lines = stated (read_number value) lines
body_by_length None lines = Some Missing

-- The body that the lines say, where their transfer coding is `chunked` or missing. None where they
-- contradict each other.
abbrev pub body_of : List Line → Option BodyKind
body_of lines =
    if has_name coding_name lines
    then (if has_name length_name lines then None else Some Chunked)
    else body_by_length (first_value length_name lines) lines
