-- The head of a request, and what it is taken as.
use Rattle.std.specs.Prelude.{◌≡◌, ℕ, ◌⊎◌, Bool, ◌||◌, ◌==◌, not, nat_lt, List, [], length, map, Option, None, Some, Result, Ok, Err, if◌then◌else◌, codes, unwrap_or}
use Rattle.std.specs.Str.{bytes_eq}
use Rattle.httparse.specs.Grammar.{RequestHead}
use Rattle.httparse.specs.Spans.{name_and_value}
use Rattle.http_head.specs.Words.{is_word, has_word}
use Rattle.http_head.specs.Lines.{Line, has_line, first_value}
use Rattle.http_head.specs.Target.{is_well_escaped, path_of, query_of}
use Rattle.http_head.specs.Range.{wish_of}
use Rattle.http_head.specs.Body.{has_other_coding, body_of}
use Rattle.http_head.specs.declared.body.BodyKind.{BodyKind}
use Rattle.http_head.specs.declared.head.Method.{Method}
use Rattle.http_head.specs.declared.head.Method.TheVariants.{Get, Head as HeadMethod, Put, Post, Delete}
use Rattle.http_head.specs.declared.head.Head.{Head}
use Rattle.http_head.specs.declared.judge.Checked.{Checked}
use Rattle.http_head.specs.declared.fault.HeadFault.{HeadFault}
use Rattle.http_head.specs.declared.fault.HeadFault.TheVariants.{Bad, HeadTooLong, BadMethod, BadCoding, Memory}

-- The parts of a head that its checks read.
pub record Parts : Type 0 where
  pub method : List ℕ
  pub target : List ℕ
  pub minor : ℕ
  pub lines : List Line

-- Those of a head of the grammar.
abbrev pub parts_of : RequestHead → Parts
parts_of head = record { method = head.method; target = head.target; minor = head.minor; lines = map name_and_value head.fields }

-- The five methods that are served.
abbrev pub method_of : List ℕ → Option Method
method_of text =
    if bytes_eq text (codes "GET") then Some Get
    else if bytes_eq text (codes "HEAD") then Some HeadMethod
    else if bytes_eq text (codes "PUT") then Some Put
    else if bytes_eq text (codes "POST") then Some Post
    else if bytes_eq text (codes "DELETE") then Some Delete
    else None

-- A coding of the content other than `identity`.
abbrev pub is_encoded : List Line → Bool
is_encoded lines = has_line (codes "content-encoding") (λ value. not (is_word value (codes "identity"))) lines

-- Some line says that the connection closes.
abbrev pub says_close : List Line → Bool
says_close lines = has_line (codes "connection") (λ value. has_word value (codes "close")) lines

-- Some line waits for an answer 100 before the body.
abbrev pub expects : List Line → Bool
expects lines = has_line (codes "expect") (λ value. is_word value (codes "100-continue")) lines

-- What a head of that method and body is taken as.
abbrev pub head_of : Method → BodyKind → Parts → Head
head_of method body parts = record {
  method = method;
  path = path_of parts.target;
  query = query_of parts.target;
  body = body;
  content_type = unwrap_or (first_value (codes "content-type") parts.lines) [];
  encoded = is_encoded parts.lines;
  range = wish_of (first_value (codes "range") parts.lines);
  close = (parts.minor == 0) || says_close parts.lines;
  expect = expects parts.lines;
}

-- The lengths are checked last.
abbrev pub checked_body : Option BodyKind → Method → Result Checked HeadFault
checked_body (Some body) method = Ok (record { method = method; body = body })
checked_body None method = Err Bad

-- The transfer coding is checked behind the method.
abbrev pub checked_method : Option Method → List Line → Result Checked HeadFault
checked_method (Some method) lines = if has_other_coding lines then Err BadCoding else checked_body (body_of lines) method
checked_method None lines = Err BadMethod

-- The method and the body of a whole head, or the first check that it fails: its escapes, the number of its
-- lines, its method, its transfer coding, its lengths.
abbrev pub checked : Parts → Result Checked HeadFault
checked parts =
    if not (is_well_escaped parts.target) then Err Bad
    else if nat_lt 64 (length parts.lines) then Err HeadTooLong
    else checked_method (method_of parts.method) parts.lines

-- A head that passed its checks.
abbrev pub taken : Result Checked HeadFault → Parts → Result Head HeadFault
taken (Ok found) parts = Ok (head_of found.method found.body parts)
taken (Err fault) parts = Err fault

-- What a whole head of these parts is taken as, or refused with.
abbrev pub judged : Parts → Result Head HeadFault
judged parts = taken (checked parts) parts

-- The answer is that one, or memory was wanting.
abbrev pub IsJudged : Parts → Result Head HeadFault → Type 0
IsJudged parts result = (result ≡ judged parts) ⊎ (result ≡ Err Memory)
