-- The head of an answer, and what it is taken as.
use Rattle.std.specs.Prelude.{◌≡◌, ℕ, ◌⊎◌, ◌||◌, ◌==◌, not, nat_lt, List, length, map, filter, Option, None, Some, Result, Ok, Err, if◌then◌else◌, codes}
use Rattle.httparse.specs.Grammar.{ResponseHead, status_code}
use Rattle.httparse.specs.Spans.{name_and_value}
use Rattle.http_head.specs.Lines.{Line, is_named}
use Rattle.http_head.specs.Body.{has_other_coding, body_of}
use Rattle.http_head.specs.Request.{says_close}
use Rattle.http_head.specs.declared.body.BodyKind.{BodyKind}
use Rattle.http_head.specs.declared.body.BodyKind.TheVariants.{Length}
use Rattle.http_head.specs.declared.fault.HeadFault.{HeadFault}
use Rattle.http_head.specs.declared.fault.HeadFault.TheVariants.{Bad, HeadTooLong, BadCoding, Memory}
use Rattle.http_client.specs.declared.judge.AnswerHead.{AnswerHead}

-- The parts of a head that are read.
pub record Parts : Type 0 where
  pub status : ℕ
  pub minor : ℕ
  pub lines : List Line

-- Those of a head of the grammar.
abbrev pub parts_of : ResponseHead → Parts
parts_of head = record { status = status_code head; minor = head.minor; lines = map name_and_value head.fields }

-- An answer 204 has no body, whatever its lines say.
abbrev pub body_of_status : ℕ → BodyKind → BodyKind
body_of_status status stated = if status == 204 then Length 0 else stated

-- The lengths are checked last.
abbrev pub checked_body : ℕ → Option BodyKind → Result BodyKind HeadFault
checked_body status (Some stated) = Ok (body_of_status status stated)
checked_body status None = Err Bad

-- The body of an answer with this head, or the first check that it fails: the number of its lines, its transfer
-- coding, its lengths.
abbrev pub checked : Parts → Result BodyKind HeadFault
checked parts =
    if nat_lt 64 (length parts.lines) then Err HeadTooLong
    else if has_other_coding parts.lines then Err BadCoding
    else checked_body parts.status (body_of parts.lines)

-- The lines that are kept: all but those named `Connection`, which speak of the link.
abbrev pub kept : List Line → List Line
kept lines = filter (λ line. not (is_named (codes "connection") line)) lines

-- What a head with that body is taken as.
abbrev pub head_of : BodyKind → Parts → AnswerHead
head_of body parts = record {
  status = parts.status;
  headers = kept parts.lines;
  body = body;
  close = (parts.minor == 0) || says_close parts.lines;
}

-- A head that passed its checks.
abbrev pub taken : Result BodyKind HeadFault → Parts → Result AnswerHead HeadFault
taken (Ok body) parts = Ok (head_of body parts)
taken (Err fault) parts = Err fault

-- What a whole head of these parts is taken as, or refused with.
abbrev pub judged : Parts → Result AnswerHead HeadFault
judged parts = taken (checked parts) parts

-- The answer is that one, or memory was wanting.
abbrev pub IsJudged : Parts → Result AnswerHead HeadFault → Type 0
IsJudged parts result = (result ≡ judged parts) ⊎ (result ≡ Err Memory)
