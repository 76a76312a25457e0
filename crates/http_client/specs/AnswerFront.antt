-- What stands at the front of some bytes that may be an answer.
use Rattle.std.specs.Prelude.{◌≡◌, ℕ, ◌⊎◌, List, length, drop, map, Option, Some, None, Result, Ok, Err}
use Rattle.httparse.specs.Grammar.{ResponseHead, ReadsResponse, print_response, HasNoResponse, NeverHasResponse, MayBecomeResponse}
use Rattle.httparse.specs.Spans.{ResponseExceeds}
use Rattle.httparse.specs.declared.borrowed.Response.{Response}
use Rattle.httparse.specs.Borrowed.{header_parts}
use Rattle.http_head.specs.declared.fault.HeadFault.{HeadFault}
use Rattle.http_head.specs.declared.fault.HeadFault.TheVariants.{Memory}
use Rattle.http_client.specs.AnswerHead.{Parts, parts_of, judged}
use Rattle.http_client.specs.declared.judge.AnswerHead.{AnswerHead}
use Rattle.http_client.specs.declared.front.AnswerFront.{AnswerFront}
use Rattle.http_client.specs.declared.front.AnswerFront.TheVariants.{Whole, Open, Never}

-- The first `count` bytes are a head that is judged so.
pub record HasHead (bytes : List ℕ) (count : ℕ) (verdict : Result AnswerHead HeadFault) : Type 0 where
  pub head : ResponseHead
  pub reads : ReadsResponse bytes head (drop count bytes)
  pub counted : count ≡ length (print_response head)
  pub judged_so : judged (parts_of head) ≡ verdict

-- The parser holds a head of these parts.
pub record HoldsParts (response : Response) (parts : Parts) : Type 0 where
  pub status : response.code ≡ Some parts.status
  pub version : response.version ≡ Some parts.minor
  pub lines : map header_parts response.headers.now ≡ parts.lines

-- A head of these parts, of so many bytes, is taken as it is judged, or memory was wanting.
abbrev pub TakesParts : ℕ → Parts → Result (Option AnswerFront) HeadFault → Type 0
TakesParts count parts (Ok (Some (Whole head taken))) = (taken ≡ count) × (judged parts ≡ Ok head)
TakesParts count parts (Ok (Some Open)) = ⊥
TakesParts count parts (Ok (Some Never)) = ⊥
TakesParts count parts (Ok None) = ⊥
TakesParts count parts (Err fault) = (judged parts ≡ Err fault) ⊎ (fault ≡ Memory)

-- The answer is what stands in front, or memory was wanting.
abbrev pub ReadsFront : List ℕ → Result AnswerFront HeadFault → Type 0
ReadsFront bytes (Ok (Whole head count)) = HasHead bytes count (Ok head)
ReadsFront bytes (Ok Open) = HasNoResponse bytes × MayBecomeResponse bytes
ReadsFront bytes (Ok Never) = NeverHasResponse bytes
ReadsFront bytes (Err fault) = ((count : ℕ) × HasHead bytes count (Err fault)) ⊎ (fault ≡ Memory)

-- The same where there is room for so many lines.
abbrev pub ReadsInRoom : List ℕ → ℕ → Result (Option AnswerFront) HeadFault → Type 0
ReadsInRoom bytes room (Ok (Some front)) = ReadsFront bytes (Ok front)
ReadsInRoom bytes room (Ok None) = ResponseExceeds room bytes
ReadsInRoom bytes room (Err fault) = ReadsFront bytes (Err fault)
