-- What stands at the front of some bytes: a head of a request, or why there is none.
use Rattle.std.specs.Prelude.{◌≡◌, ℕ, ◌⊎◌, List, length, drop, map, Option, None, Some, option_copied, Result, Ok, Err}
use Rattle.httparse.specs.Grammar.{RequestHead, ReadsRequest, print_request, HasNoRequest, NeverHasRequest, MayBecomeRequest}
use Rattle.httparse.specs.Spans.{RequestExceeds}
use Rattle.httparse.specs.declared.borrowed.Request.{Request}
use Rattle.httparse.specs.Borrowed.{header_parts}
use Rattle.http_head.specs.Request.{Parts, parts_of, judged}
use Rattle.http_head.specs.declared.front.Front.{Front}
use Rattle.http_head.specs.declared.front.Front.TheVariants.{Whole, Open, Never}
use Rattle.http_head.specs.declared.head.Head.{Head}
use Rattle.http_head.specs.declared.fault.HeadFault.{HeadFault}
use Rattle.http_head.specs.declared.fault.HeadFault.TheVariants.{Memory}

-- The first `count` bytes are a head that is judged so.
pub record HasHead (bytes : List ℕ) (count : ℕ) (verdict : Result Head HeadFault) : Type 0 where
  pub head : RequestHead
  pub reads : ReadsRequest bytes head (drop count bytes)
  pub counted : count ≡ length (print_request head)
  pub judged_so : judged (parts_of head) ≡ verdict

-- The parser holds a head of these parts.
pub record HoldsParts (request : Request) (parts : Parts) : Type 0 where
  pub method : option_copied request.method ≡ Some parts.method
  pub target : option_copied request.path ≡ Some parts.target
  pub version : request.version ≡ Some parts.minor
  pub lines : map header_parts request.headers.now ≡ parts.lines

-- A head of these parts, of so many bytes, is taken as it is judged, or memory was wanting.
abbrev pub TakesParts : ℕ → Parts → Result (Option Front) HeadFault → Type 0
TakesParts count parts (Ok (Some (Whole head taken))) = (taken ≡ count) × (judged parts ≡ Ok head)
TakesParts count parts (Ok (Some Open)) = ⊥
TakesParts count parts (Ok (Some Never)) = ⊥
TakesParts count parts (Ok None) = ⊥
TakesParts count parts (Err fault) = (judged parts ≡ Err fault) ⊎ (fault ≡ Memory)

-- The answer is what stands in front, or memory was wanting.
abbrev pub ReadsFront : List ℕ → Result Front HeadFault → Type 0
ReadsFront bytes (Ok (Whole head count)) = HasHead bytes count (Ok head)
ReadsFront bytes (Ok Open) = HasNoRequest bytes × MayBecomeRequest bytes
ReadsFront bytes (Ok Never) = NeverHasRequest bytes
ReadsFront bytes (Err fault) = ((count : ℕ) × HasHead bytes count (Err fault)) ⊎ (fault ≡ Memory)

-- The same where there is room for so many lines.
abbrev pub ReadsInRoom : List ℕ → ℕ → Result (Option Front) HeadFault → Type 0
ReadsInRoom bytes room (Ok (Some front)) = ReadsFront bytes (Ok front)
ReadsInRoom bytes room (Ok None) = RequestExceeds room bytes
ReadsInRoom bytes room (Err fault) = ReadsFront bytes (Err fault)
