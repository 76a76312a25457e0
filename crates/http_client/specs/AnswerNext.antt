-- The head of the answer in front of some bytes, or how they are refused.
use Rattle.std.specs.Prelude.{◌≡◌, ◌≢◌, ℕ, ◌<◌, ◌≤◌, ◌⊎◌, List, [], ◌++◌, length, take, Option, None, Some, IfSome, Result, Ok, Err, ⊤}
use Rattle.weed_base.specs.Told.{Consumes}
use Rattle.httparse.specs.Grammar.{ResponseHead, ReadsResponse, HasNoResponse, NeverHasResponse, MayBecomeResponse}
use Rattle.http_head.specs.declared.fault.HeadFault.{HeadFault}
use Rattle.http_head.specs.declared.fault.HeadFault.TheVariants.{ReadFault, Bad, HeadTooLong, BadMethod, BadCoding, TooLong, Memory}
use Rattle.http_client.specs.AnswerHead.{parts_of, judged}
use Rattle.http_client.specs.declared.judge.AnswerHead.{AnswerHead}

-- The text is the head of an answer, of at most 16,384 bytes, that is judged so.
pub record IsHead (text : List ℕ) (verdict : Result AnswerHead HeadFault) : Type 0 where
  pub head : ResponseHead
  pub reads : ReadsResponse text head []
  pub judged_so : judged (parts_of head) ≡ verdict
  pub short : length text ≤ 16384

-- A head that is judged so stands in front.
abbrev pub BeginsWithHead : List ℕ → Result AnswerHead HeadFault → Type 0
BeginsWithHead bytes verdict = (text : List ℕ) × (rest : List ℕ) × IsHead text verdict × (bytes ≡ text ++ rest)

-- No head stands in front: none can, whatever follows the first 16,384 bytes, or the bytes end before one does.
abbrev pub IsNoHead : List ℕ → Type 0
IsNoHead bytes = NeverHasResponse (take 16384 bytes) ⊎ ((length bytes ≤ 16384) × HasNoResponse bytes)

-- The first 16,384 bytes are no head yet, and more follow.
abbrev pub IsTooLong : List ℕ → Type 0
IsTooLong bytes = (16384 < length bytes) × HasNoResponse (take 16384 bytes) × MayBecomeResponse (take 16384 bytes)

-- The bytes are refused so: by the checks of the head in front, or since there is none. Of a failed read, and of
-- want of memory, they say nothing.
abbrev pub IsRefused : HeadFault → List ℕ → Type 0
IsRefused ReadFault bytes = ⊤
IsRefused Bad bytes = BeginsWithHead bytes (Err Bad) ⊎ IsNoHead bytes
IsRefused HeadTooLong bytes = BeginsWithHead bytes (Err HeadTooLong) ⊎ IsTooLong bytes
IsRefused BadMethod bytes = ⊥
IsRefused BadCoding bytes = BeginsWithHead bytes (Err BadCoding)
IsRefused TooLong bytes = ⊥
IsRefused Memory bytes = ⊤

-- What an inbox alone tells of the head in front of its bytes, which is taken. Of what it refuses no byte is taken.
abbrev pub TakesFront : Result (Option AnswerHead) HeadFault → List ℕ → List ℕ → Type 0
TakesFront (Ok (Some head)) old new = (text : List ℕ) × IsHead text (Ok head) × (old ≡ text ++ new)
TakesFront (Ok None) old new = (length old ≤ 16384) × HasNoResponse old × (new ≡ old)
TakesFront (Err fault) old new = (fault ≢ ReadFault) × ((left : List ℕ) → IsRefused fault (old ++ left)) × (new ≡ old)

-- The head in front of the bytes left was taken, or they are refused, and all are left.
abbrev pub FindsHead : Result AnswerHead HeadFault → Option (List ℕ) → Option (List ℕ) → Type 0
FindsHead (Ok head) old new = (text : List ℕ) × IsHead text (Ok head) × Consumes old new text
FindsHead (Err fault) old new = IfSome old (IsRefused fault) × (new ≡ old)
