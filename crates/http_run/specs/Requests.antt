-- The requests of a list of bytes.
use Rattle.std.specs.Prelude.{◌≡◌, ◌<◌, ◌⊎◌, ℕ, length, Bool, true, false, List, [], ◌∷◌, ◌++◌, Ok, Err}
use Rattle.http_head.specs.declared.head.Head.{Head}
use Rattle.http_head.specs.declared.fault.HeadFault.{HeadFault}
use Rattle.http_wire.specs.Next.{IsHead, IsNoHead, IsTooLong}
use Rattle.http_bodies.specs.declared.fault.BodyFault.{BodyFault}
use Rattle.http_bodies.specs.Stage.{begun}
use Rattle.http_bodies.specs.Body.{StandsFor, Whole, Refused}

-- What stands at the front of some bytes: a request with its body's data, no head, a head that its checks refuse, a
-- request that is answered before its body is read, or one whose body is refused behind some data.
pub data Outcome : Type 0 where
  Served : Head → List ℕ → Outcome
  NoHead : Outcome
  HeadRefused : HeadFault → Outcome
  Unread : Head → Outcome
  BodyRefused : Head → List ℕ → BodyFault → Outcome

-- A head that is judged good stands in front, with these bytes behind it.
abbrev pub HasHead : List ℕ → Head → List ℕ → Type 0
HasHead bytes head behind = (text : List ℕ) × IsHead text (Ok head) × (bytes ≡ text ++ behind)

-- One outcome of these bytes, with this rest behind it. `early` says of a head that it is answered before its body is
-- read. Behind what is refused no request comes.
abbrev pub IsOutcome : ℕ → (Head → Bool) → List ℕ → Outcome → List ℕ → Type 0
IsOutcome limit early bytes (Served head payload) rest =
    (behind : List ℕ) × HasHead bytes head behind × (early head ≡ false) × StandsFor (begun head.body limit) behind payload (Whole rest)
IsOutcome limit early bytes NoHead rest = (IsNoHead bytes ⊎ IsTooLong bytes) × (rest ≡ [])
IsOutcome limit early bytes (HeadRefused fault) rest = (text : List ℕ) × (behind : List ℕ) × IsHead text (Err fault) × (bytes ≡ text ++ behind) × (rest ≡ [])
IsOutcome limit early bytes (Unread head) rest = (behind : List ℕ) × HasHead bytes head behind × (early head ≡ true) × (rest ≡ [])
IsOutcome limit early bytes (BodyRefused head payload fault) rest =
    (behind : List ℕ) × HasHead bytes head behind × (early head ≡ false) × StandsFor (begun head.body limit) behind payload (Refused fault) × (rest ≡ [])

-- The requests of some bytes: up to the end, or to one whose answer closes.
pub data Requests (limit : ℕ) (early : Head → Bool) (closes : Outcome → Bool) : List ℕ → List Outcome → List ℕ → Type 0 where
  none_left : Requests limit early closes [] [] []
  last_one : (bytes : List ℕ) (outcome : Outcome) (rest : List ℕ) → 0 < length bytes → IsOutcome limit early bytes outcome rest → closes outcome ≡ true
      → Requests limit early closes bytes (outcome ∷ []) rest
  one_more : (bytes : List ℕ) (outcome : Outcome) (rest : List ℕ) (later : List Outcome) (end : List ℕ) → 0 < length bytes → IsOutcome limit early bytes outcome rest → closes outcome ≡ false
      → Requests limit early closes rest later end → Requests limit early closes bytes (outcome ∷ later) end
