-- A session: the requests of an input, each answered over the log that the ones before it left.
use Rattle.std.specs.Prelude.{◌≡◌, ◌≢◌, ℕ, ◌^◌, ◌<◌, ◌⊎◌, ⊤, Bool, true, false, List, [], ◌∷◌, ◌++◌, length, take, Option, Some, IsSomeAnd, codes}
use Rattle.weed_base.specs.Files.{Files}
use Rattle.weed_base.specs.Moments.{first_moment, later_moments}
use Rattle.name_core.specs.declared.change.Record.{Record}
use Rattle.meta_log.specs.Kept.{IsRecordLog}
use Rattle.weed_command.specs.Request.{IsRequest}
use Rattle.weed_command.specs.Inbox.{left_of, IsNoRequest}
use Rattle.weed_command.specs.Reply.{Answering, IsReply, moments_after}
use Rattle.weed_command.specs.Answer.{refused_text}
use Rattle.weed_command.specs.declared.answer.Status.TheVariants.{InternalServerError, NotImplemented, ServiceUnavailable}
use Rattle.weed_command.specs.declared.exit.Exit.{Exit}
use Rattle.weed_command.specs.declared.exit.Exit.TheVariants as exit

-- What is told of a session between two requests: the input left, the bytes sent, the log, and the moments
-- that the clock is going to give.
pub record State : Type 0 where
  pub left : List ℕ
  pub sent : List ℕ
  pub log : List Record
  pub moments : List ℕ

-- How many requests a session answers at most.
abbrev pub most_turns : ℕ
most_turns = 2 ^ 40

-- The answer 503, for want of memory; the session goes on.
abbrev pub memory_answer : List ℕ
memory_answer = refused_text ServiceUnavailable (codes "Memory") false

-- The answer 500, for a fault of the disk; it closes.
abbrev pub disk_answer : List ℕ
disk_answer = refused_text InternalServerError (codes "DiskFault") true

-- The answer 501, for what is no request; it closes.
abbrev pub not_yet_answer : List ℕ
not_yet_answer = refused_text NotImplemented (codes "NotYet") true

-- A request for the target stands in front of the input, and this rest behind it.
pub record Requests (left target rest : List ℕ) : Type 0 where
  pub text : List ℕ
  pub request : IsRequest text target
  pub stands : left ≡ text ++ rest

-- A request is answered by its reply: with what is then left, the log and the moments.
pub record Replies (old : State) (rest answer : List ℕ) (closes : Bool) (log : List Record) (moments : List ℕ) : Type 0 where
  pub target : List ℕ
  pub says : Answering
  pub asked : Requests old.left target rest
  pub reply : IsReply old.log (first_moment old.moments) target says
  pub answer_is : answer ≡ says.answer
  pub closes_is : closes ≡ says.closes
  pub log_is : log ≡ old.log ++ says.added
  pub moments_are : moments ≡ moments_after says old.moments

-- A request is answered 503 for want of memory: nothing is changed, but a moment may be gone.
pub record Lacks (old : State) (rest answer : List ℕ) (closes : Bool) (log : List Record) (moments : List ℕ) : Type 0 where
  pub target : List ℕ
  pub asked : Requests old.left target rest
  pub answer_is : answer ≡ memory_answer
  pub closes_is : closes ≡ false
  pub log_is : log ≡ old.log
  pub moments_are : (moments ≡ old.moments) ⊎ (moments ≡ later_moments old.moments)

-- What is no request is answered 501, which closes.
pub record Refuses (old : State) (rest answer : List ℕ) (closes : Bool) (log : List Record) (moments : List ℕ) : Type 0 where
  pub asked : IsNoRequest old.left
  pub rest_is : rest ≡ old.left
  pub answer_is : answer ≡ not_yet_answer
  pub closes_is : closes ≡ true
  pub log_is : log ≡ old.log
  pub moments_are : moments ≡ old.moments

-- What stands in front of the input is answered so.
abbrev pub Answers : State → List ℕ → List ℕ → Bool → List Record → List ℕ → Type 0
Answers old rest answer closes log moments =
    Replies old rest answer closes log moments ⊎ Lacks old rest answer closes log moments ⊎ Refuses old rest answer closes log moments

-- One request, whose answer was sent whole, and after which the session goes on.
abbrev pub Turn : State → State → Type 0
Turn old new = (answer : List ℕ) × Answers old new.left answer false new.log new.moments × (new.sent ≡ old.sent ++ answer)

-- Each step, from a state to the first of a list and from there to the next, is so.
abbrev pub Steps : (State → State → Type 0) → State → List State → Type 0
Steps Step old [] = ⊤
Steps Step old (new ∷ later) = Step old new × Steps Step new later

-- Requests, each over what the ones before it left, with the state behind each of them.
abbrev pub Turns : State → List State → Type 0
Turns first path = Steps Turn first path

-- The last state of a path, the first one where it is empty.
abbrev pub last_of : State → List State → State
last_of first [] = first
last_of first (next ∷ later) = last_of next later

-- Nothing more was taken, sent, appended or asked for.
pub record Rests (old last : State) : Type 0 where
  pub left : last.left ≡ old.left
  pub sent : last.sent ≡ old.sent
  pub log : last.log ≡ old.log
  pub moments : last.moments ≡ old.moments

-- Behind these bytes an answer was sent whole, or less than the whole where a send failed.
abbrev pub SendsUnlessCut : (Cut : Type 0) → List ℕ → List ℕ → List ℕ → Type 0
SendsUnlessCut Cut before answer sent = (sent ≡ before ++ answer) ⊎ (Cut × (count : ℕ) × (sent ≡ before ++ take count answer) × (count < length answer))

-- How a session ends behind a request that was answered whole, or at its start, where `Cut` says that a send failed:
abbrev pub EndsAfter : (Cut : Type 0) → Exit → State → State → Type 0
-- At the end of the input, or with an answer that closes.
EndsAfter Cut exit.Done old last =
    ((old.left ≡ []) × Rests old last)
    ⊎ ((answer : List ℕ) × Answers old last.left answer true last.log last.moments × (last.sent ≡ old.sent ++ answer))
-- Before the next request was read.
EndsAfter Cut exit.ReadFault old last = Rests old last
-- With a front of the answer that was due, less than the whole.
EndsAfter Cut exit.WriteFault old last =
    (answer : List ℕ) × (closes : Bool) × (count : ℕ) × Answers old last.left answer closes last.log last.moments
    × (last.sent ≡ old.sent ++ take count answer) × (count < length answer)
-- With the answer 500, and with the records of the request that met the fault in the log or not. It adds some.
EndsAfter Cut exit.DiskFault old last =
    (target : List ℕ) × (says : Answering) × Requests old.left target last.left
    × IsReply old.log (first_moment old.moments) target says × (says.added ≢ []) × SendsUnlessCut Cut old.sent disk_answer last.sent
    × ((last.log ≡ old.log) ⊎ (last.log ≡ old.log ++ says.added)) × (last.moments ≡ moments_after says old.moments)
EndsAfter Cut (exit.BadWords place) old last = ⊥
EndsAfter Cut (exit.Damaged file at) old last = ⊥
EndsAfter Cut exit.Memory old last = ⊥
EndsAfter Cut exit.TurnsSpent old last = ⊥

-- The log that the last request of a session led to, or was to lead to where it met a fault of the disk.
abbrev pub LeadsTo : Exit → State → State → List Record → Type 0
LeadsTo exit.DiskFault old last log =
    (target : List ℕ) × (says : Answering) × Requests old.left target last.left × IsReply old.log (first_moment old.moments) target says
    × (log ≡ old.log ++ says.added)
LeadsTo end old last log = log ≡ last.log

-- A source is told, and has this left behind what was read ahead of its use.
abbrev pub HasLeft : Option (List ℕ) → List ℕ → Type 0
HasLeft told left = (ahead : List ℕ) × (left_of ahead told ≡ Some left)

-- The outside is told, and has this of a state: what is left of the input, what was sent, the log, and the moments.
pub record Stands (left sent : Option (List ℕ)) (files : Option Files) (moments : Option (List ℕ)) (state : State) : Type 0 where
  pub left_is : HasLeft left state.left
  pub sent_is : sent ≡ Some state.sent
  pub log_is : IsSomeAnd files (λ told. IsRecordLog told state.log)
  pub moments_are : moments ≡ Some state.moments
