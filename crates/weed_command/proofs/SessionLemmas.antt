-- What a turn of a session leads to.
use Rattle.std.proofs.Common.{◌≡◌, ◌⊎◌, ℕ, Bool, true, false, List, [], ◌++◌, take, Option, Some, None, Result, Ok, Err, refl, sym, ap, ◌∙◌, subst, inl, inr}
use Rattle.std.specs.Prelude.{IfSome, IsSomeAnd, OnErr}
use Rattle.std.specs.Option.{option_map}
use Rattle.weed_base.specs.Told.{Consumes, IsAtEnd, Appends}
use Rattle.weed_base.specs.Files.{Files}
use Rattle.weed_base.specs.Moments.{later_moments}
use Rattle.name_core.specs.declared.change.Record.{Record}
use Rattle.meta_log.specs.declared.meta_log.MetaLog.{MetaLog}
use Rattle.meta_log.specs.declared.stem.Stem.{Stem}
use Rattle.meta_log.specs.LogText.{IsAllowed, HasSegment}
use Rattle.meta_log.specs.Kept.{HoldsRecords, IsRecordLog}
use Rattle.weed_command.specs.Inbox.{left_of, IsNoRequest, FindsHead}
use Rattle.weed_command.specs.Written.{WritesAll}
use Rattle.weed_command.specs.declared.inbox.Head.{Head}
use Rattle.weed_command.specs.declared.inbox.Head.TheVariants.{End, Request, NotYet}
use Rattle.weed_command.specs.Filer.{IsFiled, TellsFiler, TellsEither}
use Rattle.weed_command.specs.Reply.{moments_after}
use Rattle.weed_command.specs.Replied.{Gives}
use Rattle.weed_command.specs.Session.{State, Requests, Answers, SendsUnlessCut, Rests, Stands, HasLeft, memory_answer, disk_answer, not_yet_answer}
use Rattle.weed_command.specs.Tells.{Tells, Asking, Sends, Leads}
use Rattle.weed_command.specs.declared.exit.Exit.{Exit}
use Rattle.weed_command.specs.declared.exit.Exit.TheVariants as exit
use Rattle.weed_command.specs.declared.plain_filer.PlainFiler.{PlainFiler}
use Rattle.weed_command.specs.declared.reply.Reply.{Reply}
use Rattle.weed_command.specs.declared.reply.ReplyFault.{ReplyFault}
use Rattle.weed_command.specs.declared.reply.ReplyFault.TheVariants.{DiskFault, Memory}
use Rattle.weed_command.specs.declared.session.Session.{Session}
use Rattle.weed_command.specs.declared.session.Turned.{Turned}
use Rattle.weed_command.specs.declared.session.Turned.TheVariants.{Open, Ended}

-- A session that goes on hasn't ended.
pub open_is_no_end : (end : Exit) → ¬ (Open ≡ Ended end)
open_is_no_end end same = cc

-- A disk that holds a filer is a log of its records.
kept_is_log : (files : Files) (meta : MetaLog) (records : List Record) → HoldsRecords files meta records → IsRecordLog files records
kept_is_log files meta records kept = record {
  payloads = kept.payloads;
  text = inr (subst (λ (stem : Stem). HasSegment (IsAllowed stem) stem files kept.payloads) meta.is_log kept.held.segment);
  read = kept.read;
  times = kept.times;
}

filer_is_log : (told : Option Files) (filer : PlainFiler) (records : List Record) → TellsFiler told filer records → IsSomeAnd told (λ files. IsRecordLog files records)
filer_is_log None filer records tells = absurd tells
filer_is_log (Some files) filer records tells = kept_is_log files filer.log records tells.log

some_same : {A : Type 0} (a b : A) → Some a ≡ Some b → a ≡ b
some_same a b e = cc

-- What was taken from told bytes stood in front of them.
consumed_told : (old new : Option (List ℕ)) (bytes text : List ℕ) → old ≡ Some bytes → Consumes old new text → (rest : List ℕ) × (new ≡ Some rest) × (bytes ≡ text ++ rest)
consumed_told old None bytes text told took = let gone : Some bytes ≡ None = sym told ∙ took in cc
consumed_told old (Some rest) bytes text told took = (rest, refl, some_same bytes (text ++ rest) (sym told ∙ took))

appended_told : (old new : Option (List ℕ)) (bytes more : List ℕ) → old ≡ Some bytes → Appends old new more → new ≡ Some (bytes ++ more)
appended_told old new bytes more told grew = grew ∙ ap (option_map (λ written. written ++ more)) told

-- The answer of a state was sent, and the session goes on or ends so.
pub sent_leads : (Cut : Type 0) (old : State) (rest answer : List ℕ) (closes : Bool) (log : List Record) (moments : List ℕ) (Moves Tears : List Record → Type 0)
    (left sent sent' : Option (List ℕ)) (files : Option Files) (clock : Option (List ℕ)) (session : Session) (turned : Turned)
    → Answers old rest answer closes log moments
    → sent ≡ Some old.sent → Sends answer closes sent sent' turned
    → left_of session.inbox.pending left ≡ Some rest → TellsFiler files session.filer log → clock ≡ Some moments → Moves log
    → Leads Cut old Moves Tears left sent' files clock session turned
sent_leads Cut old rest answer closes log moments Moves Tears left sent sent' files clock session Open answers told sends left_is filer clock_is moves =
    let new : State = record { left = rest; sent = old.sent ++ answer; log = log; moments = moments } in (
      new,
      record { left_is = left_is; sent_is = appended_told sent sent' old.sent answer told sends.0; filer = filer; moments_are = clock_is },
      (answer, subst (λ b. Answers old rest answer b log moments) sends.1 answers, refl),
      moves,
    )
sent_leads Cut old rest answer closes log moments Moves Tears left sent sent' files clock session (Ended exit.Done) answers told sends left_is filer clock_is moves = (
  record { left = rest; sent = old.sent ++ answer; log = log; moments = moments },
  record { left_is = (session.inbox.pending, left_is); sent_is = appended_told sent sent' old.sent answer told sends.0; log_is = filer_is_log files session.filer log filer; moments_are = clock_is },
  inr (answer, subst (λ b. Answers old rest answer b log moments) sends.1 answers, refl),
  moves,
)
sent_leads Cut old rest answer closes log moments Moves Tears left sent sent' files clock session (Ended exit.WriteFault) answers told sends left_is filer clock_is moves = (
  record { left = rest; sent = old.sent ++ take sends.0 answer; log = log; moments = moments },
  record { left_is = (session.inbox.pending, left_is); sent_is = appended_told sent sent' old.sent (take sends.0 answer) told sends.1; log_is = filer_is_log files session.filer log filer; moments_are = clock_is },
  (answer, closes, sends.0, answers, refl, sends.2),
  moves,
)
sent_leads Cut old rest answer closes log moments Moves Tears left sent sent' files clock session (Ended exit.ReadFault) answers told sends left_is filer clock_is moves = absurd sends
sent_leads Cut old rest answer closes log moments Moves Tears left sent sent' files clock session (Ended exit.DiskFault) answers told sends left_is filer clock_is moves = absurd sends
sent_leads Cut old rest answer closes log moments Moves Tears left sent sent' files clock session (Ended (exit.BadWords place)) answers told sends left_is filer clock_is moves = absurd sends
sent_leads Cut old rest answer closes log moments Moves Tears left sent sent' files clock session (Ended (exit.Damaged file at)) answers told sends left_is filer clock_is moves = absurd sends
sent_leads Cut old rest answer closes log moments Moves Tears left sent sent' files clock session (Ended exit.Memory) answers told sends left_is filer clock_is moves = absurd sends
sent_leads Cut old rest answer closes log moments Moves Tears left sent sent' files clock session (Ended exit.TurnsSpent) answers told sends left_is filer clock_is moves = absurd sends

tells_some : (told : Option Files) (filer : PlainFiler) (records : List Record) → TellsFiler told filer records → (files : Files) × (told ≡ Some files) × IsFiled files filer records
tells_some None filer records tells = absurd tells
tells_some (Some files) filer records tells = (files, refl, tells)

-- What a reply to a target gave, over told files and moments
abbrev pub GivesTold : (List Record → List Record → Type 0) → (List Record → List Record → Type 0) → Option Files → Option (List ℕ) → PlainFiler → List ℕ → Option Files → Option (List ℕ) → PlainFiler → Result Reply ReplyFault → Type 0
GivesTold Moves Tears files clock filer target files' clock' filer' result =
    (told : Files) (moments : List ℕ) (records : List Record) → files ≡ Some told → clock ≡ Some moments → IsFiled told filer records
    → Gives records moments target (Moves records) (Tears records) files' clock' filer' result

gave : (Moves Tears : List Record → List Record → Type 0) (old : State) (target : List ℕ) (files files' : Option Files) (clock clock' : Option (List ℕ)) (filer filer' : PlainFiler) (result : Result Reply ReplyFault)
    → GivesTold Moves Tears files clock filer target files' clock' filer' result → TellsFiler files filer old.log → clock ≡ Some old.moments
    → Gives old.log old.moments target (Moves old.log) (Tears old.log) files' clock' filer' result
gave Moves Tears old target files files' clock clock' filer filer' result gives tells clock_is =
    let told = tells_some files filer old.log tells in
    gives told.0 old.moments old.log told.1 clock_is told.2

-- A request was answered by its reply.
pub replied_leads : (Cut : Type 0) (Moves Tears Sent Torn : List Record → List Record → Type 0) (old : State) (rest target : List ℕ) (left sent sent' sent'' : Option (List ℕ)) (files files' files'' : Option Files) (clock clock' : Option (List ℕ))
    (session session' : Session) (reply : Reply) (answer : List ℕ) (turned : Turned)
    → Requests old.left target rest
    → GivesTold Moves Tears files clock session.filer target files' clock' session'.filer (Ok reply)
    → ((before after : List Record) → Moves before after → Sent before after)
    → TellsFiler files session.filer old.log → clock ≡ Some old.moments
    → sent ≡ Some old.sent → sent' ≡ sent → files'' ≡ files' → answer ≡ reply.answer
    → Sends answer reply.closes sent' sent'' turned
    → left_of session'.inbox.pending left ≡ Some rest
    → Leads Cut old (Sent old.log) (Torn old.log) left sent'' files'' clock' session' turned
replied_leads Cut Moves Tears Sent Torn old rest target left sent sent' sent'' files files' files'' clock clock' session session' reply answer turned asked gives sending tells clock_is sent_is same_sent same_files answer_is sends left_is =
    let given = gave Moves Tears old target files files' clock clock' session.filer session'.filer (Ok reply) gives tells clock_is in
    let says = given.0 in
    sent_leads Cut old rest answer reply.closes (old.log ++ says.added) (moments_after says old.moments) (Sent old.log) (Torn old.log) left sent' sent'' files'' clock' session' turned
    (inl (record { target = target; says = says; asked = asked; reply = given.1; answer_is = answer_is ∙ given.2.answer; closes_is = given.2.closes; log_is = refl; moments_are = refl }))
    (same_sent ∙ sent_is) sends left_is (subst (λ o. TellsFiler o session'.filer (old.log ++ says.added)) (sym same_files) given.3) given.4
    (sending old.log (old.log ++ says.added) given.5)

-- A request was answered 503.
lacked_moments : (old : State) (clock : Option (List ℕ)) → ((clock ≡ Some old.moments) ⊎ (clock ≡ Some (later_moments old.moments)))
    → (moments : List ℕ) × (clock ≡ Some moments) × ((moments ≡ old.moments) ⊎ (moments ≡ later_moments old.moments))
lacked_moments old clock (inl same) = (old.moments, same, inl refl)
lacked_moments old clock (inr later) = (later_moments old.moments, later, inr refl)

pub lacked_leads : (Cut : Type 0) (Moves Tears Sent Torn : List Record → List Record → Type 0) (old : State) (rest target : List ℕ) (left sent sent' sent'' : Option (List ℕ)) (files files' files'' : Option Files) (clock clock' : Option (List ℕ))
    (session session' : Session) (answer : List ℕ) (turned : Turned)
    → Requests old.left target rest
    → GivesTold Moves Tears files clock session.filer target files' clock' session'.filer (Err Memory)
    → ((before after : List Record) → Moves before after → Sent before after)
    → TellsFiler files session.filer old.log → clock ≡ Some old.moments
    → sent ≡ Some old.sent → sent' ≡ sent → files'' ≡ files' → answer ≡ memory_answer
    → Sends answer false sent' sent'' turned
    → left_of session'.inbox.pending left ≡ Some rest
    → Leads Cut old (Sent old.log) (Torn old.log) left sent'' files'' clock' session' turned
lacked_leads Cut Moves Tears Sent Torn old rest target left sent sent' sent'' files files' files'' clock clock' session session' answer turned asked gives sending tells clock_is sent_is same_sent same_files answer_is sends left_is =
    let given = gave Moves Tears old target files files' clock clock' session.filer session'.filer (Err Memory) gives tells clock_is in
    let at = lacked_moments old clock' given.1 in
    sent_leads Cut old rest answer false old.log at.0 (Sent old.log) (Torn old.log) left sent' sent'' files'' clock' session' turned
    (inr (inl (record { target = target; asked = asked; answer_is = answer_is; closes_is = refl; log_is = refl; moments_are = at.2 })))
    (same_sent ∙ sent_is) sends left_is (subst (λ o. TellsFiler o session'.filer old.log) (sym same_files) given.0) at.1
    (sending old.log old.log given.2)

-- A request met a fault of the disk.
sent_of : {T E : Type 0} (Cut : Type 0) (old new : Option (List ℕ)) (before answer : List ℕ) (result : Result T E) → old ≡ Some before → WritesAll old new result answer → OnErr result Cut
    → (sent : List ℕ) × (new ≡ Some sent) × SendsUnlessCut Cut before answer sent
sent_of Cut old new before answer (Ok done) told writes cut = (before ++ answer, appended_told old new before answer told writes, inl refl)
sent_of Cut old new before answer (Err fault) told writes cut =
    (before ++ take writes.0 answer, appended_told old new before (take writes.0 answer) told writes.1, inr (cut, writes.0, refl, writes.2))

either_is_log : (told : Option Files) (records more : List Record) → TellsEither told records more
    → (log : List Record) × IsSomeAnd told (λ files. IsRecordLog files log) × ((log ≡ records) ⊎ (log ≡ records ++ more))
either_is_log None records more tells = absurd tells
either_is_log (Some files) records more (inl log) = (records, log, inl refl)
either_is_log (Some files) records more (inr log) = (records ++ more, log, inr refl)

pub faulted_leads : {T E : Type 0} (Cut : Type 0) (Moves Tears Sent Torn : List Record → List Record → Type 0) (old : State) (rest target : List ℕ) (left sent sent' sent'' : Option (List ℕ)) (files files' files'' : Option Files) (clock clock' : Option (List ℕ))
    (session session' : Session) (answer : List ℕ) (result : Result T E)
    → Requests old.left target rest
    → GivesTold Moves Tears files clock session.filer target files' clock' session'.filer (Err DiskFault)
    → ((before after : List Record) → Tears before after → Torn before after)
    → TellsFiler files session.filer old.log → clock ≡ Some old.moments
    → sent ≡ Some old.sent → sent' ≡ sent → files'' ≡ files' → answer ≡ disk_answer
    → WritesAll sent' sent'' result answer → OnErr result Cut
    → left_of session'.inbox.pending left ≡ Some rest
    → Leads Cut old (Sent old.log) (Torn old.log) left sent'' files'' clock' session' (Ended exit.DiskFault)
faulted_leads Cut Moves Tears Sent Torn old rest target left sent sent' sent'' files files' files'' clock clock' session session' answer result asked gives tearing tells clock_is sent_is same_sent same_files answer_is writes cut left_is =
    let given = gave Moves Tears old target files files' clock clock' session.filer session'.filer (Err DiskFault) gives tells clock_is in
    let says = given.0 in
    let sends = sent_of Cut sent' sent'' old.sent answer result (same_sent ∙ sent_is) writes cut in
    let log = either_is_log files' old.log says.added given.3 in (
      record { left = rest; sent = sends.0; log = log.0; moments = moments_after says old.moments },
      record { left_is = (session'.inbox.pending, left_is); sent_is = sends.1; log_is = subst (λ o. IsSomeAnd o (λ told. IsRecordLog told log.0)) (sym same_files) log.1; moments_are = given.4 },
      (target, says, asked, given.1, given.2, subst (λ bytes. SendsUnlessCut Cut old.sent bytes sends.0) answer_is sends.2, log.2, refl),
      (old.log ++ says.added, (target, says, asked, given.1, refl), tearing old.log (old.log ++ says.added) given.5),
    )

-- What was found in front of the input
pub asking_found : (old : State) (left left' sent : Option (List ℕ)) (files : Option Files) (clock : Option (List ℕ)) (session session' : Session) (head : Head)
    → Tells left sent files clock session old → head ≡ Request
    → FindsHead head (left_of session.inbox.pending left) (left_of session'.inbox.pending left') session'.inbox.target
    → session'.filer ≡ session.filer
    → (rest : List ℕ) × Asking old rest left' sent files clock session'
asking_found old left left' sent files clock session session' head tells is finds same =
    let found = subst (λ (h : Head). FindsHead h (left_of session.inbox.pending left) (left_of session'.inbox.pending left') session'.inbox.target) is finds in
    let took = consumed_told (left_of session.inbox.pending left) (left_of session'.inbox.pending left') old.left found.0 tells.left_is found.2 in (
      took.0,
      record {
        asked = record { text = found.0; request = found.1; stands = took.2 };
        left_is = took.1;
        sent_is = tells.sent_is;
        filer = subst (λ filer. TellsFiler files filer old.log) (sym same) tells.filer;
        moments_are = tells.moments_are;
      },
    )

pub refused_leads : (Cut : Type 0) (Moves Tears : List Record → Type 0) (old : State) (left left' sent sent' : Option (List ℕ)) (files files' : Option Files) (clock : Option (List ℕ)) (session session' : Session) (head : Head) (answer : List ℕ) (turned : Turned)
    → Tells left sent files clock session old → head ≡ NotYet
    → FindsHead head (left_of session.inbox.pending left) (left_of session'.inbox.pending left') session'.inbox.target
    → session'.filer ≡ session.filer → files' ≡ files → answer ≡ not_yet_answer
    → Sends answer true sent sent' turned → Moves old.log
    → Leads Cut old Moves Tears left' sent' files' clock session' turned
refused_leads Cut Moves Tears old left left' sent sent' files files' clock session session' head answer turned tells is finds same same_files answer_is sends moves =
    let found = subst (λ (h : Head). FindsHead h (left_of session.inbox.pending left) (left_of session'.inbox.pending left') session'.inbox.target) is finds in
    sent_leads Cut old old.left answer true old.log old.moments Moves Tears left' sent sent' files' clock session' turned
    (inr (inr (record { asked = subst (λ o. IfSome o IsNoRequest) tells.left_is found.0; rest_is = refl; answer_is = answer_is; closes_is = refl; log_is = refl; moments_are = refl })))
    tells.sent_is sends (found.1 ∙ tells.left_is)
    (subst (λ filer. TellsFiler files' filer old.log) (sym same) (subst (λ o. TellsFiler o session.filer old.log) (sym same_files) tells.filer)) tells.moments_are moves

-- A state still stands once no more than its input was read.
pub rests : (old : State) (left left' sent : Option (List ℕ)) (files : Option Files) (clock : Option (List ℕ)) (session : Session)
    → Tells left sent files clock session old → HasLeft left' old.left → Stands left' sent files clock old
rests old left left' sent files clock session tells has =
    record { left_is = has; sent_is = tells.sent_is; log_is = filer_is_log files session.filer old.log tells.filer; moments_are = tells.moments_are }

pub same_rests : (old : State) → Rests old old
same_rests old = record { left = refl; sent = refl; log = refl; moments = refl }

at_end : (old : List ℕ) (told : Option (List ℕ)) → told ≡ Some old → IsAtEnd told → old ≡ []
at_end old told is end =
    let none : Some old ≡ Some [] = sym is ∙ end ∙ ap (option_map (λ _. [])) is in some_same old [] none

pub ended_leads : (Cut : Type 0) (Moves Tears : List Record → Type 0) (old : State) (left left' sent : Option (List ℕ)) (files : Option Files) (clock : Option (List ℕ)) (session session' : Session) (head : Head)
    → Tells left sent files clock session old → head ≡ End
    → FindsHead head (left_of session.inbox.pending left) (left_of session'.inbox.pending left') session'.inbox.target → Moves old.log
    → Leads Cut old Moves Tears left' sent files clock session' (Ended exit.Done)
ended_leads Cut Moves Tears old left left' sent files clock session session' head tells is finds moves =
    let found = subst (λ (h : Head). FindsHead h (left_of session.inbox.pending left) (left_of session'.inbox.pending left') session'.inbox.target) is finds in
    (old, rests old left left' sent files clock session tells (session'.inbox.pending, found.1 ∙ tells.left_is), inl (at_end old.left (left_of session.inbox.pending left) tells.left_is found.0, same_rests old), moves)

pub unread_leads : (Cut : Type 0) (Moves Tears : List Record → Type 0) (old : State) (left left' sent : Option (List ℕ)) (files : Option Files) (clock : Option (List ℕ)) (session session' : Session)
    → Tells left sent files clock session old → left_of session'.inbox.pending left' ≡ left_of session.inbox.pending left → Moves old.log
    → Leads Cut old Moves Tears left' sent files clock session' (Ended exit.ReadFault)
unread_leads Cut Moves Tears old left left' sent files clock session session' tells same moves =
    (old, rests old left left' sent files clock session tells (session'.inbox.pending, same ∙ tells.left_is), same_rests old, moves)
