-- What a crash leaves of a session, turn by turn.
use Rattle.std.proofs.Common.{◌≡◌, ◌⊎◌, inl, inr, ℕ, ◌<◌, ◌≤◌, Bool, List, [], ◌∷◌, ◌++◌, length, Option, Some, None, refl, sym, ap, ◌∙◌, subst, arith, append_assoc, append-nil}
use Rattle.std.specs.Prelude.{MatchOption}
use Rattle.weed_base.specs.Path.{IsPath, text_of}
use Rattle.weed_base.specs.PathFaults.{read_fault}
use Rattle.weed_base.specs.Moments.{first_moment}
use Rattle.weed_base.specs.declared.path_fault.PathFault.{PathFault}
use Rattle.name_core.specs.declared.command.Command.TheVariants.{MakeDir}
use Rattle.name_core.specs.Log.{fold, last_time}
use Rattle.name_core.specs.Plan.{Planned, Recorded, Nothing, Refused, plan_of}
use Rattle.meta_log.specs.LogText.{IsAllowed}
use Rattle.meta_log.specs.Records.{ReadAs}
use Rattle.meta_log.specs.declared.stem.Stem.TheVariants.{Log}
use Rattle.meta_log.proofs.Unique.{text_unique}
use Rattle.meta_log.proofs.RecordLists.{ReadAs-unique}
use Rattle.weed_command.specs.Reply.{Answering, IsReply, planned_reply, reply_to, bad_path, path_text}
use Rattle.weed_base.specs.Files.{Files}
use Rattle.weed_base.specs.Images.{LeavesOnly}
use Rattle.weed_base.specs.Sent.{Piece, bytes_sent}
use Rattle.weed_base.proofs.ImageLemmas.{leaves_both, leaves_weaker, leaves_nothing}
use Rattle.name_core.specs.declared.change.Record.{Record}
use Rattle.meta_log.specs.Kept.{IsRecordLog}
use Rattle.meta_log.specs.Images.{ImagesHoldRecords, AllNear, AreNear}
use Rattle.meta_log.proofs.RecordCrashes.{keeps_each}
use Rattle.weed_command.specs.Handed.{IsSentAt, SendsAt}
use Rattle.weed_command.specs.Settling.{IsOneOf, Settling, Tearing}
use Rattle.weed_command.specs.Session.{State, Answers, Turn, Turns, Steps, Rests, SendsUnlessCut, EndsAfter, LeadsTo, Stands, disk_answer, last_of, most_turns}
use Rattle.weed_command.specs.Tells.{Leads, Ends}
use Rattle.weed_command.specs.Crash.{IsPassed, IsOfRun, BeginsWith, KeepsFrom, Withstands}
use Rattle.weed_command.specs.declared.exit.Exit.{Exit}
use Rattle.weed_command.specs.declared.exit.Exit.TheVariants as exit
use Rattle.weed_command.specs.declared.session.Session.{Session}
use Rattle.weed_command.specs.declared.session.Turned.TheVariants.{Ended}
use Rattle.weed_command.proofs.HandedLemmas.{sent_either, unsent}

-- A disk is a log of one list of records.
pub log_unique : (files : Files) (one other : List Record) → IsRecordLog files one → IsRecordLog files other → one ≡ other
log_unique files one other kept also =
    let same = text_unique (IsAllowed Log) (IsAllowed Log) Log files kept.payloads also.payloads kept.text also.text in
    ReadAs-unique kept.payloads one other kept.read (subst (λ payloads. ReadAs payloads other) (sym same) also.read)

-- Images of one log are near, and so are those of two that are.
settled_near : (images : Files → Type 0) (log : List Record) → ImagesHoldRecords images log → AllNear images
settled_near images log keep one other records others at also kept holds =
    inl (log_unique one records log kept (keeps_each images log keep one at) ∙ log_unique other log others (keeps_each images log keep other also) holds)

one_of : (image : Files) (before after records : List Record) → IsOneOf before after image → IsRecordLog image records → (records ≡ before) ⊎ (records ≡ after)
one_of image before after records (inl same) kept = inl (log_unique image records before kept same)
one_of image before after records (inr longer) kept = inr (log_unique image records after kept longer)

near_of : (log added records others : List Record) → (added ≡ []) ⊎ ((more : Record) × (added ≡ more ∷ [])) → (records ≡ log) ⊎ (records ≡ log ++ added) → (others ≡ log) ⊎ (others ≡ log ++ added)
    → AreNear records others
near_of log added records others few (inl one) (inl other) = inl (one ∙ sym other)
near_of log added records others few (inr one) (inr other) = inl (one ∙ sym other)
near_of log added records others (inl none) (inl one) (inr other) = inl (one ∙ sym (append-nil log) ∙ sym (other ∙ ap (λ more. log ++ more) none))
near_of log added records others (inr some) (inl one) (inr other) = inr (inr (some.0, other ∙ ap (λ more. log ++ more) some.1 ∙ ap (λ front. front ++ some.0 ∷ []) (sym one)))
near_of log added records others (inl none) (inr one) (inl other) = inl (one ∙ ap (λ more. log ++ more) none ∙ append-nil log ∙ sym other)
near_of log added records others (inr some) (inr one) (inl other) = inr (inl (some.0, one ∙ ap (λ more. log ++ more) some.1 ∙ ap (λ front. front ++ some.0 ∷ []) (sym other)))

torn_near : (images : Files → Type 0) (log added : List Record) → (added ≡ []) ⊎ ((more : Record) × (added ≡ more ∷ [])) → ((image : Files) → images image → IsOneOf log (log ++ added) image) → AllNear images
torn_near images log added few present one other records others at also kept holds =
    near_of log added records others few (one_of one log (log ++ added) records (present one at) kept) (one_of other log (log ++ added) others (present other also) holds)

-- A reply adds one record at most.
plan_adds : (path : List (List ℕ)) (plan : Planned) → ((planned_reply path plan).added ≡ []) ⊎ ((more : Record) × ((planned_reply path plan).added ≡ more ∷ []))
plan_adds path (Recorded made) = inr (made, refl)
plan_adds path Nothing = inl refl
plan_adds path (Refused refusal) = inl refl

found_adds : (found : Option PathFault) (text : List ℕ) (log : List Record) (moment : ℕ) (says : Answering)
    → MatchOption found ((path : List (List ℕ)) × IsPath path × (text ≡ text_of path) × (says ≡ reply_to log moment path)) (λ fault. says ≡ bad_path fault)
    → (says.added ≡ []) ⊎ ((more : Record) × (says.added ≡ more ∷ []))
found_adds None text log moment says replies =
    subst (λ (s : Answering). (s.added ≡ []) ⊎ ((more : Record) × (s.added ≡ more ∷ []))) (sym replies.3) (plan_adds replies.0 (plan_of (fold log) (MakeDir replies.0) moment (last_time log)))
found_adds (Some fault) text log moment says is = inl (ap (λ (s : Answering). s.added) is)

reply_adds : (log : List Record) (moment : ℕ) (target : List ℕ) (says : Answering) → IsReply log moment target says → (says.added ≡ []) ⊎ ((more : Record) × (says.added ≡ more ∷ []))
reply_adds log moment target says reply = found_adds (read_fault (path_text target)) (path_text target) log moment says reply

-- A path with one state more
pub last_of-push : (first : State) (path : List State) (new : State) → last_of first (path ++ new ∷ []) ≡ new
last_of-push first [] new = refl
last_of-push first (next ∷ later) new = last_of-push next later new

pub steps-push : (Step : State → State → Type 0) (first : State) (path : List State) (new : State) → Steps Step first path → Step (last_of first path) new → Steps Step first (path ++ new ∷ [])
steps-push Step first [] new steps step = (step, tt)
steps-push Step first (next ∷ later) new steps step = (steps.0, steps-push Step next later new steps.1 step)

steps_weaker : (Step Other : State → State → Type 0) (first : State) (path : List State) → ((old new : State) → Step old new → Other old new) → Steps Step first path → Steps Other first path
steps_weaker Step Other first [] weaker steps = tt
steps_weaker Step Other first (next ∷ later) weaker steps = (weaker first next steps.0, steps_weaker Step Other next later weaker steps.1)

passed-push : (first : State) (path : List State) (new : State) (log : List Record) → IsPassed first path log → IsPassed first (path ++ new ∷ []) log
passed-push first [] new log passed = inl passed
passed-push first (next ∷ later) new log (inl here) = inl here
passed-push first (next ∷ later) new log (inr behind) = inr (passed-push next later new log behind)

passed-last : (first : State) (path : List State) → IsPassed first path (last_of first path).log
passed-last first [] = refl
passed-last first (next ∷ later) = inr (passed-last next later)

-- What an answer adds to the log stands behind it.
pub answers_add : (old : State) (rest answer : List ℕ) (closes : Bool) (log : List Record) (moments : List ℕ) → Answers old rest answer closes log moments
    → (added : List Record) × (log ≡ old.log ++ added)
answers_add old rest answer closes log moments (inl replies) = (replies.says.added, replies.log_is)
answers_add old rest answer closes log moments (inr (inl lacks)) = ([], lacks.log_is ∙ sym (append-nil old.log))
answers_add old rest answer closes log moments (inr (inr refuses)) = ([], refuses.log_is ∙ sym (append-nil old.log))

begins_so : (image : Files) (log more whole : List Record) → whole ≡ log ++ more → IsRecordLog image whole → BeginsWith log image
begins_so image log more whole same kept = (more, subst (IsRecordLog image) same kept)

one_begins : (image : Files) (log more before added after : List Record) → before ≡ log ++ more → after ≡ before ++ added → IsOneOf before after image → BeginsWith log image
one_begins image log more before added after front grown (inl kept) = begins_so image log more before front kept
one_begins image log more before added after front grown (inr kept) =
    begins_so image log (more ++ added) after (grown ∙ ap (λ records. records ++ added) front ∙ append_assoc log more added) kept

-- A step of the path keeps what it stands on, at a disk where the path has come to this log.
pub record HoldsPayloads {D : Type 0} (tick : D → ℕ) (since : D → ℕ → Files → Type 0) (sent : D → Option (List Piece)) (now : D) (log : List Record) (old new : State) : Type 0 where
  pub more : List Record
  pub front : log ≡ new.log ++ more
  pub early : (moment : ℕ) → IsSentAt (sent now) (length old.sent) moment → moment ≤ tick now
  pub keeps : KeepsFrom (since now) (sent now) (length old.sent) new.log

-- A session has come along this path.
pub record Keeping {D : Type 0} (tick : D → ℕ) (images : D → Files → Type 0) (since : D → ℕ → Files → Type 0) (sent : D → Option (List Piece)) (start now : D) (first : State) (path : List State) : Type 0 where
  pub leaves : LeavesOnly tick since start now (λ image. (log : List Record) × IsRecordLog image log × IsPassed first path log)
  pub settled : ImagesHoldRecords (images now) (last_of first path).log
  pub held : Steps (HoldsPayloads tick since sent now (last_of first path).log) first path

module _ {D : Type 0} (tick : D → ℕ) (images : D → Files → Type 0) (since : D → ℕ → Files → Type 0) (sent : D → Option (List Piece))
    (only_now : (disk : D) (image : Files) → since disk (tick disk) image → images disk image) where
  -- it begins so
  pub keeping_begins : (start : D) (first : State) → ImagesHoldRecords (images start) first.log → Keeping tick images since sent start start first []
  keeping_begins start first keep = record {
    leaves = leaves_nothing tick since start (λ image. (log : List Record) × IsRecordLog image log × IsPassed first [] log);
    settled = keep;
    held = tt;
  }

  -- a step stays held by what comes after it
  held_on : (mid now : D) (log added later : List Record) → later ≡ log ++ added → LeavesOnly tick since mid now (IsOneOf log later)
      → ((image : Files) → images now image → IsOneOf log later image) → SendsAt (tick now) (sent mid) (sent now)
      → (old new : State) → HoldsPayloads tick since sent mid log old new → HoldsPayloads tick since sent now later old new
  held_on mid now log added later grown leaves present sends old new held =
      let either = λ (moment : ℕ) (at : IsSentAt (sent now) (length old.sent) moment). sent_either (sent mid) (sent now) (tick now) (length old.sent) moment sends at in
      let begins = λ (image : Files) (one : IsOneOf log later image). one_begins image new.log held.more log added later held.front grown one in
      record {
        more = held.more ++ added;
        front = grown ∙ ap (λ records. records ++ added) held.front ∙ append_assoc new.log held.more added;
        early = λ moment at.
            elim (either moment at) as (λ _. moment ≤ tick now) [
              | inl before ↦ omega (arith, held.early moment before, leaves.later)
              | inr same ↦ omega (arith, same)
            ];
        keeps = λ moment image at left.
            elim (either moment at) as (λ _. BeginsWith new.log image) [
              | inl before ↦
                  elim (leaves.each moment image (held.early moment before) left) as (λ _. BeginsWith new.log image) [
                    | inl earlier ↦ held.keeps moment image before earlier
                    | inr one ↦ begins image one
                  ]
              | inr same ↦ begins image (present image (only_now now image (subst (λ m. since now m image) same left)))
            ];
      }

  -- and so is one whose answer was sent once its log was settled
  held_now : (mid now : D) (old new : State) → bytes_sent (sent mid) ≡ Some old.sent → SendsAt (tick now) (sent mid) (sent now) → ImagesHoldRecords (images now) new.log
      → HoldsPayloads tick since sent now new.log old new
  held_now mid now old new told sends keep =
      let either = λ (moment : ℕ) (at : IsSentAt (sent now) (length old.sent) moment). sent_either (sent mid) (sent now) (tick now) (length old.sent) moment sends at in
      record {
        more = [];
        front = sym (append-nil new.log);
        early = λ moment at.
            elim (either moment at) as (λ _. moment ≤ tick now) [
              | inl before ↦ absurd (unsent (sent mid) old.sent moment told before)
              | inr same ↦ omega (arith, same)
            ];
        keeps = λ moment image at left.
            elim (either moment at) as (λ _. BeginsWith new.log image) [
              | inl before ↦ absurd (unsent (sent mid) old.sent moment told before)
              | inr same ↦
                  begins_so image new.log [] new.log (sym (append-nil new.log))
                  (keeps_each (images now) new.log keep image (only_now now image (subst (λ m. since now m image) same left)))
            ];
      }

  module _ (start mid now : D) (first : State) (path : List State) (keeping : Keeping tick images since sent start mid first path) where
    -- what a turn leaves is of the path, or where it led
    turn_leaves : (Of : List Record → Type 0) (log : List Record) → ((passed : List Record) → IsPassed first path passed → Of passed) → Of log
        → LeavesOnly tick since mid now (IsOneOf (last_of first path).log log)
        → LeavesOnly tick since start now (λ image. (records : List Record) × IsRecordLog image records × Of records)
    turn_leaves Of log path_of log_of leaves =
        let before = λ (image : Files). (records : List Record) × IsRecordLog image records × IsPassed first path records in
        let after = λ (image : Files). (records : List Record) × IsRecordLog image records × Of records in
        let far : LeavesOnly tick since start mid after =
        leaves_weaker tick since start mid before after (λ image was. (was.0, was.1, path_of was.0 was.2)) keeping.leaves in
        let near : LeavesOnly tick since mid now after =
        leaves_weaker tick since mid now (IsOneOf (last_of first path).log log) after
        (λ image one.
        elim one as (λ _. (records : List Record) × IsRecordLog image records × Of records) [
          | inl same ↦ ((last_of first path).log, same, path_of (last_of first path).log (passed-last first path))
          | inr longer ↦ (log, longer, log_of)
        ]) leaves in
        leaves_both tick since start mid now after far near

    all_held : (log added : List Record) → log ≡ (last_of first path).log ++ added → LeavesOnly tick since mid now (IsOneOf (last_of first path).log log)
        → ((image : Files) → images now image → IsOneOf (last_of first path).log log image) → SendsAt (tick now) (sent mid) (sent now)
        → Steps (HoldsPayloads tick since sent now log) first path
    all_held log added grown leaves present sends =
        steps_weaker (HoldsPayloads tick since sent mid (last_of first path).log) (HoldsPayloads tick since sent now log) first path
        (held_on mid now (last_of first path).log added log grown leaves present sends) keeping.held

    -- a turn goes on along the path
    pub keeping_more : (new : State) → Turn (last_of first path) new → Settling tick images since mid now (last_of first path).log new.log → SendsAt (tick now) (sent mid) (sent now)
        → bytes_sent (sent mid) ≡ Some (last_of first path).sent → Keeping tick images since sent start now first (path ++ new ∷ [])
    keeping_more new turn settling sends told =
        let settles = settling keeping.settled in
        let added = answers_add (last_of first path) new.left turn.0 _ new.log new.moments turn.1 in
        let at_new = last_of-push first path new in
        let old_held = all_held new.log added.0 added.1 settles.leaves (λ image left. inr (keeps_each (images now) new.log settles.now image left)) sends in
        let new_held = held_now mid now (last_of first path) new told sends settles.now in
        record {
          leaves = turn_leaves (IsPassed first (path ++ new ∷ [])) new.log (λ log passed. passed-push first path new log passed)
              (subst (λ (state : State). IsPassed first (path ++ new ∷ []) state.log) at_new (passed-last first (path ++ new ∷ []))) settles.leaves;
          settled = subst (λ (state : State). ImagesHoldRecords (images now) state.log) (sym at_new) settles.now;
          held = subst (λ (state : State). Steps (HoldsPayloads tick since sent now state.log) first (path ++ new ∷ [])) (sym at_new)
              (steps-push (HoldsPayloads tick since sent now new.log) first path new old_held new_held);
        }

    kept_steps : (log : List Record) → Steps (HoldsPayloads tick since sent now log) first path → Steps (λ old new. KeepsFrom (since now) (sent now) (length old.sent) new.log) first path
    kept_steps log held =
        steps_weaker (HoldsPayloads tick since sent now log) (λ old new. KeepsFrom (since now) (sent now) (length old.sent) new.log) first path (λ old new one. one.keeps) held

    -- a session ends with the log settled
    pub settled_ends : (end : Exit) (last : State) (added : List Record) → last.log ≡ (last_of first path).log ++ added → LeadsTo end (last_of first path) last last.log
        → Settling tick images since mid now (last_of first path).log last.log → SendsAt (tick now) (sent mid) (sent now)
        → bytes_sent (sent mid) ≡ Some (last_of first path).sent → Withstands tick images since sent start now end first path last
    settled_ends end last added grown leads settling sends told =
        let settles = settling keeping.settled in
        let held = all_held last.log added grown settles.leaves (λ image left. inr (keeps_each (images now) last.log settles.now image left)) sends in
        record {
          leaves = turn_leaves (IsOfRun end first path last) last.log (λ log passed. inl passed) (inr leads) settles.leaves;
          answers = record { whole = kept_steps last.log held; begun = λ _. (held_now mid now (last_of first path) last told sends settles.now).keeps };
          near = settled_near (images now) last.log settles.now;
        }

    -- a session ends with a fault of the disk
    pub torn_ends : (counts_now : (disk : D) (moment : ℕ) (image : Files) → moment ≤ tick disk → images disk image → since disk moment image)
        → (last : State) (log : List Record) → LeadsTo exit.DiskFault (last_of first path) last log
        → Tearing tick images since mid now (last_of first path).log log → SendsAt (tick now) (sent mid) (sent now) → Withstands tick images since sent start now exit.DiskFault first path last
    torn_ends counts_now last log leads tearing sends =
        let leaves = tearing keeping.settled in
        let present = λ (image : Files) (left : images now image).
        elim (leaves.each (tick mid) image (omega arith) (counts_now now (tick mid) image leaves.later left)) as (λ _. IsOneOf (last_of first path).log log image) [
          | inl before ↦ inl (keeps_each (images mid) (last_of first path).log keeping.settled image (only_now mid image before))
          | inr one ↦ one
        ] in
        let held = all_held log leads.1.added leads.4 leaves present sends in
        record {
          leaves = turn_leaves (IsOfRun exit.DiskFault first path last) log (λ passed of_path. inl of_path) (inr leads) leaves;
          answers = record { whole = kept_steps log held; begun = λ other. absurd (other refl) };
          near = torn_near (images now) (last_of first path).log leads.1.added (reply_adds (last_of first path).log (first_moment (last_of first path).moments) leads.0 leads.1 leads.3)
              (λ image left. subst (λ (to : List Record). IsOneOf (last_of first path).log to image) leads.4 (present image left));
        }

  -- a session ends as it has answered all that it answers at most
  pub spent_ends : (start now : D) (first : State) (path : List State) → Keeping tick images since sent start now first path → bytes_sent (sent now) ≡ Some (last_of first path).sent
      → Withstands tick images since sent start now exit.TurnsSpent first path (last_of first path)
  spent_ends start now first path keeping told = record {
    leaves = leaves_weaker tick since start now
        (λ image. (log : List Record) × IsRecordLog image log × IsPassed first path log)
        (λ image. (log : List Record) × IsRecordLog image log × IsOfRun exit.TurnsSpent first path (last_of first path) log)
        (λ image was. (was.0, was.1, inl was.2)) keeping.leaves;
    answers = record {
      whole = steps_weaker (HoldsPayloads tick since sent now (last_of first path).log) (λ old new. KeepsFrom (since now) (sent now) (length old.sent) new.log) first path (λ old new one. one.keeps) keeping.held;
      begun = λ _ moment image at left. absurd (unsent (sent now) (last_of first path).sent moment told at);
    };
    near = settled_near (images now) (last_of first path).log keeping.settled;
  }

rests_add : (old last : State) → Rests old last → (added : List Record) × (last.log ≡ old.log ++ added)
rests_add old last rests = ([], rests.log ∙ sym (append-nil old.log))

done_adds : (Cut : Type 0) (old last : State) → EndsAfter Cut exit.Done old last → (added : List Record) × (last.log ≡ old.log ++ added)
done_adds Cut old last (inl ended) = rests_add old last ended.1
done_adds Cut old last (inr closed) = answers_add old last.left closed.0 _ last.log last.moments closed.1

-- A send that failed in the last turn failed in the run.
sends_weaker : (Here Cut : Type 0) → (Here → Cut) → (before answer sent : List ℕ) → SendsUnlessCut Here before answer sent → SendsUnlessCut Cut before answer sent
sends_weaker Here Cut cut before answer sent (inl whole) = inl whole
sends_weaker Here Cut cut before answer sent (inr front) = inr (cut front.0, front.1, front.2, front.3)

faulted_weaker : (Here Cut : Type 0) → (Here → Cut) → (old last : State) → EndsAfter Here exit.DiskFault old last → EndsAfter Cut exit.DiskFault old last
faulted_weaker Here Cut cut old last ends = (ends.0, ends.1, ends.2, ends.3, ends.4, sends_weaker Here Cut cut old.sent disk_answer last.sent ends.5, ends.6, ends.7)

-- How a turn ends is how the session ends.
pub ends_after : {D : Type 0} (Here Cut : Type 0) → (Here → Cut) → (tick : D → ℕ) (images : D → Files → Type 0) (since : D → ℕ → Files → Type 0) (sent : D → Option (List Piece))
    → ((disk : D) (image : Files) → since disk (tick disk) image → images disk image)
    → ((disk : D) (moment : ℕ) (image : Files) → moment ≤ tick disk → images disk image → since disk moment image)
    → (start mid now : D) (end : Exit) (first : State) (path : List State) (left bytes : Option (List ℕ)) (files : Option Files) (moments : Option (List ℕ)) (session : Session)
    → Turns first path → length path < most_turns
    → (ImagesHoldRecords (images start) first.log → Keeping tick images since sent start mid first path)
    → bytes_sent (sent mid) ≡ Some (last_of first path).sent → SendsAt (tick now) (sent mid) (sent now)
    → Leads Here (last_of first path) (Settling tick images since mid now (last_of first path).log) (Tearing tick images since mid now (last_of first path).log) left bytes files moments session (Ended end)
    → (last : State) × Stands left bytes files moments last × Ends Cut end first path last
    × (ImagesHoldRecords (images start) first.log → Withstands tick images since sent start now end first path last)
ends_after Here Cut cut tick images since sent only_now counts_now start mid now exit.Done first path left bytes files moments session turns few keeping told sends leads =
    let added = done_adds Here (last_of first path) leads.0 leads.2 in
    (leads.0, leads.1, (turns, few, leads.2), λ keep. settled_ends tick images since sent only_now start mid now first path (keeping keep) exit.Done leads.0 added.0 added.1 refl leads.3 sends told)
ends_after Here Cut cut tick images since sent only_now counts_now start mid now exit.ReadFault first path left bytes files moments session turns few keeping told sends leads =
    let added = rests_add (last_of first path) leads.0 leads.2 in
    (leads.0, leads.1, (turns, few, leads.2), λ keep. settled_ends tick images since sent only_now start mid now first path (keeping keep) exit.ReadFault leads.0 added.0 added.1 refl leads.3 sends told)
ends_after Here Cut cut tick images since sent only_now counts_now start mid now exit.WriteFault first path left bytes files moments session turns few keeping told sends leads =
    let added = answers_add (last_of first path) leads.0.left leads.2.0 leads.2.1 leads.0.log leads.0.moments leads.2.3 in
    (leads.0, leads.1, (turns, few, leads.2), λ keep. settled_ends tick images since sent only_now start mid now first path (keeping keep) exit.WriteFault leads.0 added.0 added.1 refl leads.3 sends told)
ends_after Here Cut cut tick images since sent only_now counts_now start mid now exit.DiskFault first path left bytes files moments session turns few keeping told sends leads =
    (leads.0, leads.1, (turns, few, faulted_weaker Here Cut cut (last_of first path) leads.0 leads.2), λ keep. torn_ends tick images since sent only_now start mid now first path (keeping keep) counts_now leads.0 leads.3.0 leads.3.1 leads.3.2 sends)
ends_after Here Cut cut tick images since sent only_now counts_now start mid now (exit.BadWords place) first path left bytes files moments session turns few keeping told sends leads = absurd leads.2
ends_after Here Cut cut tick images since sent only_now counts_now start mid now (exit.Damaged file at) first path left bytes files moments session turns few keeping told sends leads = absurd leads.2
ends_after Here Cut cut tick images since sent only_now counts_now start mid now exit.Memory first path left bytes files moments session turns few keeping told sends leads = absurd leads.2
ends_after Here Cut cut tick images since sent only_now counts_now start mid now exit.TurnsSpent first path left bytes files moments session turns few keeping told sends leads = absurd leads.2
