-- A sound log stays sound with what requests add to it.
use Rattle.std.proofs.Common.{◌≡◌, inl, inr, ℕ, Bool, List, [], ◌∷◌, ◌++◌, Option, Some, None, refl, sym, subst, append-nil}
use Rattle.std.specs.Prelude.{MatchOption}
use Rattle.weed_base.specs.Path.{IsPath, text_of}
use Rattle.weed_base.specs.PathFaults.{read_fault}
use Rattle.weed_base.specs.Moments.{first_moment}
use Rattle.weed_base.specs.declared.path_fault.PathFault.{PathFault}
use Rattle.name_core.specs.declared.change.Record.{Record}
use Rattle.name_core.specs.declared.command.Command.TheVariants.{MakeDir}
use Rattle.name_core.specs.Log.{IsSound, fold, last_time}
use Rattle.name_core.specs.Plan.{Planned, Recorded, Nothing, Refused, plan_of}
use Rattle.name_core.proofs.PlanLemmas.{IsSound-push}
use Rattle.weed_command.specs.Reply.{Answering, IsReply, planned_reply, reply_to, bad_path, path_text}
use Rattle.weed_command.specs.Session.{State, Answers, Turn, Turns, Rests, EndsAfter, LeadsTo, last_of}
use Rattle.weed_command.specs.Tells.{Ends}
use Rattle.weed_command.specs.Crash.{IsPassed, IsOfRun}
use Rattle.weed_command.specs.declared.exit.Exit.{Exit}
use Rattle.weed_command.specs.declared.exit.Exit.TheVariants as exit

nothing_sound : (log : List Record) → IsSound log → IsSound (log ++ [])
nothing_sound log sound = subst IsSound (sym (append-nil log)) sound

planned_sound : (log : List Record) (path : List (List ℕ)) (moment : ℕ) (plan : Planned) → plan_of (fold log) (MakeDir path) moment (last_time log) ≡ plan → IsSound log
    → IsSound (log ++ (planned_reply path plan).added)
planned_sound log path moment (Recorded made) is sound = IsSound-push log (MakeDir path) moment made sound is
planned_sound log path moment Nothing is sound = nothing_sound log sound
planned_sound log path moment (Refused refusal) is sound = nothing_sound log sound

found_sound : (found : Option PathFault) (text : List ℕ) (log : List Record) (moment : ℕ) (says : Answering)
    → MatchOption found ((path : List (List ℕ)) × IsPath path × (text ≡ text_of path) × (says ≡ reply_to log moment path)) (λ fault. says ≡ bad_path fault)
    → IsSound log → IsSound (log ++ says.added)
found_sound None text log moment says replies sound =
    subst (λ (s : Answering). IsSound (log ++ s.added)) (sym replies.3)
    (planned_sound log replies.0 moment (plan_of (fold log) (MakeDir replies.0) moment (last_time log)) refl sound)
found_sound (Some fault) text log moment says is sound = subst (λ (s : Answering). IsSound (log ++ s.added)) (sym is) (nothing_sound log sound)

reply_sound : (log : List Record) (moment : ℕ) (target : List ℕ) (says : Answering) → IsReply log moment target says → IsSound log → IsSound (log ++ says.added)
reply_sound log moment target says reply sound = found_sound (read_fault (path_text target)) (path_text target) log moment says reply sound

answers_sound : (old : State) (rest answer : List ℕ) (closes : Bool) (log : List Record) (moments : List ℕ) → Answers old rest answer closes log moments → IsSound old.log → IsSound log
answers_sound old rest answer closes log moments (inl replies) sound =
    subst IsSound (sym replies.log_is) (reply_sound old.log (first_moment old.moments) replies.target replies.says replies.reply sound)
answers_sound old rest answer closes log moments (inr (inl lacks)) sound = subst IsSound (sym lacks.log_is) sound
answers_sound old rest answer closes log moments (inr (inr refuses)) sound = subst IsSound (sym refuses.log_is) sound

turn_sound : (old new : State) → Turn old new → IsSound old.log → IsSound new.log
turn_sound old new turn sound = answers_sound old new.left turn.0 _ new.log new.moments turn.1 sound

turns_sound : (first : State) (path : List State) → Turns first path → IsSound first.log → IsSound (last_of first path).log
turns_sound first [] turns sound = sound
turns_sound first (next ∷ later) turns sound = turns_sound next later turns.1 (turn_sound first next turns.0 sound)

passed_sound : (first : State) (path : List State) (log : List Record) → Turns first path → IsPassed first path log → IsSound first.log → IsSound log
passed_sound first [] log turns passed sound = subst IsSound (sym passed) sound
passed_sound first (next ∷ later) log turns (inl here) sound = subst IsSound (sym here) sound
passed_sound first (next ∷ later) log turns (inr behind) sound = passed_sound next later log turns.1 behind (turn_sound first next turns.0 sound)

rests_sound : (old last : State) → Rests old last → IsSound old.log → IsSound last.log
rests_sound old last rests sound = subst IsSound (sym rests.log) sound

done_sound : (Cut : Type 0) (old last : State) → EndsAfter Cut exit.Done old last → IsSound old.log → IsSound last.log
done_sound Cut old last (inl ended) sound = rests_sound old last ended.1 sound
done_sound Cut old last (inr closed) sound = answers_sound old last.left closed.0 _ last.log last.moments closed.1 sound

ended_sound : (Cut : Type 0) (end : Exit) (old last : State) (log : List Record) → EndsAfter Cut end old last → LeadsTo end old last log → IsSound old.log → IsSound log
ended_sound Cut exit.Done old last log ends leads sound = subst IsSound (sym leads) (done_sound Cut old last ends sound)
ended_sound Cut exit.ReadFault old last log ends leads sound = subst IsSound (sym leads) (rests_sound old last ends sound)
ended_sound Cut exit.WriteFault old last log ends leads sound = subst IsSound (sym leads) (answers_sound old last.left ends.0 ends.1 last.log last.moments ends.3 sound)
ended_sound Cut exit.DiskFault old last log ends leads sound = subst IsSound (sym leads.4) (reply_sound old.log (first_moment old.moments) leads.0 leads.1 leads.3 sound)
ended_sound Cut (exit.BadWords place) old last log ends leads sound = absurd ends
ended_sound Cut (exit.Damaged file at) old last log ends leads sound = absurd ends
ended_sound Cut exit.Memory old last log ends leads sound = absurd ends
ended_sound Cut exit.TurnsSpent old last log ends leads sound = absurd ends

of_run : (Cut : Type 0) (end : Exit) (first : State) (path : List State) (last : State) (log : List Record) → Turns first path → EndsAfter Cut end (last_of first path) last → IsOfRun end first path last log → IsSound first.log → IsSound log
of_run Cut end first path last log turns ends (inl passed) sound = passed_sound first path log turns passed sound
of_run Cut end first path last log turns ends (inr leads) sound = ended_sound Cut end (last_of first path) last log ends leads (turns_sound first path turns sound)

-- Each log of a run is sound where the first one is.
pub run_sound : (Cut : Type 0) (end : Exit) (first : State) (path : List State) (last : State) (log : List Record) → Ends Cut end first path last → IsOfRun end first path last log → IsSound first.log → IsSound log
run_sound Cut exit.Done first path last log ends of sound = of_run Cut exit.Done first path last log ends.0 ends.2 of sound
run_sound Cut exit.ReadFault first path last log ends of sound = of_run Cut exit.ReadFault first path last log ends.0 ends.2 of sound
run_sound Cut exit.WriteFault first path last log ends of sound = of_run Cut exit.WriteFault first path last log ends.0 ends.2 of sound
run_sound Cut exit.DiskFault first path last log ends of sound = of_run Cut exit.DiskFault first path last log ends.0 ends.2 of sound
run_sound Cut (exit.BadWords place) first path last log ends of sound = absurd ends.2
run_sound Cut (exit.Damaged file at) first path last log ends of sound = absurd ends.2
run_sound Cut exit.Memory first path last log ends of sound = absurd ends.2
run_sound Cut exit.TurnsSpent first path last log ends (inl passed) sound = passed_sound first path log ends.0 passed sound
run_sound Cut exit.TurnsSpent first path last log ends (inr leads) sound =
    subst IsSound (sym leads) (subst (λ (state : State). IsSound state.log) (sym ends.2) (turns_sound first path ends.0 sound))
