-- What a request for a directory is answered, and what it adds to the log.
use Rattle.std.specs.Prelude.{◌≡◌, ℕ, ◌-◌, Bool, true, false, List, [], ◌∷◌, ◌++◌, length, take, codes, MatchOption, ◌==◌, if◌then◌else◌}
use Rattle.weed_base.specs.Moments.{later_moments}
use Rattle.weed_base.specs.Path.{IsPath, text_of}
use Rattle.weed_base.specs.PathFaults.{read_fault, path_fault_name}
use Rattle.weed_base.specs.declared.path_fault.PathFault.{PathFault}
use Rattle.name_core.specs.declared.change.Record.{Record}
use Rattle.name_core.specs.declared.command.Command.TheVariants.{MakeDir}
use Rattle.name_core.specs.declared.command.Refusal.{Refusal}
use Rattle.name_core.specs.declared.command.Refusal.TheVariants.{IsFile}
use Rattle.name_core.specs.Faults.{refusal_name}
use Rattle.name_core.specs.Log.{fold, last_time}
use Rattle.name_core.specs.RecordText.{name_of}
use Rattle.name_core.specs.Plan.{Planned, Recorded, Nothing, Refused, plan_of}
use Rattle.weed_command.specs.Answer.{created_text, refused_text}
use Rattle.weed_command.specs.declared.answer.Status.TheVariants.{BadRequest, Conflict}

-- The path that a target names: the target without its last slash, or the root.
abbrev pub path_text : List ℕ → List ℕ
path_text target = if length target == 1 then target else take (length target - 1) target

-- An answer, whether it closes, whether a moment was asked for, and the records that it adds.
pub record Answering : Type 0 where
  pub answer : List ℕ
  pub closes : Bool
  pub asks : Bool
  pub added : List Record

-- The name of a refusal, with the path where it names one.
abbrev pub refusal_text : Refusal → List ℕ
refusal_text (IsFile path) = codes "IsFile " ++ text_of path
refusal_text refusal = refusal_name refusal

-- A target that is no path: 400 with the fault, which closes.
abbrev pub bad_path : PathFault → Answering
bad_path fault = record { answer = refused_text BadRequest (path_fault_name fault) true; closes = true; asks = false; added = [] }

-- A path: 201 where the directory is there or made by a record, and 409 where the plan is refused.
abbrev pub planned_reply : List (List ℕ) → Planned → Answering
planned_reply path (Recorded made) = record { answer = created_text (name_of path); closes = false; asks = true; added = made ∷ [] }
planned_reply path Nothing = record { answer = created_text (name_of path); closes = false; asks = true; added = [] }
planned_reply path (Refused refusal) = record { answer = refused_text Conflict (refusal_text refusal) false; closes = false; asks = true; added = [] }

-- What a request for a path is answered, over a log and at a moment.
abbrev pub reply_to : List Record → ℕ → List (List ℕ) → Answering
reply_to log moment path = planned_reply path (plan_of (fold log) (MakeDir path) moment (last_time log))

-- What a request for a target is answered, over a log and at a moment.
abbrev pub IsReply : List Record → ℕ → List ℕ → Answering → Type 0
IsReply log moment target reply =
    MatchOption (read_fault (path_text target))
    ((path : List (List ℕ)) × IsPath path × (path_text target ≡ text_of path) × (reply ≡ reply_to log moment path))
    (λ fault. reply ≡ bad_path fault)

-- The moments left after a reply.
abbrev pub moments_after : Answering → List ℕ → List ℕ
moments_after reply moments = if reply.asks then later_moments moments else moments
