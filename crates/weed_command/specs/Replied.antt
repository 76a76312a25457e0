-- What is ready to be sent, and what the outside and the filer are by then.
use Rattle.std.specs.Prelude.{◌≡◌, ◌≢◌, ℕ, ◌⊎◌, List, [], ◌++◌, Option, Some, Result, Ok, Err}
use Rattle.weed_base.specs.Files.{Files}
use Rattle.weed_base.specs.Moments.{first_moment, later_moments}
use Rattle.name_core.specs.declared.change.Record.{Record}
use Rattle.weed_command.specs.Filer.{TellsFiler, TellsEither}
use Rattle.weed_command.specs.Reply.{Answering, IsReply, reply_to, bad_path, moments_after}
use Rattle.weed_base.specs.declared.path_fault.PathFault.{PathFault}
use Rattle.weed_base.specs.declared.path_fault.PathFault.TheVariants as path_fault
use Rattle.weed_command.specs.declared.plain_filer.PlainFiler.{PlainFiler}
use Rattle.weed_command.specs.declared.reply.Reply.{Reply}
use Rattle.weed_command.specs.declared.reply.ReplyFault.{ReplyFault}
use Rattle.weed_command.specs.declared.reply.ReplyFault.TheVariants.{DiskFault, Memory}

-- What is sent is an answering, which closes or not.
pub record IsReadied (reply : Reply) (says : Answering) : Type 0 where
  pub answer : reply.answer ≡ says.answer
  pub closes : reply.closes ≡ says.closes

-- A fault of a path is answered 400, unless it is want of memory, or memory is wanting for the answer.
abbrev pub RepliesFault : PathFault → Result Reply ReplyFault → Type 0
RepliesFault fault (Ok reply) = IsReadied reply (bad_path fault) × (fault ≢ path_fault.Memory)
RepliesFault fault (Err Memory) = Unit {0}
RepliesFault fault (Err DiskFault) = ⊥

-- Over a log and at moments to come a request, whose answering is to be such, gave this: that answering, with
-- its records in the log; want of memory, with nothing changed but that a moment may be gone; or a fault of the
-- disk, where it adds records, with these in the log or not. `Moves` tells of the images on the way to a log, and `Tears` where a
-- call failed.
abbrev pub GivesSuch : (Answering → Type 0) → (List Record → Type 0) → (List Record → Type 0) → List Record → List ℕ → Option Files → Option (List ℕ) → PlainFiler → Result Reply ReplyFault → Type 0
GivesSuch Such Moves Tears log moments files later filer (Ok reply) =
    (says : Answering) × Such says × IsReadied reply says × TellsFiler files filer (log ++ says.added) × (later ≡ Some (moments_after says moments)) × Moves (log ++ says.added)
GivesSuch Such Moves Tears log moments files later filer (Err Memory) =
    TellsFiler files filer log × ((later ≡ Some moments) ⊎ (later ≡ Some (later_moments moments))) × Moves log
GivesSuch Such Moves Tears log moments files later filer (Err DiskFault) =
    (says : Answering) × Such says × (says.added ≢ []) × TellsEither files log says.added × (later ≡ Some (moments_after says moments)) × Tears (log ++ says.added)

-- The same of a request for a target.
abbrev pub Gives : List Record → List ℕ → List ℕ → (List Record → Type 0) → (List Record → Type 0) → Option Files → Option (List ℕ) → PlainFiler → Result Reply ReplyFault → Type 0
Gives log moments target Moves Tears = GivesSuch (IsReply log (first_moment moments) target) Moves Tears log moments

-- The same of a request for a path.
abbrev pub GivesFor : List (List ℕ) → List Record → List ℕ → (List Record → Type 0) → (List Record → Type 0) → Option Files → Option (List ℕ) → PlainFiler → Result Reply ReplyFault → Type 0
GivesFor path log moments Moves Tears = GivesSuch (λ says. says ≡ reply_to log (first_moment moments) path) Moves Tears log moments
