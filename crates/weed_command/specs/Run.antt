-- A whole run: what is told of the outside before it and after it.
use Rattle.std.specs.Prelude.{◌≡◌, ◌⊎◌, ℕ, List, [], Option, Some, IfSome, ⊤}
use Rattle.meta_log.specs.declared.fault.LogFault.{LogFault}
use Rattle.meta_log.specs.declared.fault.LogFault.TheVariants as fault
use Rattle.weed_command.specs.Filer.{IsFiledFrom}
use Rattle.weed_command.specs.declared.session.Session.{Session}
use Rattle.weed_base.specs.Files.{Files}
use Rattle.weed_command.specs.Session.{State, Rests, Stands}
use Rattle.weed_command.specs.Tells.{Ends}
use Rattle.weed_command.specs.Crash.{IsOfRun}
use Rattle.weed_base.specs.Sent.{Piece}
use Rattle.name_core.specs.declared.change.Record.{Record}
use Rattle.weed_command.specs.declared.exit.Exit.{Exit}
use Rattle.weed_command.specs.declared.exit.Exit.TheVariants as exit

-- The outside is told, and has this of a state: the input, what was sent, the log that the disk reads as, and
-- the moments to come.
pub record Starts (left sent : Option (List ℕ)) (files : Option Files) (moments : Option (List ℕ)) (state : State) : Type 0 where
  pub unread : left ≡ Some state.left
  pub stands : Stands left sent files moments state

-- A session has begun: nothing is read yet, and it has a filer of the records that the disk had.
pub record Begins (old new : Option Files) (session : Session) : Type 0 where
  pub empty : session.inbox.pending ≡ []
  pub filed : IfSome old (λ files. IsFiledFrom files new session.filer)

-- How a run ends where its log wasn't opened.
abbrev pub exit_of_fault : LogFault → Exit
exit_of_fault fault.DiskFault = exit.DiskFault
exit_of_fault (fault.Damaged file at) = exit.Damaged file at
exit_of_fault fault.Memory = exit.Memory

-- The ends of a run before its session: by the disk, by want of memory, or by a damaged log.
abbrev pub IsEarly : Exit → Type 0
IsEarly exit.DiskFault = ⊤
IsEarly exit.Memory = ⊤
IsEarly (exit.Damaged file at) = ⊤
IsEarly exit.Done = ⊥
IsEarly exit.ReadFault = ⊥
IsEarly exit.WriteFault = ⊥
IsEarly exit.TurnsSpent = ⊥
IsEarly (exit.BadWords place) = ⊥

-- A run ended before its session: it read nothing, sent nothing and asked for no moment.
pub record EndsUnread {S C : Type 0} (end : Exit) (sent sent' : Option (List Piece)) (source source' : S) (clock clock' : C) : Type 0 where
  pub early : IsEarly end
  pub unsent : sent' ≡ sent
  pub unread : source' ≡ source
  pub unasked : clock' ≡ clock

-- A run ends as its session does, or before it. `Cut` says that a send failed, `Unread` that nothing was read, and
-- `Leaves` what came of the run where its own logs are these: those of its session, or none.
abbrev pub EndsRun : (Cut Unread : Type 0) → Exit → State → List State → State → ((List Record → Type 0) → Type 0) → Type 0
EndsRun Cut Unread end first path last Leaves =
    (Ends Cut end first path last × Leaves (IsOfRun end first path last))
    ⊎ (IsEarly end × (path ≡ []) × Rests first last × Unread × Leaves (λ _. ⊥))

-- Where it is damage, its file and place are so.
abbrev pub IfDamagedExit : (List ℕ → ℕ → Type 0) → Exit → Type 0
IfDamagedExit P (exit.Damaged file at) = P file at
IfDamagedExit P exit.DiskFault = ⊤
IfDamagedExit P exit.Memory = ⊤
IfDamagedExit P exit.Done = ⊤
IfDamagedExit P exit.ReadFault = ⊤
IfDamagedExit P exit.WriteFault = ⊤
IfDamagedExit P exit.TurnsSpent = ⊤
IfDamagedExit P (exit.BadWords place) = ⊤

-- A run is done, or memory was wanting.
abbrev pub IsDoneOrShort : Exit → Type 0
IsDoneOrShort exit.Done = ⊤
IsDoneOrShort exit.Memory = ⊤
IsDoneOrShort exit.DiskFault = ⊥
IsDoneOrShort exit.ReadFault = ⊥
IsDoneOrShort exit.WriteFault = ⊥
IsDoneOrShort exit.TurnsSpent = ⊥
IsDoneOrShort (exit.BadWords place) = ⊥
IsDoneOrShort (exit.Damaged file at) = ⊥
