-- What a session and its outside tell between two requests.
use Rattle.std.specs.Prelude.{◌≡◌, ℕ, ◌<◌, Bool, true, false, List, length, Option, Some, ⊤}
use Rattle.weed_base.specs.Told.{Appends}
use Rattle.weed_base.specs.Files.{Files}
use Rattle.weed_command.specs.Written.{AppendsFront}
use Rattle.weed_command.specs.Inbox.{left_of}
use Rattle.weed_command.specs.Filer.{TellsFiler}
use Rattle.name_core.specs.declared.change.Record.{Record}
use Rattle.weed_command.specs.Session.{State, Turn, Turns, Requests, EndsAfter, LeadsTo, Stands, last_of, most_turns}
use Rattle.weed_command.specs.declared.exit.Exit.{Exit}
use Rattle.weed_command.specs.declared.exit.Exit.TheVariants as exit
use Rattle.weed_command.specs.declared.session.Session.{Session}
use Rattle.weed_command.specs.declared.session.Turned.{Turned}
use Rattle.weed_command.specs.declared.session.Turned.TheVariants.{Open, Ended}

-- The outside is told, and the session and it have this of a state.
pub record Tells (left sent : Option (List ℕ)) (files : Option Files) (moments : Option (List ℕ)) (session : Session) (state : State) : Type 0 where
  pub left_is : left_of session.inbox.pending left ≡ Some state.left
  pub sent_is : sent ≡ Some state.sent
  pub filer : TellsFiler files session.filer state.log
  pub moments_are : moments ≡ Some state.moments

-- The same where a request for the inbox's target was just taken from the front of the input.
pub record Asking (old : State) (rest : List ℕ) (left sent : Option (List ℕ)) (files : Option Files) (moments : Option (List ℕ)) (session : Session) : Type 0 where
  pub asked : Requests old.left session.inbox.target rest
  pub left_is : left_of session.inbox.pending left ≡ Some rest
  pub sent_is : sent ≡ Some old.sent
  pub filer : TellsFiler files session.filer old.log
  pub moments_are : moments ≡ Some old.moments

-- An answer was sent, and the session goes on or ends by whether it closes; or a front of it was sent.
abbrev pub Sends : List ℕ → Bool → Option (List ℕ) → Option (List ℕ) → Turned → Type 0
Sends answer closes old new Open = Appends old new answer × (closes ≡ false)
Sends answer closes old new (Ended exit.Done) = Appends old new answer × (closes ≡ true)
Sends answer closes old new (Ended exit.WriteFault) = AppendsFront old new answer
Sends answer closes old new (Ended exit.ReadFault) = ⊥
Sends answer closes old new (Ended exit.DiskFault) = ⊥
Sends answer closes old new (Ended (exit.BadWords place)) = ⊥
Sends answer closes old new (Ended (exit.Damaged file at)) = ⊥
Sends answer closes old new (Ended exit.Memory) = ⊥
Sends answer closes old new (Ended exit.TurnsSpent) = ⊥

-- From a state a turn led to another one, or the session ended as it says. `Moves` tells what came of the disk on
-- the way to a log, and `Tears` what came of it where a call failed; `Cut` says that a send failed.
abbrev pub Leads : (Cut : Type 0) → State → (List Record → Type 0) → (List Record → Type 0) → Option (List ℕ) → Option (List ℕ) → Option Files → Option (List ℕ) → Session → Turned → Type 0
Leads Cut old Moves Tears left sent files moments session Open =
    (new : State) × Tells left sent files moments session new × Turn old new × Moves new.log
Leads Cut old Moves Tears left sent files moments session (Ended exit.DiskFault) =
    (last : State) × Stands left sent files moments last × EndsAfter Cut exit.DiskFault old last
    × ((log : List Record) × LeadsTo exit.DiskFault old last log × Tears log)
Leads Cut old Moves Tears left sent files moments session (Ended end) =
    (last : State) × Stands left sent files moments last × EndsAfter Cut end old last × Moves last.log

-- How a run of turns ended: after as many requests as a session answers, or before that. `Cut` says that a send
-- failed.
abbrev pub Ends : (Cut : Type 0) → Exit → State → List State → State → Type 0
Ends Cut exit.TurnsSpent first path last = Turns first path × (length path ≡ most_turns) × (last ≡ last_of first path)
Ends Cut end first path last = Turns first path × (length path < most_turns) × EndsAfter Cut end (last_of first path) last

-- The ends that a session has of itself: the log was opened, and the words were good.
abbrev pub IsSessionEnd : Exit → Type 0
IsSessionEnd exit.Done = ⊤
IsSessionEnd exit.ReadFault = ⊤
IsSessionEnd exit.WriteFault = ⊤
IsSessionEnd exit.DiskFault = ⊤
IsSessionEnd exit.TurnsSpent = ⊤
IsSessionEnd exit.Memory = ⊥
IsSessionEnd (exit.BadWords place) = ⊥
IsSessionEnd (exit.Damaged file at) = ⊥

-- A turn leaves the session open, or ends it so.
abbrev pub IsTurnEnd : Turned → Type 0
IsTurnEnd Open = ⊤
IsTurnEnd (Ended end) = IsSessionEnd end
