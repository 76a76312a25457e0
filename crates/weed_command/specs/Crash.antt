-- What a crash leaves of a run: what its disk may be afterwards.
use Rattle.std.specs.Prelude.{◌≡◌, ◌≢◌, ◌⊎◌, ℕ, List, [], ◌∷◌, ◌++◌, length, Option}
use Rattle.weed_base.specs.Files.{Files}
use Rattle.weed_base.specs.Images.{LeavesOnly}
use Rattle.weed_base.specs.Sent.{Piece}
use Rattle.name_core.specs.declared.change.Record.{Record}
use Rattle.name_core.specs.Log.{IsSound}
use Rattle.meta_log.specs.Kept.{IsRecordLog}
use Rattle.meta_log.specs.Images.{AllNear, IsOwn}
use Rattle.weed_command.specs.Handed.{IsSentAt}
use Rattle.weed_command.specs.Session.{State, Steps, LeadsTo, last_of}
use Rattle.weed_command.specs.declared.exit.Exit.{Exit}
use Rattle.weed_command.specs.declared.exit.Exit.TheVariants as exit

-- The log is that of a state of the path.
abbrev pub IsPassed : State → List State → List Record → Type 0
IsPassed first [] log = log ≡ first.log
IsPassed first (next ∷ later) log = (log ≡ first.log) ⊎ IsPassed next later log

-- The log is that of a state that the run passed, or the one that its last request led to, or was to lead to.
abbrev pub IsOfRun : Exit → State → List State → State → List Record → Type 0
IsOfRun end first path last log = IsPassed first path log ⊎ LeadsTo end (last_of first path) last log

-- The image is a log of records that begin with these.
abbrev pub BeginsWith : List Record → Files → Type 0
BeginsWith log image = (more : List Record) × IsRecordLog image (log ++ more)

-- From the moment on at which the byte at that offset of all that was sent was handed over, each image begins with
-- the log.
abbrev pub KeepsFrom : (ℕ → Files → Type 0) → Option (List Piece) → ℕ → List Record → Type 0
KeepsFrom since sent offset log =
    (moment : ℕ) (image : Files) → IsSentAt sent offset moment → since moment image → BeginsWith log image

-- The first byte of each answer was handed over once the log that it stands on was settled: the whole ones, and the
-- last one, but for that of a fault of the disk.
pub record Acknowledges (since : ℕ → Files → Type 0) (sent : Option (List Piece)) (end : Exit) (first : State) (path : List State) (last : State) : Type 0 where
  pub whole : Steps (λ old new. KeepsFrom since sent (length old.sent) new.log) first path
  pub begun : end ≢ exit.DiskFault → KeepsFrom since sent (length (last_of first path).sent) last.log

-- Where each image was the first log, a session leaves this of crashes.
pub record Withstands {D : Type 0} (tick : D → ℕ) (images : D → Files → Type 0) (since : D → ℕ → Files → Type 0) (sent : D → Option (List Piece)) (old new : D) (end : Exit) (first : State) (path : List State) (last : State) : Type 0 where
  pub leaves : LeavesOnly tick since old new (λ image. (log : List Record) × IsRecordLog image log × IsOfRun end first path last log)
  pub answers : Acknowledges (since new) (sent new) end first path last
  pub near : AllNear (images new)

-- The image is a log of these records, which are sound.
abbrev pub IsSoundLog : Files → List Record → Type 0
IsSoundLog image log = IsRecordLog image log × IsSound log

-- One of the images is a log of these records.
abbrev pub IsAtStart : (Files → Type 0) → List Record → Type 0
IsAtStart images log = (image : Files) × images image × IsRecordLog image log

-- A run survives crashes: each image since its start is a sound log, that of an image at the start or one of the
-- run's; each answer keeps what it stands on; and the disk is one's own again.
pub record Survives {D : Type 0} (tick : D → ℕ) (images : D → Files → Type 0) (since : D → ℕ → Files → Type 0) (sent : D → Option (List Piece)) (old new : D) (end : Exit) (first : State) (path : List State) (last : State) (OfRun : List Record → Type 0) : Type 0 where
  pub crash : (image : Files) → since new (tick old) image → (log : List Record) × IsSoundLog image log × (IsAtStart (images old) log ⊎ OfRun log)
  pub answers : Acknowledges (since new) (sent new) end first path last
  pub again : IsOwn (images new)
