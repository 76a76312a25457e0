-- The filer's half of the world: its log, at most one record that is on its way there, and the records that were
-- acknowledged. An event that isn't possible changes nothing.
use Rattle.std.specs.Prelude.{ℕ, Bool, true, false, List, [], ◌∷◌, ◌++◌, Option, None, Some}
use Rattle.weed_base.specs.Files.{Files}
use Rattle.name_core.specs.declared.change.Record.{Record}
use Rattle.name_core.specs.declared.command.Command.{Command}
use Rattle.name_core.specs.Log.{fold, last_time}
use Rattle.name_core.specs.Plan.{Planned, Recorded, Nothing, Refused, plan_of}
use Rattle.meta_log.specs.Kept.{IsRecordLog}

-- Where the filer stands.
pub record FilerWorld : Type 0 where
  pub log : List Record
  pub pending : Option Record
  pub acknowledged : List Record

-- It starts with nothing.
abbrev pub first_world : FilerWorld
first_world = record { log = []; pending = None; acknowledged = [] }

-- The record of a plan, if there is one.
abbrev pub record_of_plan : Planned → Option Record
record_of_plan (Recorded made) = Some made
record_of_plan Nothing = None
record_of_plan (Refused refusal) = None

-- What a command at a clock leaves pending over a log where this is pending already.
abbrev pub pending_of : Command → ℕ → List Record → Option Record → Option Record
pending_of command clock log None = record_of_plan (plan_of (fold log) command clock (last_time log))
pending_of command clock log (Some waits) = Some waits

-- A command: where nothing is pending, the record that it makes is.
abbrev pub commanded : Command → ℕ → FilerWorld → FilerWorld
commanded command clock world = record world { pending = pending_of command clock world.log world.pending }

-- Records with the pending one behind them.
abbrev pub with_pending : List Record → Option Record → List Record
with_pending records None = records
with_pending records (Some waits) = records ++ waits ∷ []

-- A publish: the pending record joins the log and is acknowledged.
abbrev pub published : FilerWorld → FilerWorld
published world = record {
  log = with_pending world.log world.pending;
  pending = None;
  acknowledged = with_pending world.acknowledged world.pending;
}

-- The log after a crash, by whether the image has the pending record.
abbrev pub log_after : Bool → FilerWorld → List Record
log_after true world = with_pending world.log world.pending
log_after false world = world.log

-- A crash: the pending record is dropped, or joins the log unacknowledged.
abbrev pub crashed : Bool → FilerWorld → FilerWorld
crashed has world = record { log = log_after has world; pending = None; acknowledged = world.acknowledged }

-- The image is one that a crash may leave: it has the log, or the log with the pending record.
abbrev pub IsCrashImage : FilerWorld → Files → Type 0
IsCrashImage world image = (has : Bool) × IsRecordLog image (crashed has world).log
