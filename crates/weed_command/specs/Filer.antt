-- A filer over a table of names: its log, and the namespace that the log stands for.
use Rattle.std.specs.Prelude.{◌≡◌, ◌≢◌, List, [], ◌∷◌, ◌++◌, Option, IfSome, IsSomeAnd, Result, Ok, Err}
use Rattle.weed_base.specs.Files.{Files}
use Rattle.name_core.specs.declared.change.Record.{Record}
use Rattle.name_core.specs.Log.{fold}
use Rattle.name_core.specs.Plan.{Planned, Recorded, Nothing, Refused}
use Rattle.meta_log.specs.Kept.{HoldsRecords, IsRecordLog}
use Rattle.meta_log.specs.declared.meta_log.MetaLog.{MetaLog}
use Rattle.weed_command.specs.NameTable.{names_of}
use Rattle.weed_command.specs.Settling.{IsOneOf}
use Rattle.weed_command.specs.declared.plain_filer.PlainFiler.{PlainFiler}
use Rattle.weed_command.specs.declared.plain_filer.MakeFault.{MakeFault}
use Rattle.weed_command.specs.declared.plain_filer.MakeFault.TheVariants as fault

-- The log that a filer adds to.
abbrev pub log_of : PlainFiler → MetaLog
log_of filer = filer.log

-- The files hold the filer with these records, and its names are their fold.
pub record IsFiled (files : Files) (filer : PlainFiler) (records : List Record) : Type 0 where
  pub log : HoldsRecords files filer.log records
  pub names : names_of filer.names ≡ fold records

-- The disk, where told, holds the filer with these records.
abbrev pub HoldsFiler : Option Files → PlainFiler → List Record → Type 0
HoldsFiler told filer records = IfSome told (λ files. IsFiled files filer records)

-- The disk is told and holds the filer with these records.
abbrev pub TellsFiler : Option Files → PlainFiler → List Record → Type 0
TellsFiler told filer records = IsSomeAnd told (λ files. IsFiled files filer records)

-- The files were a log of records, and the disk is told and holds the filer with the same.
pub record IsFiledFrom (files : Files) (told : Option Files) (filer : PlainFiler) : Type 0 where
  pub found : (records : List Record) × IsRecordLog files records
  pub holds : (records : List Record) → IsRecordLog files records → TellsFiler told filer records

-- The disk is told, and is a log of the records or of them with more behind.
abbrev pub TellsEither : Option Files → List Record → List Record → Type 0
TellsEither told records more = IsSomeAnd told (IsOneOf records (records ++ more))

-- The records that a plan adds.
abbrev pub added_by : Planned → List Record
added_by (Recorded made) = made ∷ []
added_by Nothing = []
added_by (Refused refusal) = []

-- A plan that isn't refused.
abbrev pub IsAccepted : Planned → Type 0
IsAccepted (Recorded made) = Unit {0}
IsAccepted Nothing = Unit {0}
IsAccepted (Refused refusal) = ⊥

-- What a command leaves of a filer with these records, by its plan. The disk is called for a record alone.
abbrev pub Makes : Planned → List Record → Option Files → PlainFiler → Result (Unit {0}) MakeFault → Type 0
Makes plan records told filer (Ok done) = IsAccepted plan × TellsFiler told filer (records ++ added_by plan)
Makes plan records told filer (Err (fault.Refused refusal)) = (plan ≡ Refused refusal) × TellsFiler told filer records
Makes plan records told filer (Err fault.DiskFault) = (added_by plan ≢ []) × TellsEither told records (added_by plan)
Makes plan records told filer (Err fault.Memory) = TellsFiler told filer records

-- What the same leaves of the images: `Moves` tells of them on the way to a log, and `Tears` where a call failed.
abbrev pub MakesImages : Planned → (List Record → Type 0) → (List Record → Type 0) → List Record → Result (Unit {0}) MakeFault → Type 0
MakesImages plan Moves Tears records (Ok done) = Moves (records ++ added_by plan)
MakesImages plan Moves Tears records (Err (fault.Refused refusal)) = Moves records
MakesImages plan Moves Tears records (Err fault.DiskFault) = Tears (records ++ added_by plan)
MakesImages plan Moves Tears records (Err fault.Memory) = Moves records
