-- What a command leaves of a filer's state and of its disk, by its plan and its answer.
use Rattle.std.specs.Prelude.{◌≡◌, ◌⊎◌, ℕ, List, [], ◌∷◌, ◌++◌, Option, Some, None, IsSomeAnd}
use Rattle.std.specs.Option.{option_map}
use Rattle.std.specs.declared.result.Result.{Result}
use Rattle.std.specs.declared.result.Result.TheVariants.{Ok, Err}
use Rattle.weed_base.specs.Files.{Files}
use Rattle.weed_base.specs.DiskCalls.{Acts}
use Rattle.weed_base.specs.declared.disk.Disk.{Ghosts as DiskGhosts}
use Rattle.log_buffer.specs.declared.outlet.Outlet.{Ghosts}
use Rattle.name_core.specs.declared.change.Record.{Record}
use Rattle.name_core.specs.Namespace.{Namespace}
use Rattle.name_core.specs.Log.{after_record}
use Rattle.meta_log.specs.Images.{ImagesHoldRecords}
use Rattle.meta_log.specs.Kept.{front_of, HoldsRecords, IsEitherLog}
use Rattle.meta_log.specs.Records.{ReadsAs}
use Rattle.filer.specs.Plans.{Planned, receipt_of, receipt_of_none, front_behind}
use Rattle.filer.specs.State.{IsFiled, StaysPublished}
use Rattle.filer.specs.declared.fault.ApplyFault.{ApplyFault}
use Rattle.filer.specs.declared.fault.ApplyFault.TheVariants as fault
use Rattle.filer.specs.declared.receipt.Receipt.{Receipt}
use Rattle.filer.specs.declared.state.FilerState.{FilerState}

module _ {K O S D : Type 0} {o : Ghosts O S} (disk : DiskGhosts D) (map : K → Option Namespace) where
  -- Nothing was done: log, namespace and published list are as before, and the disk wasn't called.
  pub record Rests (old new : FilerState K O S o) (before now : D) : Type 0 where
    pub disk_is : now ≡ before
    pub log : new.log ≡ old.log
    pub names : map new.keeper ≡ map old.keeper
    pub published : StaysPublished old new

  -- A crash at any moment leaves the log, or the log with this record.
  abbrev pub LeavesEither : Record → FilerState K O S o → D → D → Type 0
  LeavesEither made old before now = (files : Files) (records : List Record) → disk.files before ≡ Some files → HoldsRecords files old.log records
      → ImagesHoldRecords (disk.images before) records → Acts disk before now (IsEitherLog records made)

  -- By now each image has the record.
  abbrev pub IsSettled : Record → FilerState K O S o → D → D → Type 0
  IsSettled made old before now = (files : Files) (records : List Record) → disk.files before ≡ Some files → HoldsRecords files old.log records
      → ImagesHoldRecords (disk.images now) (records ++ made ∷ [])

  -- The record was appended, its changes were made, and its text was published.
  pub record Publishes (made : Record) (old new : FilerState K O S o) (before now : D) : Type 0 where
    pub filed : (files : Files) (records : List Record) → disk.files before ≡ Some files → IsFiled map files old records
        → IsSomeAnd (disk.files now) (λ later. IsFiled map later new (records ++ made ∷ []))
    pub crash : LeavesEither made old before now
    pub settled : IsSettled made old before now
    pub names : map new.keeper ≡ option_map (after_record made) (map old.keeper)
    pub list : (list : List (List ℕ)) → o.StandsFor old.outlet list → (text : List ℕ) × ReadsAs text made × o.StandsFor new.outlet (list ++ text ∷ [])
    pub front : new.published ≡ front_behind made old.published
    pub level : front_of new.log ≡ new.published

  -- The record was appended, but the keeper failed to make its changes: nothing more was published.
  pub record Strands (made : Record) (old new : FilerState K O S o) (before now : D) : Type 0 where
    pub log : (files : Files) (records : List Record) → disk.files before ≡ Some files → HoldsRecords files old.log records
        → IsSomeAnd (disk.files now) (λ later. HoldsRecords later new.log (records ++ made ∷ []))
    pub crash : LeavesEither made old before now
    pub settled : IsSettled made old before now
    pub published : StaysPublished old new

  -- The append failed: the log has the record or hasn't, and nothing more was published.
  pub record Tears (made : Record) (old new : FilerState K O S o) (before now : D) : Type 0 where
    pub log : (files : Files) (records : List Record) → disk.files before ≡ Some files → HoldsRecords files old.log records
        → IsSomeAnd (disk.files now) (IsEitherLog records made)
    pub crash : LeavesEither made old before now
    pub names : map new.keeper ≡ map old.keeper
    pub published : StaysPublished old new

  -- What adding a record leaves, by its answer.
  abbrev pub Adds : Record → FilerState K O S o → FilerState K O S o → D → D → Result Receipt ApplyFault → Type 0
  Adds made old new before now (Ok receipt) = (receipt ≡ receipt_of made old.published) × Publishes made old new before now
  Adds made old new before now (Err (fault.Refused refusal)) = ⊥
  Adds made old new before now (Err fault.KeeperFault) = Rests old new before now ⊎ Strands made old new before now
  Adds made old new before now (Err (fault.Broken tick)) = ⊥
  Adds made old new before now (Err fault.Memory) = Rests old new before now
  Adds made old new before now (Err fault.DiskFault) = Tears made old new before now

  -- What a command of this plan leaves, by its answer.
  abbrev pub Applies : Planned → FilerState K O S o → FilerState K O S o → D → D → Result Receipt ApplyFault → Type 0
  Applies plan old new before now (Ok receipt) =
      ((plan ≡ Ok None) × (receipt ≡ receipt_of_none old.published) × Rests old new before now)
      ⊎ ((made : Record) × (plan ≡ Ok (Some made)) × (receipt ≡ receipt_of made old.published) × Publishes made old new before now)
  Applies plan old new before now (Err (fault.Refused refusal)) = (plan ≡ Err refusal) × Rests old new before now
  Applies plan old new before now (Err fault.KeeperFault) =
      Rests old new before now ⊎ ((made : Record) × (plan ≡ Ok (Some made)) × Strands made old new before now)
  Applies plan old new before now (Err (fault.Broken tick)) = ⊥
  Applies plan old new before now (Err fault.Memory) = Rests old new before now
  Applies plan old new before now (Err fault.DiskFault) = (made : Record) × (plan ≡ Ok (Some made)) × Tears made old new before now

-- An answer after which a filer isn't broken, where it wasn't.
abbrev pub IsWhole : Result Receipt ApplyFault → Type 0
IsWhole (Ok receipt) = Unit {0}
IsWhole (Err (fault.Refused refusal)) = Unit {0}
IsWhole (Err fault.KeeperFault) = ⊥
IsWhole (Err (fault.Broken tick)) = ⊥
IsWhole (Err fault.Memory) = Unit {0}
IsWhole (Err fault.DiskFault) = ⊥
