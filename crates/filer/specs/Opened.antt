-- What an opening makes of a disk, a keeper and a seed.
use Rattle.std.specs.Prelude.{◌≡◌, ℕ, List, Option, Some, IfSome, IsSomeAnd, ⊤}
use Rattle.std.specs.declared.result.Result.{Result}
use Rattle.std.specs.declared.result.Result.TheVariants.{Ok, Err}
use Rattle.weed_base.specs.Files.{Files, BothTold}
use Rattle.weed_base.specs.DiskCalls.{Acts}
use Rattle.weed_base.specs.declared.disk.Disk.{Ghosts as DiskGhosts}
use Rattle.log_buffer.specs.declared.outlet.Outlet.{Ghosts}
use Rattle.name_core.specs.declared.change.Record.{Record}
use Rattle.name_core.specs.Namespace.{Namespace}
use Rattle.meta_log.specs.Images.{HasLogOf, ImagesHoldRecords, IsMadeFrom, IsOwn}
use Rattle.meta_log.specs.Kept.{HoldsRecords, IsRecordDamage, IsRecordLog, TellsRecordLog}
use Rattle.meta_log.specs.LogText.{IsBlamable}
use Rattle.meta_log.specs.Making.{LeavesOthers}
use Rattle.meta_log.specs.declared.meta_log.MetaLog.{MetaLog}
use Rattle.meta_log.specs.declared.stem.Stem.TheVariants.{Log}
use Rattle.filer.specs.Taken.{AreNamesOf}
use Rattle.filer.specs.State.{keeper_of}
use Rattle.filer.specs.Filer.{state_of}
use Rattle.filer.specs.declared.fault.LookFault.{LookFault}
use Rattle.filer.specs.declared.fault.LookFault.TheVariants as look
use Rattle.filer.specs.declared.filer.Filer.{Filer}

-- What it leaves of a disk, whatever is answered. The records that the disk holds stay. Where any segment counts,
-- nothing is changed, and never a file but the first segment's two. A crash at any moment leaves the records of an image
-- that was there before.
pub record LeavesLogs {D : Type 0} (disk : DiskGhosts D) (before now : D) : Type 0 where
  pub kept : (records : List Record) → TellsRecordLog (disk.files before) records → TellsRecordLog (disk.files now) records
  pub made : BothTold (IsMadeFrom Log) (disk.files before) (disk.files now)
  pub others : BothTold (LeavesOthers Log) (disk.files before) (disk.files now)
  pub atomic : (files : Files) → disk.files before ≡ Some files → Acts disk before now (HasLogOf (disk.images before))

-- The files were a log of records. The disk is told, and it holds what was opened with the same records; so has each image
-- of it.
pub record IsOpenedOver {D : Type 0} (disk : DiskGhosts D) (Holds : Files → List Record → Type 0) (now : D) (files : Files) : Type 0 where
  pub found : (records : List Record) × IsRecordLog files records
  pub holds : (records : List Record) → IsRecordLog files records → IsSomeAnd (disk.files now) (λ later. Holds later records)
  pub settled : (records : List Record) → IsRecordLog files records → ImagesHoldRecords (disk.images now) records

-- Where the disk was told, it is so; and it holds it, where told, with some records.
pub record Opens {D : Type 0} (disk : DiskGhosts D) (Holds : Files → List Record → Type 0) (before now : D) : Type 0 where
  pub over : IfSome (disk.files before) (IsOpenedOver disk Holds now)
  pub held : (records : List Record) × IfSome (disk.files now) (λ later. Holds later records)

-- The files hold the log with these records, the names, where told, are their fold, and the list is that of their texts.
pub record IsBegun (names : Option Namespace) (Stands : List (List ℕ) → Type 0) (log : MetaLog) (files : Files) (records : List Record) : Type 0 where
  pub kept : HoldsRecords files log records
  pub names_are : AreNamesOf records names
  pub list : Stands kept.payloads

-- This file and place are the first to blame, and nothing was changed. A disk of one's own has no damage.
pub record IsBlamed {D : Type 0} (disk : DiskGhosts D) (before now : D) (file : List ℕ) (at : ℕ) : Type 0 where
  pub blamable : IsBlamable Log file
  pub damage : IfSome (disk.files before) (λ files. IsRecordDamage files file at)
  pub same : disk.files now ≡ disk.files before
  pub foreign : (files : Files) → disk.files before ≡ Some files → ¬ IsOwn (disk.images before)

-- A fault of an opening: no filer was broken yet.
abbrev pub IsOfOpening : LookFault → Type 0
IsOfOpening look.DiskFault = ⊤
IsOfOpening look.KeeperFault = ⊤
IsOfOpening (look.Damaged file at) = ⊤
IsOfOpening (look.Broken tick) = ⊥
IsOfOpening look.Memory = ⊤

-- A fault of taking records, for which no disk is called.
abbrev pub IsOfTaking : LookFault → Type 0
IsOfTaking look.DiskFault = ⊥
IsOfTaking look.KeeperFault = ⊤
IsOfTaking (look.Damaged file at) = ⊤
IsOfTaking (look.Broken tick) = ⊥
IsOfTaking look.Memory = ⊤

module _ {K O S : Type 0} {o : Ghosts O S} where
  -- The keeper after an opening: the filer's, or the one that is handed back.
  abbrev pub keeper_after : Result (Filer K O S o) (LookFault × K) → K
  keeper_after (Ok filer) = keeper_of (state_of filer)
  keeper_after (Err (fault, keeper)) = keeper

  -- It was refused with this fault.
  abbrev pub IsRefusedBy : LookFault → Result (Filer K O S o) (LookFault × K) → Type 0
  IsRefusedBy fault (Ok filer) = ⊥
  IsRefusedBy fault (Err (found, keeper)) = found ≡ fault
