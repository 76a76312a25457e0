-- Records of a log that are taken into a keeper's names, in their order.
use Rattle.std.specs.Prelude.{◌≡◌, ℕ, List, ◌++◌, length, Option, IfSome}
use Rattle.std.specs.Option.{option_map}
use Rattle.weed_base.specs.Files.{Files}
use Rattle.name_core.specs.declared.change.Record.{Record}
use Rattle.name_core.specs.Namespace.{Namespace, after_changes}
use Rattle.name_core.specs.Log.{changes_of, fold}
use Rattle.meta_log.specs.Records.{ReadAs}
use Rattle.meta_log.specs.Kept.{HoldsRecords}
use Rattle.meta_log.specs.RecordPlaces.{LiesBetween}
use Rattle.meta_log.specs.declared.meta_log.MetaLog.{MetaLog}
use Rattle.meta_log.specs.declared.place.Place.{Place}

-- The texts read as records, whose changes lead from names, where told, to others.
pub record Takes (texts : List (List ℕ)) (old new : Option Namespace) : Type 0 where
  pub records : List Record
  pub read : ReadAs texts records
  pub names : new ≡ option_map (after_changes (changes_of records)) old

-- Texts of so many records were taken into names.
abbrev pub TakesMany : ℕ → Option Namespace → Option Namespace → Type 0
TakesMany count old new = (texts : List (List ℕ)) × Takes texts old new × (length texts ≡ count)

-- Not all of the texts read as records.
abbrev pub AreUnreadable : List (List ℕ) → Type 0
AreUnreadable texts = (records : List Record) → ¬ ReadAs texts records

-- The names, where told, are those of these records.
abbrev pub AreNamesOf : List Record → Option Namespace → Type 0
AreNamesOf records told = IfSome told (λ names. names ≡ fold records)

-- The log's records up to the place are taken, and behind it are so many more.
pub record IsTaken (files : Files) (log : MetaLog) (names : Option Namespace) (place : Place) (left : ℕ) : Type 0 where
  pub taken : List Record
  pub others : List Record
  pub lies : LiesBetween files log place taken others
  pub names_are : AreNamesOf taken names
  pub left_is : left ≡ length others

-- Where the disk is told, it is so.
abbrev pub HoldsTaken : Option Files → MetaLog → Option Namespace → Place → ℕ → Type 0
HoldsTaken told log names place left = IfSome told (λ files. IsTaken files log names place left)

-- All of the log's records are taken, and these are the last of its texts.
pub record IsAllTaken (files : Files) (log : MetaLog) (names : Option Namespace) (tail : List (List ℕ)) (records : List Record) : Type 0 where
  pub kept : HoldsRecords files log records
  pub names_are : AreNamesOf records names
  pub ahead : List (List ℕ)
  pub split : kept.payloads ≡ ahead ++ tail

-- Where the disk is told, it is so, whatever records the log has.
abbrev pub HoldsAllTaken : Option Files → MetaLog → Option Namespace → List (List ℕ) → Type 0
HoldsAllTaken told log names tail = IfSome told (λ files. (records : List Record) → HoldsRecords files log records → IsAllTaken files log names tail records)
