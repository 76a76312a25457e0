-- The records of a log, taken one by one into names.
use Rattle.std.specs.Prelude.{◌≡◌, ◌≤◌, ◌<◌, ◌+◌, ◌-◌, ◌⊎◌, ℕ, List, length, Option, IfSome}
use Rattle.weed_base.specs.Files.{Files}
use Rattle.name_core.specs.declared.change.Record.{Record}
use Rattle.name_core.specs.Namespace.{Namespace, after_changes}
use Rattle.name_core.specs.Log.{changes_of, fold}
use Rattle.meta_log.specs.Segment.{items}
use Rattle.meta_log.specs.Left.{StandFrom, NoItemAt}
use Rattle.meta_log.specs.Records.{ReadAs}
use Rattle.meta_log.specs.Kept.{HoldsRecords}
use Rattle.meta_log.specs.RecordPlaces.{LiesBetween}
use Rattle.meta_log.specs.declared.meta_log.MetaLog.{MetaLog}
use Rattle.meta_log.specs.declared.place.Place.{Place}
use Rattle.weed_command.specs.NameTable.{names_of}
use Rattle.weed_command.specs.declared.name_table.NameTable.{NameTable}

-- The texts read as records, whose changes lead from names to others.
pub record Takes (texts : List (List ℕ)) (old new : Namespace) : Type 0 where
  pub records : List Record
  pub read : ReadAs texts records
  pub names : new ≡ after_changes (changes_of records) old

-- Texts of at least so many records were taken into names.
abbrev pub TakesMany : ℕ → Namespace → Namespace → Type 0
TakesMany count old new = (texts : List (List ℕ)) × Takes texts old new × (count ≤ length texts)

-- Not all of the texts read as records.
abbrev pub AreUnreadable : List (List ℕ) → Type 0
AreUnreadable texts = (records : List Record) → ¬ ReadAs texts records

-- The log's records up to the place are taken, and behind it are so many more.
pub record IsTaken (files : Files) (log : MetaLog) (names : NameTable) (place : Place) (left : ℕ) : Type 0 where
  pub taken : List Record
  pub others : List Record
  pub lies : LiesBetween files log place taken others
  pub names_are : names_of names ≡ fold taken
  pub left_is : left ≡ length others

-- Where the disk is told, it is so.
abbrev pub HoldsTaken : Option Files → MetaLog → NameTable → Place → ℕ → Type 0
HoldsTaken told log names place left = IfSome told (λ files. IsTaken files log names place left)

-- Where it is told, all records are taken.
abbrev pub HoldsNames : Option Files → MetaLog → NameTable → Type 0
HoldsNames told log names = IfSome told (λ files. (records : List Record) → HoldsRecords files log records → names_of names ≡ fold records)

-- From one place of any bytes up to another stand texts, each before the gate, that were taken into names; of those
-- that were to be taken so many are left.
pub record TakesFrom (bytes : List ℕ) (gate from at left less : ℕ) (old new : Namespace) : Type 0 where
  pub texts : List (List ℕ)
  pub stand : StandFrom bytes gate from texts
  pub takes : Takes texts old new
  pub place : at ≡ from + length (items texts)
  pub left_is : less ≡ left - length texts

-- Why a place is to blame behind these texts: no item stands there. Or it is 0, and they don't all read as records, or
-- they reach the gate and are too few.
abbrev pub BlamesBehind : List ℕ → ℕ → ℕ → ℕ → ℕ → List (List ℕ) → Type 0
BlamesBehind bytes gate from at left texts =
    ((at ≡ from + length (items texts)) × (at < gate) × NoItemAt bytes at)
    ⊎ ((at ≡ 0) × (AreUnreadable texts ⊎ ((gate ≤ from + length (items texts)) × (length texts < left))))

-- From a place on texts stand, each before the gate, and behind them this place is to blame.
abbrev pub IsToBlame : List ℕ → ℕ → ℕ → ℕ → ℕ → Type 0
IsToBlame bytes gate from at left = (texts : List (List ℕ)) × StandFrom bytes gate from texts × BlamesBehind bytes gate from at left texts
