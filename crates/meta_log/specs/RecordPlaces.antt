-- Places in a log of records, and what is read from one on.
use Rattle.std.specs.Prelude.{◌≡◌, ℕ, List, ◌++◌, take, drop, Option, IfSome}
use Rattle.weed_base.specs.Files.{Files}
use Rattle.name_core.specs.declared.change.Record.{Record}
use Rattle.meta_log.specs.Records.{ReadAs}
use Rattle.meta_log.specs.Kept.{HoldsRecords}
use Rattle.meta_log.specs.Places.{place_behind}
use Rattle.meta_log.specs.declared.meta_log.MetaLog.{MetaLog}
use Rattle.meta_log.specs.declared.place.Place.{Place}

-- The files hold the log, and the place lies behind the texts of these first records and before those of the others.
pub record LiesBetween (files : Files) (meta : MetaLog) (place : Place) (first others : List Record) : Type 0 where
  pub kept : HoldsRecords files meta (first ++ others)
  pub before : List (List ℕ)
  pub past : List (List ℕ)
  pub split : kept.payloads ≡ before ++ past
  pub read_before : ReadAs before first
  pub read_past : ReadAs past others
  pub place_is : place ≡ place_behind before

-- The disk, where told, holds the log, and the place lies behind some of its records.
abbrev pub HoldsRecordPlace : Option Files → MetaLog → Place → Type 0
HoldsRecordPlace told meta place =
    (first : List Record) × (others : List Record) × IfSome told (λ files. LiesBetween files meta place first others)

-- These are the texts of the records from the place on, at most so many, and the next place lies behind those.
abbrev pub AreNext : Option Files → MetaLog → Place → ℕ → List (List ℕ) → Place → Type 0
AreNext told meta place room texts next =
    IfSome told (λ files. (first others : List Record) → (lies : LiesBetween files meta place first others)
    → (texts ≡ take room lies.past) × ReadAs texts (take room others)
    × LiesBetween files meta next (first ++ take room others) (drop room others))
