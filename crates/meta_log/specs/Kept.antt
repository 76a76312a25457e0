-- A log of records that was opened, its disk, and the records that they stand for.
use Rattle.std.specs.Prelude.{◌≡◌, ℕ, ◌≤◌, ◌<◌, ◌⊎◌, ◌+◌, List, [], ◌∷◌, ◌++◌, length, All, Option, IfSome}
use Rattle.weed_base.specs.Files.{Files}
use Rattle.name_core.specs.declared.change.Record.{Record}
use Rattle.name_core.specs.Log.{TimesRise}
use Rattle.meta_log.specs.LogText.{HasDamage, IsLogText}
use Rattle.meta_log.specs.Held.{HoldsPayloads}
use Rattle.meta_log.specs.Segment.{items}
use Rattle.meta_log.specs.Left.{batch, StandFrom, BreaksAt, FillsOrEnds}
use Rattle.meta_log.specs.Skip.{PassesTo, StopsAt, NoRecordAt}
use Rattle.meta_log.specs.Records.{front_of_records, ReadAs, AreRecords}
use Rattle.meta_log.specs.declared.stem.Stem.TheVariants.{Log}
use Rattle.meta_log.specs.declared.meta_log.MetaLog.{MetaLog}
use Rattle.meta_log.specs.declared.front.Front.{Front}

-- The files are a log text for texts of these records, whose times rise.
pub record IsRecordLog (files : Files) (records : List Record) : Type 0 where
  pub payloads : List (List ℕ)
  pub text : IsLogText Log files payloads
  pub read : ReadAs payloads records
  pub times : TimesRise 0 records

-- The disk, where told, is so.
abbrev pub TellsRecordLog : Option Files → List Record → Type 0
TellsRecordLog told records = IfSome told (λ files. IsRecordLog files records)

-- The files are no log of records, and this file and place are the first to blame.
abbrev pub IsRecordDamage : Files → List ℕ → ℕ → Type 0
IsRecordDamage files name at = HasDamage AreRecords Log files name at

-- How many records the log has, and the time of the last.
abbrev pub front_of : MetaLog → Front
front_of meta = meta.front

-- The files hold the log with these records.
pub record HoldsRecords (files : Files) (meta : MetaLog) (records : List Record) : Type 0 where
  pub payloads : List (List ℕ)
  pub held : HoldsPayloads files meta.log payloads
  pub read : ReadAs payloads records
  pub times : TimesRise 0 records
  pub front : front_of meta ≡ front_of_records records

-- The disk, where told, holds the log with these records.
abbrev pub TellsRecords : Option Files → MetaLog → List Record → Type 0
TellsRecords told meta records = IfSome told (λ files. HoldsRecords files meta records)

-- The disk holds the log, with some records.
abbrev pub HoldsMetaLog : Option Files → MetaLog → Type 0
HoldsMetaLog told meta = (records : List Record) × TellsRecords told meta records

-- The disk, where told, was a log of records, and it holds this log with the same.
pub record IsOpenedFrom (old new : Option Files) (meta : MetaLog) : Type 0 where
  pub text : IfSome old (λ files. (records : List Record) × IsRecordLog files records)
  pub holds : (records : List Record) → TellsRecordLog old records → TellsRecords new meta records

-- The files are a log of the records or of them with one record more.
abbrev pub IsEitherLog : List Record → Record → Files → Type 0
IsEitherLog records more files = IsRecordLog files records ⊎ IsRecordLog files (records ++ more ∷ [])

-- The disk, where told, is so.
abbrev pub TellsEitherLog : Option Files → List Record → Record → Type 0
TellsEitherLog told records more = IfSome told (IsEitherLog records more)

-- These are texts of the log's records past a time: at most so many, and no more once they reach 67,108,864 bytes.
abbrev pub IsPast : Option Files → MetaLog → ℕ → ℕ → List (List ℕ) → Type 0
IsPast told meta after room texts =
    IfSome told (λ files. (before past : List (List ℕ)) (old new : List Record) → HoldsPayloads files meta.log (before ++ past)
    → ReadAs before old → ReadAs past new → All (λ r. r.time ≤ after) old → All (λ r. after < r.time) new
    → texts ≡ batch room past)

-- Texts of records up to the time stand at the front of any bytes; behind them the first that is past it, or the
-- gate; and from there on these texts, which are a whole batch.
pub record ReadsAfter (bytes : List ℕ) (gate after room : ℕ) (texts : List (List ℕ)) : Type 0 where
  pub at : ℕ
  pub passed : PassesTo bytes gate after 0 at
  pub stops : StopsAt bytes gate after at
  pub stand : StandFrom bytes gate at texts
  pub few : batch room texts ≡ texts
  pub whole : FillsOrEnds room 67108864 gate (at + length (items texts)) texts

-- Behind those up to the time no text of a record stands at this place, or behind further texts, which aren't a
-- whole batch, no item.
abbrev pub BreaksAfter : List ℕ → ℕ → ℕ → ℕ → ℕ → Type 0
BreaksAfter bytes gate after room at =
    (PassesTo bytes gate after 0 at × (at < gate) × NoRecordAt bytes at)
    ⊎ ((from : ℕ) × PassesTo bytes gate after 0 from × StopsAt bytes gate after from × BreaksAt bytes gate room 67108864 from at)
