-- Payloads that are texts of records.
use Rattle.std.specs.Prelude.{◌≡◌, ℕ, List, length}
use Rattle.std.specs.List.{AllZip}
use Rattle.std.specs.declared.result.Result.TheVariants.{Ok}
use Rattle.name_core.specs.declared.change.Record.{Record}
use Rattle.name_core.specs.Log.{TimesRise, last_time}
use Rattle.meta_log.specs.declared.front.Front.{Front}
use Rattle.records.specs.RecordReading.{record_of}

-- The payload reads as the record.
abbrev pub ReadsAs : List ℕ → Record → Type 0
ReadsAs payload known = record_of payload ≡ Ok known

-- The payload reads as one.
abbrev pub IsRecord : List ℕ → Type 0
IsRecord payload = (known : Record) × ReadsAs payload known

-- The payload reads as none.
abbrev pub IsNoRecord : List ℕ → Type 0
IsNoRecord payload = (known : Record) → ¬ ReadsAs payload known

-- The payloads read as the records, one for one.
abbrev pub ReadAs : List (List ℕ) → List Record → Type 0
ReadAs payloads records = AllZip ReadsAs payloads records

-- The payloads read as records whose times rise.
abbrev pub AreRecords : List (List ℕ) → Type 0
AreRecords payloads = (records : List Record) × ReadAs payloads records × TimesRise 0 records

-- The front of a log of these records.
abbrev pub front_of_records : List Record → Front
front_of_records records = record { count = length records; time = last_time records }

-- The payloads read as records whose times rise, and this is their front.
abbrev pub HasFront : Front → List (List ℕ) → Type 0
HasFront front payloads =
    (records : List Record) × ReadAs payloads records × TimesRise 0 records × (front ≡ front_of_records records)
