-- Records that are skipped by their time.
use Rattle.std.specs.Prelude.{◌≡◌, ℕ, ◌+◌, ◌≤◌, ◌<◌, ◌⊎◌, Bool, List, ◌++◌, length, take, drop, All, MatchBool}
use Rattle.name_core.specs.declared.change.Record.{Record}
use Rattle.meta_log.specs.Segment.{items}
use Rattle.meta_log.specs.Left.{IsLeft, StandsAt, StandFrom}
use Rattle.meta_log.specs.Records.{ReadsAs, ReadAs, IsNoRecord}
use Rattle.meta_log.specs.Stretch.{Stretch}

-- What is left are records up to that time, and behind them these payloads.
pub record IsAhead (bytes : List ℕ) (gate after at : ℕ) (past : List (List ℕ)) : Type 0 where
  pub payloads : List (List ℕ)
  pub records : List Record
  pub here : IsLeft bytes gate at (payloads ++ past)
  pub read : ReadAs payloads records
  pub early : All (λ r. r.time ≤ after) records

-- The payloads read as records past that time.
abbrev pub AreLate : ℕ → List (List ℕ) → Type 0
AreLate after past = (records : List Record) × ReadAs past records × All (λ r. after < r.time) records

-- One of the records up to the time was skipped, or those past it are left.
abbrev pub SkipsOne : List ℕ → ℕ → ℕ → ℕ → ℕ → Bool → Type 0
SkipsOne bytes gate after at later skipped =
    (past : List (List ℕ)) → IsAhead bytes gate after at past → AreLate after past
    → MatchBool skipped (IsAhead bytes gate after later past) (IsLeft bytes gate later past)

-- The records up to the time were skipped, and those past it are left.
abbrev pub SkipsTo : List ℕ → ℕ → ℕ → ℕ → ℕ → Type 0
SkipsTo bytes gate after at later =
    (past : List (List ℕ)) → IsAhead bytes gate after at past → AreLate after past → IsLeft bytes gate later past

-- What is left aren't records up to the time and behind them records past it.
abbrev pub NoneAhead : List ℕ → ℕ → ℕ → ℕ → Type 0
NoneAhead bytes gate after at = (past : List (List ℕ)) → IsAhead bytes gate after at past → ¬ AreLate after past

-- So many bytes as an item has were passed over, and a text of its length reads as a record up to the time.
pub record PassesEarly (after : ℕ) (old new : Stretch) : Type 0 where
  pub held : List ℕ
  pub size : ℕ
  pub known : Record
  pub whole : 5 + size ≤ length held
  pub reads : ReadsAs (take size (drop 5 held)) known
  pub early : known.time ≤ after
  pub place : new.at ≡ old.at + (5 + size)
  pub behind : new.held ≡ drop (5 + size) held

-- Behind five bytes these hold the text of a record past the time.
abbrev pub HoldsLate : ℕ → List ℕ → Type 0
HoldsLate after held = (size : ℕ) × (known : Record) × (5 + size ≤ length held) × ReadsAs (take size (drop 5 held)) known × (after < known.time)

-- The gate is reached, or a record past the time stands there.
abbrev pub EndsOrHoldsLate : ℕ → ℕ → ℕ → List ℕ → Type 0
EndsOrHoldsLate gate after at held = (gate ≤ at) ⊎ HoldsLate after held

-- From one place up to another stand texts of records up to that time, each before the gate.
pub record PassesTo (bytes : List ℕ) (gate after from at : ℕ) : Type 0 where
  pub texts : List (List ℕ)
  pub records : List Record
  pub stand : StandFrom bytes gate from texts
  pub read : ReadAs texts records
  pub early : All (λ r. r.time ≤ after) records
  pub place : at ≡ from + length (items texts)

-- The gate is reached, or the text of a record past the time stands there.
abbrev pub StopsAt : List ℕ → ℕ → ℕ → ℕ → Type 0
StopsAt bytes gate after at =
    (gate ≤ at) ⊎ ((text : List ℕ) × (known : Record) × StandsAt bytes at text × ReadsAs text known × (after < known.time))

-- No text of a record stands there.
abbrev pub NoRecordAt : List ℕ → ℕ → Type 0
NoRecordAt bytes at = (text : List ℕ) → StandsAt bytes at text → IsNoRecord text
