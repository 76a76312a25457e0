-- Plans: the record that a command makes of a namespace, if any.
use Rattle.std.specs.Prelude.{ℕ, ◌≡◌, ◌<◌, ◌≤◌, ◌==◌, nat_lt, List, [], ◌∷◌, length, Option, None, Some, Result, Ok}
use Rattle.entry.specs.Entry.{IsValid}
use Rattle.name_core.specs.declared.change.Change.{Change}
use Rattle.name_core.specs.declared.change.Record.{Record}
use Rattle.name_core.specs.declared.command.Refusal.{Refusal}
use Rattle.name_core.specs.declared.command.Refusal.TheVariants.{TooMany, RecordTooLong, ClockAtEnd}
use Rattle.name_core.specs.Log.{end_of_time}
use Rattle.name_core.specs.Namespace.{Namespace}
use Rattle.name_core.specs.Plan.{directories_at, prefixes, record_time}
use Rattle.name_core.specs.RecordText.{CanBeWritten}
use Rattle.records.specs.RecordText.{record_text}
use Rattle.name_plans.specs.declared.command.Command.{Command}
use Rattle.name_plans.specs.declared.command.Command.TheVariants.{MakeDir, Write, Remove, Move, Place}
use Rattle.name_plans.specs.Refusing.{refuse_if, unless, and_then}
use Rattle.name_plans.specs.Commands.{removal, writing, moving}
use Rattle.name_plans.specs.Placing.{placing}
use Rattle.name_plans.specs.Writing.{IsWrite}

-- What a command keeps to: the pieces of a write follow each other and add up to its length, its media type has at
-- most 255 bytes, and an entry that is placed is valid.
abbrev pub IsCommand : Command → Type 0
IsCommand (MakeDir path) = Unit {0}
IsCommand (Write path at chunks size mime md5) = IsWrite (record { at = at; pieces = chunks; size = size; mime = mime; md5 = md5 })
IsCommand (Remove path recursive) = Unit {0}
IsCommand (Move from to) = Unit {0}
IsCommand (Place path entry) = IsValid entry

-- What a command changes where its record has that time, or its own refusal.
abbrev pub changes_for : Namespace → ℕ → Command → Result (List Change) Refusal
changes_for names time (MakeDir path) = directories_at names time (prefixes path)
changes_for names time (Write path at chunks size mime md5) =
    writing names time path (record { at = at; pieces = chunks; size = size; mime = mime; md5 = md5 })
changes_for names time (Remove path recursive) = removal names path recursive
changes_for names time (Move from to) = moving names time from to
changes_for names time (Place path entry) = placing names time path entry

-- A record, unless it has over 65,536 changes, its text over 67,108,864 bytes, or the log is at the end of time.
abbrev pub within_record : ℕ → Record → Result (Option Record) Refusal
within_record last made = unless
    (refuse_if (nat_lt 65536 (length made.changes)) TooMany
    ∷ refuse_if (nat_lt 67108864 (length (record_text made))) RecordTooLong
    ∷ refuse_if (last == end_of_time) ClockAtEnd
    ∷ [])
    (Some made)

-- Changes that follow a last time make a record; no change makes none, and isn't refused.
abbrev pub recorded : ℕ → ℕ → List Change → Result (Option Record) Refusal
recorded last time [] = Ok None
recorded last time (change ∷ more) = within_record last (record { time = time; changes = change ∷ more })

-- The plan of a command at a clock, over a log whose last time is given.
abbrev pub plan_of : Namespace → Command → ℕ → ℕ → Result (Option Record) Refusal
plan_of names command clock last =
    let time = record_time clock last in and_then (changes_for names time command) (recorded last time)

-- A record that can be handed to a log: it can be written, comes after the last one, and is within its limits.
pub record IsPlanned (last moment : ℕ) (made : Record) : Type 0 where
  pub writable : CanBeWritten made
  pub time : made.time ≡ moment
  pub later : last < made.time
  pub few : length made.changes ≤ 65536
  pub short : length (record_text made) ≤ 67108864
