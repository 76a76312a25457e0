-- How a text is read as a record: a wire fault comes before anything else.
use Rattle.std.specs.Prelude.{◌≡◌, ℕ, List, ◌∷◌, length, nat_le, ◌&&◌, if◌then◌else◌, Option, None, Some, Result, Ok, Err}
use Rattle.proto_wire.specs.declared.fault.WireFault.{WireFault}
use Rattle.proto_wire.specs.Field.{FieldText, fields_of}
use Rattle.proto_wire.specs.Taken.{last_number, messages_at}
use Rattle.name_core.specs.declared.change.Change.{Change}
use Rattle.name_core.specs.declared.change.Record.{Record}
use Rattle.name_core.specs.Log.{end_of_time}
use Rattle.records.specs.declared.record_fault.RecordFault.{RecordFault}
use Rattle.records.specs.declared.record_fault.RecordFault.TheVariants as faults
use Rattle.records.specs.declared.found.Found.{Found}
use Rattle.records.specs.declared.found.Found.TheVariants.{Changes, OutOfMemory, Nothing}
use Rattle.records.specs.Events.{all_meant_at}

-- What comes next, or the fault of the wire.
abbrev pub or_wire : {X Y : Type 0} → Result X WireFault → (X → Result Y RecordFault) → Result Y RecordFault
or_wire (Ok x) next = next x
or_wire (Err fault) next = Err (faults.Wire fault)

-- A record has a change, and a time of 1 to 2^63 - 1.
abbrev pub record_with : ℕ → List Change → Result Record RecordFault
record_with time changes =
    if nat_le 1 (length changes) && nat_le 1 time && nat_le time end_of_time then Ok (record { time = time; changes = changes })
    else Err faults.BadRecord

-- The record of a time and of changes, where each event means some.
abbrev pub record_if : ℕ → Option (List Change) → Result Record RecordFault
record_if time None = Err faults.BadRecord
record_if time (Some changes) = record_with time changes

-- The record of a time and of the events of these fields.
abbrev pub record_with_events : ℕ → List FieldText → Result Record RecordFault
record_with_events time fields = or_wire (all_meant_at (messages_at 2 fields)) (record_if time)

-- The record of a text, or its first fault.
abbrev pub record_of : List ℕ → Result Record RecordFault
record_of text = or_wire (fields_of text) (λ fields. record_with_events (last_number 1 fields) fields)

-- An answer is what the text is read as. Memory runs out only where the text is read as something.
abbrev pub ReadsRecord : {X : Type 0} → Result X RecordFault → Result X RecordFault → Type 0
ReadsRecord read (Ok x) = read ≡ Ok x
ReadsRecord read (Err (faults.Wire fault)) = read ≡ Err (faults.Wire fault)
ReadsRecord read (Err faults.BadRecord) = read ≡ Err faults.BadRecord
ReadsRecord {X} read (Err faults.Memory) = (x : X) × (read ≡ Ok x)

-- What was found of events is all of their changes. Memory runs out only where there is one.
abbrev pub Collects : Option (List Change) → Found → Type 0
Collects all (Changes changes) = all ≡ Some changes.items
Collects all OutOfMemory = (first : Change) × (more : List Change) × (all ≡ Some (first ∷ more))
Collects all Nothing = all ≡ None
