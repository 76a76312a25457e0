-- How a text is read as an entry, and what it means: its own fields come first, then the messages that it takes.
use Rattle.std.specs.Prelude.{◌≡◌, ℕ, List, [], Option, None, Some, unwrap_or, filter_map, Result, Ok, Err, Bool, nat_le, ◌==◌, ◌&&◌, ◌||◌, if◌then◌else◌}
use Rattle.std.specs.Result.{result_ok}
use Rattle.proto_wire.specs.declared.fault.WireFault.{WireFault}
use Rattle.proto_wire.specs.Field.{◌>>=◌, FieldText, fields_of}
use Rattle.proto_wire.specs.Taken.{messages_at}
use Rattle.entry.specs.declared.chunk.Chunk.{Chunk}
use Rattle.entry.specs.declared.entry.Entry.{Entry}
use Rattle.entry.specs.declared.entry_fault.EntryFault.{EntryFault}
use Rattle.entry.specs.declared.entry_fault.EntryFault.TheVariants as faults
use Rattle.entry.specs.declared.entry.Kind.{Kind}
use Rattle.entry.specs.declared.entry.Kind.TheVariants.{Directory, File}
use Rattle.entry.specs.AttributesText.{AttributesText, attributes_in, are_good, attributes_of}
use Rattle.entry.specs.EntryText.{EntryFieldsText, entry_fields_in, taken_fault, chunk_read}
use Rattle.entry.specs.EntryParts.{EntryParts}

-- What is read, unless a fault comes before it.
abbrev pub behind_fault : {X : Type 0} → Option WireFault → Result X WireFault → Result X WireFault
behind_fault None read = read
behind_fault (Some fault) read = Err fault

-- The fields that were read, none where there was a fault.
abbrev pub or_no_fields : Result (List FieldText) WireFault → List FieldText
or_no_fields read = unwrap_or (result_ok read) []

-- These parts.
abbrev pub entry_parts : List ℕ → EntryFieldsText → AttributesText → EntryParts
entry_parts text fields attributes = record { text = text; fields = fields; attributes = attributes }

-- The entry of these fields, or the first fault of the messages that it takes.
abbrev pub entry_with : List ℕ → List FieldText → Result EntryParts WireFault
entry_with text outer =
    let entry = entry_fields_in outer in
    behind_fault (taken_fault outer) (Ok (entry_parts text entry (attributes_in (or_no_fields (fields_of entry.attributes)))))

-- The entry of a text, or its first fault.
abbrev pub entry_at : List ℕ → Result EntryParts WireFault
entry_at text = fields_of text >>= λ outer. entry_with text outer

-- The attributes, in their turn among the chunks.
abbrev pub attributes_at : EntryFieldsText → Result AttributesText WireFault
attributes_at entry =
    behind_fault entry.chunks.early (fields_of entry.attributes >>= λ inner. behind_fault entry.chunks.fault (Ok (attributes_in inner)))

-- The same in the order of reading: the entry's own fields, and then its attributes in their turn.
abbrev pub entry_in_turn : List ℕ → Result EntryParts WireFault
entry_in_turn text = do
  outer ← fields_of text
  let entry = entry_fields_in outer
  attributes ← attributes_at entry
  Ok (entry_parts text entry attributes)

-- ---- What the parts mean, where they mean anything

-- A kind by its number: 0 is a file.
abbrev pub kind_of : ℕ → Kind
kind_of is_directory = if is_directory == 0 then File else Directory

-- The parts mean an entry: their values are good, each chunk is one, there are at most 65,536, and none of a directory.
abbrev pub is_entry : EntryParts → Bool
is_entry parts =
    are_good parts.attributes && parts.fields.chunks.are_good && nat_le parts.fields.chunks.count 65536
    && ((parts.fields.is_directory == 0) || (parts.fields.chunks.count == 0))

-- The chunks of a text.
abbrev pub chunks_of : List ℕ → List Chunk
chunks_of text = filter_map chunk_read (messages_at 3 (or_no_fields (fields_of text)))

-- The entry of its parts.
abbrev pub entry_of : EntryParts → Entry
entry_of parts = record {
  kind = kind_of parts.fields.is_directory;
  attributes = attributes_of parts.attributes;
  chunks = chunks_of parts.text;
}

-- The name and the entry of parts that mean one.
abbrev pub if_entry : EntryParts → Result (List ℕ × Entry) EntryFault
if_entry parts = if is_entry parts then Ok (parts.fields.name, entry_of parts) else Err faults.BadEntry

-- What comes next, or the fault of the wire.
abbrev pub or_wire : {X Y : Type 0} → Result X WireFault → (X → Result Y EntryFault) → Result Y EntryFault
or_wire (Ok x) next = next x
or_wire (Err fault) next = Err (faults.Wire fault)

-- The name and the entry of a text, or its first fault.
abbrev pub entry_read : List ℕ → Result (List ℕ × Entry) EntryFault
entry_read text = or_wire (entry_at text) if_entry

-- An answer is what the text is read as, unless memory runs out.
abbrev pub ReadsEntry : {X : Type 0} → Result X EntryFault → Result X EntryFault → Type 0
ReadsEntry read (Ok x) = read ≡ Ok x
ReadsEntry read (Err (faults.Wire fault)) = read ≡ Err (faults.Wire fault)
ReadsEntry read (Err faults.BadEntry) = read ≡ Err faults.BadEntry
ReadsEntry read (Err faults.Memory) = Unit {0}
