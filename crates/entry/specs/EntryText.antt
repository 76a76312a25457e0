-- The message of an entry, with what it takes of its own fields, and what is seen of the chunks in them.
use Rattle.std.specs.Prelude.{ℕ, List, [], ◌∷◌, length, Option, None, is_some, is_none, option_and_then, min, if◌then◌else◌}
use Rattle.std.specs.List.{list_all}
use Rattle.std.specs.Option.{option_or}
use Rattle.std.specs.Result.{result_ok, result_err}
use Rattle.proto_wire.specs.declared.fault.WireFault.{WireFault}
use Rattle.proto_wire.specs.Field.{FieldText, fields_of}
use Rattle.proto_wire.specs.Taken.{text_in, last_number, last_text, last_message, messages_at}
use Rattle.entry.specs.declared.chunk.Chunk.{Chunk}
use Rattle.entry.specs.declared.chunks_seen.ChunksSeen.{ChunksSeen}
use Rattle.entry.specs.ChunkReading.{chunk_at, chunk_of}

-- The chunk of a text, where it is one.
abbrev pub chunk_read : List ℕ → Option Chunk
chunk_read text = option_and_then chunk_of (result_ok (chunk_at text))

-- The fault of a chunk in a field.
abbrev pub chunk_fault : FieldText → Option WireFault
chunk_fault field = option_and_then (λ text. result_err (chunk_at text)) (text_in 3 field)

-- The fault of attributes in a field.
abbrev pub attributes_fault : FieldText → Option WireFault
attributes_fault field = option_and_then (λ text. result_err (fields_of text)) (text_in 4 field)

-- The first fault of the messages that an entry takes of its fields, in the order of the bytes: of each chunk, and of
-- the attributes behind which there are no others.
abbrev pub taken_fault : List FieldText → Option WireFault
taken_fault [] = None
taken_fault (field ∷ behind) =
    option_or (chunk_fault field)
    (option_or (if is_none (last_message 4 behind) then attributes_fault field else None) (taken_fault behind))

-- The first fault of the chunks.
abbrev pub chunks_fault : List FieldText → Option WireFault
chunks_fault [] = None
chunks_fault (field ∷ behind) = option_or (chunk_fault field) (chunks_fault behind)

-- The first fault of the chunks before the last attributes.
abbrev pub early_fault : List FieldText → Option WireFault
early_fault [] = None
early_fault (field ∷ behind) = if is_none (last_message 4 behind) then None else option_or (chunk_fault field) (early_fault behind)

-- What is seen of the chunks: their first faults, how many there are up to one more than an entry may have, and
-- whether each is one.
abbrev pub chunks_seen_in : List FieldText → ChunksSeen
chunks_seen_in fields = record {
  fault = chunks_fault fields;
  early = early_fault fields;
  count = min (length (messages_at 3 fields)) 65537;
  are_good = list_all (λ text. is_some (chunk_read text)) (messages_at 3 fields);
}

-- Entry's own fields. A missing attributes message is an empty one.
pub record EntryFieldsText : Type 0 where
  pub name : List ℕ
  pub is_directory : ℕ
  pub attributes : List ℕ
  pub chunks : ChunksSeen

-- What these fields give as an entry.
abbrev pub entry_fields_in : List FieldText → EntryFieldsText
entry_fields_in fields = record {
  name = last_text 1 fields;
  is_directory = last_number 2 fields;
  attributes = last_text 4 fields;
  chunks = chunks_seen_in fields;
}
