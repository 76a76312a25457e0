-- The messages of a chunk and of its file id, each with what it takes of its own fields.
use Rattle.std.specs.Prelude.{ℕ, List, Option, None, Some, unwrap_or, filter_map, ◌==◌, if◌then◌else◌}
use Rattle.std.specs.List.{last_or}
use Rattle.proto_wire.specs.Field.{ValueText, Varint, Fixed64, Bytes, Fixed32, FieldText}
use Rattle.proto_wire.specs.Taken.{last_number, last_text, last_message}
use Rattle.entry.specs.declared.chunk_message.FidFields.{FidFields}

-- The four bytes of a value that has them.
abbrev pub fixed_of : ValueText → Option ℕ
fixed_of (Varint n) = None
fixed_of (Fixed64 n) = None
fixed_of (Bytes bytes) = None
fixed_of (Fixed32 n) = Some n

-- The four bytes that a field of this number holds.
abbrev pub fixed_in : ℕ → FieldText → Option ℕ
fixed_in number field = if field.number == number then fixed_of field.value else None

-- The last four bytes, or 0.
abbrev pub last_fixed : ℕ → List FieldText → ℕ
last_fixed number fields = unwrap_or (last_or None (filter_map (fixed_in number) fields)) 0

-- What these fields give as a file id.
abbrev pub fid_in : List FieldText → FidFields
fid_in fields = record { volume = last_number 1 fields; key = last_number 2 fields; cookie = last_fixed 3 fields }

-- FileChunk's own fields.
pub record ChunkText : Type 0 where
  pub offset : ℕ
  pub size : ℕ
  pub modified : ℕ
  pub fid : Option (List ℕ)
  pub cipher_key : List ℕ
  pub is_compressed : ℕ
  pub is_manifest : ℕ

-- What these fields give as a chunk.
abbrev pub chunk_in : List FieldText → ChunkText
chunk_in fields = record {
  offset = last_number 2 fields;
  size = last_number 3 fields;
  modified = last_number 4 fields;
  fid = last_message 7 fields;
  cipher_key = last_text 9 fields;
  is_compressed = last_number 10 fields;
  is_manifest = last_number 11 fields;
}
