-- How a text is read as a chunk: its own fields first, then its file id.
use Rattle.std.specs.Prelude.{ℕ, ◌+◌, ◌^◌, List, Option, None, Some, option_and_then, Result, Ok, Bool, not, nat_lt, nat_le, length, ◌==◌, ◌&&◌, if◌then◌else◌}
use Rattle.file_id.specs.declared.fid.Fid.{Fid}
use Rattle.proto_wire.specs.declared.fault.WireFault.{WireFault}
use Rattle.proto_wire.specs.Field.{◌>>=◌, fields_of}
use Rattle.entry.specs.declared.chunk.Chunk.{Chunk}
use Rattle.entry.specs.declared.chunk_message.FidFields.{FidFields}
use Rattle.entry.specs.declared.chunk_message.ChunkParts.{ChunkParts}
use Rattle.entry.specs.ChunkText.{ChunkText, fid_in, chunk_in}

-- The file id of a text, where there is one.
abbrev pub fid_if_there : Option (List ℕ) → Result (Option FidFields) WireFault
fid_if_there None = Ok None
fid_if_there (Some text) = fields_of text >>= λ fields. Ok (Some (fid_in fields))

-- FileChunk with the file id that it takes.
abbrev pub chunk_at : List ℕ → Result ChunkParts WireFault
chunk_at text = do
  outer ← fields_of text
  let chunk = chunk_in outer
  fid ← fid_if_there chunk.fid
  Ok (record { fields = chunk; fid = fid })

-- ---- What they mean, where they mean anything

-- A number is true where it isn't 0.
abbrev pub is_set : ℕ → Bool
is_set number = not (number == 0)

-- The file id, whose volume has 32 bits.
abbrev pub fid_of : FidFields → Option Fid
fid_of fid =
    if nat_lt fid.volume (2 ^ 32) then Some (record { volume = fid.volume; key = fid.key; cookie = fid.cookie }) else None

-- The chunk has a byte at least, and ends within the greatest length of a file, 2^38.
abbrev pub is_placed : ChunkText → Bool
is_placed chunk = nat_le 1 chunk.size && nat_le (chunk.offset + chunk.size) 274877906944

-- The chunk of a file id. One with a cipher key is ciphered.
abbrev pub chunk_with : ChunkText → Fid → Chunk
chunk_with chunk fid = record {
  fid = fid;
  offset = chunk.offset;
  size = chunk.size;
  modified = chunk.modified;
  compressed = is_set chunk.is_compressed;
  ciphered = is_set (length chunk.cipher_key);
  manifest = is_set chunk.is_manifest;
}

-- The chunk, where it has a file id and a place.
abbrev pub chunk_of : ChunkParts → Option Chunk
chunk_of parts =
    option_and_then (λ fid. if is_placed parts.fields then Some (chunk_with parts.fields fid) else None) (option_and_then fid_of parts.fid)
