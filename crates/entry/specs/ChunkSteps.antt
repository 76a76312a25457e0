-- A chunk's messages with the value of one field more.
use Rattle.std.specs.Prelude.{ℕ, List, Some, ◌==◌, if◌then◌else◌}
use Rattle.entry.specs.ChunkText.{ChunkText}
use Rattle.entry.specs.declared.chunk_message.FidFields.{FidFields}

-- A file id with one number more.
abbrev pub fid_with_number : ℕ → ℕ → FidFields → FidFields
fid_with_number number value f = record f {
  volume = if number == 1 then value else f.volume;
  key = if number == 2 then value else f.key;
}

-- A file id with four bytes more.
abbrev pub fid_with_fixed : ℕ → ℕ → FidFields → FidFields
fid_with_fixed number value f = record f { cookie = if number == 3 then value else f.cookie }

-- A chunk with one number more.
abbrev pub chunk_with_number : ℕ → ℕ → ChunkText → ChunkText
chunk_with_number number value c = record c {
  offset = if number == 2 then value else c.offset;
  size = if number == 3 then value else c.size;
  modified = if number == 4 then value else c.modified;
  is_compressed = if number == 10 then value else c.is_compressed;
  is_manifest = if number == 11 then value else c.is_manifest;
}

-- A chunk with one text more.
abbrev pub chunk_with_text : ℕ → List ℕ → ChunkText → ChunkText
chunk_with_text number text c = record c {
  fid = if number == 7 then Some text else c.fid;
  cipher_key = if number == 9 then text else c.cipher_key;
}
