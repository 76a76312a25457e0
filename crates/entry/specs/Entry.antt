-- Entries: what stands at a path.
use Rattle.std.specs.Prelude.{◌≡◌, ℕ, ◌+◌, ◌≤◌, max, Bool, false, true, List, [], ◌∷◌, length, All}
use Rattle.entry.specs.declared.chunk.Chunk.{Chunk}
use Rattle.entry.specs.declared.entry.Entry.{Entry}
use Rattle.entry.specs.declared.entry.Kind.{Kind}
use Rattle.entry.specs.declared.entry.Kind.TheVariants.{Directory, File}

-- The kind is that of a file.
abbrev pub is_file_kind : Kind → Bool
is_file_kind Directory = false
is_file_kind File = true

-- The first position behind a chunk.
abbrev pub end_of : Chunk → ℕ
end_of chunk = chunk.offset + chunk.size

-- A chunk has a byte at least, and ends within the greatest length of a file, 2^38.
pub record IsValidChunk (chunk : Chunk) : Type 0 where
  pub filled : 1 ≤ chunk.size
  pub within : end_of chunk ≤ 274877906944

-- What every entry keeps to: a directory has no chunk, a file at most 65,536 of them and 2^38 bytes, a media type at
-- most 255.
pub record IsValid (entry : Entry) : Type 0 where
  pub bare : entry.kind ≡ Directory → entry.chunks ≡ []
  pub chunks : All IsValidChunk entry.chunks
  pub few : length entry.chunks ≤ 65536
  pub file_size : entry.attributes.file_size ≤ 274877906944
  pub mime : length entry.attributes.mime ≤ 255

-- The greatest end of chunks, 0 of none.
abbrev pub greatest_end : List Chunk → ℕ
greatest_end [] = 0
greatest_end (chunk ∷ chunks) = max (end_of chunk) (greatest_end chunks)

-- The length of a file: the greater of its size and the greatest end of a chunk.
abbrev pub file_length : Entry → ℕ
file_length entry = max entry.attributes.file_size (greatest_end entry.chunks)
