-- How an entry is written: the fields in the order of their numbers, each repeated message and the attributes also
-- where they are empty.
use Rattle.std.specs.Prelude.{ℕ, ◌<◌, ◌^◌, List, [], ◌∷◌, ◌++◌, Bool, true, false, All, flat_map}
use Rattle.file_id.specs.declared.fid.Fid.{Fid}
use Rattle.proto_wire.specs.Text.{varint_field, fixed32_field, bytes_field, message_field}
use Rattle.entry.specs.declared.chunk.Chunk.{Chunk}
use Rattle.entry.specs.declared.entry.Entry.{Entry}
use Rattle.entry.specs.declared.entry.Kind.{Kind}
use Rattle.entry.specs.declared.entry.Kind.TheVariants.{Directory, File}
use Rattle.entry.specs.AttributesText.{attributes_text, FitTypes}

-- FileId.
abbrev pub fid_text : Fid → List ℕ
fid_text fid = varint_field 1 fid.volume ++ varint_field 2 fid.key ++ fixed32_field 3 fid.cookie

-- A truth value.
abbrev pub bit : Bool → ℕ
bit true = 1
bit false = 0

-- The cipher key that stands for a mark.
abbrev pub cipher_key : Bool → List ℕ
cipher_key true = 1 ∷ []
cipher_key false = []

-- FileChunk.
abbrev pub chunk_text : Chunk → List ℕ
chunk_text chunk =
    varint_field 2 chunk.offset ++ varint_field 3 chunk.size ++ varint_field 4 chunk.modified ++ message_field 7 (fid_text chunk.fid)
    ++ bytes_field 9 (cipher_key chunk.ciphered) ++ varint_field 10 (bit chunk.compressed) ++ varint_field 11 (bit chunk.manifest)

-- Each chunk.
abbrev pub chunks_text : List Chunk → List ℕ
chunks_text chunks = flat_map (λ chunk. message_field 3 (chunk_text chunk)) chunks

-- The truth value `is_directory`.
abbrev pub directory_bit : Kind → ℕ
directory_bit Directory = 1
directory_bit File = 0

-- Entry.
abbrev pub entry_text : List ℕ → Entry → List ℕ
entry_text name entry =
    bytes_field 1 name ++ varint_field 2 (directory_bit entry.kind) ++ chunks_text entry.chunks ++ message_field 4 (attributes_text entry.attributes)

-- The numbers of a file id fit their types.
pub record FitsFid (fid : Fid) : Type 0 where
  pub volume : fid.volume < 2 ^ 32
  pub key : fid.key < 2 ^ 64
  pub cookie : fid.cookie < 2 ^ 32

-- The numbers of a chunk do.
pub record FitsChunk (chunk : Chunk) : Type 0 where
  pub fid : FitsFid chunk.fid
  pub modified : chunk.modified < 2 ^ 64

-- The numbers of an entry do.
pub record FitsEntry (entry : Entry) : Type 0 where
  pub attributes : FitTypes entry.attributes
  pub chunks : All FitsChunk entry.chunks
