-- The file that a write leaves at its path.
use Rattle.std.specs.Prelude.{◌≡◌, ℕ, ◌+◌, ◌≤◌, ◌||◌, nat_lt, max, Bool, false, List, [], ◌∷◌, ◌++◌, length, map, Option, None, Some, unwrap_or, is_some, not, Result, if◌then◌else◌}
use Rattle.entry.specs.declared.chunk.Chunk.{Chunk}
use Rattle.entry.specs.declared.entry.Entry.{Entry}
use Rattle.entry.specs.declared.entry.Attributes.{Attributes}
use Rattle.entry.specs.declared.entry.Kind.TheVariants.{File}
use Rattle.entry.specs.Entry.{file_length, is_file_kind}
use Rattle.name_core.specs.declared.command.Refusal.{Refusal}
use Rattle.name_core.specs.declared.command.Refusal.TheVariants.{IsDirectory, BadPlace, TooManyChunks}
use Rattle.name_core.specs.Plan.{seconds}
use Rattle.name_plans.specs.declared.command.Piece.{Piece}
use Rattle.name_plans.specs.Refusing.{refuse_if, unless, is_root}

-- What a write says besides its path.
pub record Written : Type 0 where
  pub at : Option ℕ
  pub pieces : List Piece
  pub size : ℕ
  pub mime : List ℕ
  pub md5 : Option (List ℕ)

-- Where the pieces begin in the file.
abbrev pub start_of : Written → ℕ
start_of w = unwrap_or w.at 0

-- The first position behind them.
abbrev pub end_of_write : Written → ℕ
end_of_write w = start_of w + w.size

-- The pieces follow each other from one position up to another, and none is empty.
abbrev pub Follow : List Piece → ℕ → ℕ → Type 0
Follow [] from to = from ≡ to
Follow (piece ∷ pieces) from to = (piece.offset ≡ from) × (1 ≤ piece.size) × Follow pieces (from + piece.size) to

-- What a write keeps to.
pub record IsWrite (w : Written) : Type 0 where
  pub pieces : Follow w.pieces (start_of w) (end_of_write w)
  pub mime : length w.mime ≤ 255

-- A piece as a chunk that is written at a time.
abbrev pub chunk_at : ℕ → Piece → Chunk
chunk_at time piece = record {
  fid = piece.fid;
  offset = piece.offset;
  size = piece.size;
  modified = time;
  compressed = false;
  ciphered = false;
  manifest = false;
}

-- The chunks that were there.
abbrev pub old_chunks : Option Entry → List Chunk
old_chunks None = []
old_chunks (Some old) = old.chunks

-- The chunks of the file: the pieces alone, or, at a place, those that were there with the pieces behind them.
abbrev pub chunks_after : ℕ → Option Entry → Written → List Chunk
chunks_after time old w = if is_some w.at then old_chunks old ++ map (chunk_at time) w.pieces else map (chunk_at time) w.pieces

-- The attributes of a new file: mode 420, which is octal 644.
abbrev pub new_file : ℕ → Attributes
new_file time = record {
  file_size = 0;
  mtime = seconds time;
  mode = 420;
  uid = 0;
  gid = 0;
  crtime = seconds time;
  mime = [];
  ttl_sec = 0;
  md5 = None;
}

-- The attributes that a write begins with: those that were there, or a new file's.
abbrev pub attributes_before : ℕ → Option Entry → Attributes
attributes_before time None = new_file time
attributes_before time (Some old) = old.attributes

-- The length of what was there.
abbrev pub length_before : Option Entry → ℕ
length_before None = 0
length_before (Some old) = file_length old

-- The media type after a write at a place: the old one where a file was there.
abbrev pub mime_at : Option Entry → List ℕ → List ℕ
mime_at None mime = mime
mime_at (Some old) mime = old.attributes.mime

-- The file after a write at a time: mode, owners, times to live and of making stay where it was there.
abbrev pub file_after : ℕ → Option Entry → Written → Entry
file_after time old w =
    let before = attributes_before time old in record {
      kind = File;
      attributes = record {
        file_size = if is_some w.at then max (length_before old) (end_of_write w) else w.size;
        mtime = seconds time;
        mode = before.mode;
        uid = before.uid;
        gid = before.gid;
        crtime = before.crtime;
        mime = if is_some w.at then mime_at old w.mime else w.mime;
        ttl_sec = before.ttl_sec;
        md5 = if is_some w.at then None else w.md5;
      };
      chunks = chunks_after time old w;
    }

-- What is there is a directory.
abbrev pub is_directory : Option Entry → Bool
is_directory None = false
is_directory (Some old) = not (is_file_kind old.kind)

-- The file that a write leaves at a path where this was, or its refusal.
abbrev pub file_written : ℕ → List (List ℕ) → Option Entry → Written → Result Entry Refusal
file_written time path old w = unless
    (refuse_if (is_root path || is_directory old) IsDirectory
    ∷ refuse_if (nat_lt 274877906944 (end_of_write w)) BadPlace
    ∷ refuse_if (nat_lt 65536 (length (chunks_after time old w))) TooManyChunks
    ∷ [])
    (file_after time old w)
