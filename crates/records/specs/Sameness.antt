-- Entries that are the same in all that they mean.
use Rattle.std.specs.Prelude.{◌==◌, ◌&&◌, Bool}
use Rattle.std.specs.Bool.{beq}
use Rattle.std.specs.Option.{option_eq}
use Rattle.std.specs.Str.{bytes_eq}
use Rattle.std.specs.Cmp.Lexicographic.{pointwise}
use Rattle.file_id.specs.declared.fid.Fid.{Fid}
use Rattle.entry.specs.declared.chunk.Chunk.{Chunk}
use Rattle.entry.specs.declared.entry.Entry.{Entry}
use Rattle.entry.specs.declared.entry.Attributes.{Attributes}
use Rattle.entry.specs.Entry.{is_file_kind}

-- File ids that name one needle.
abbrev pub is_same_fid : Fid → Fid → Bool
is_same_fid a b = (a.volume == b.volume) && ((a.key == b.key) && (a.cookie == b.cookie))

-- Chunks with the same needle, place, time and marks.
abbrev pub is_same_chunk : Chunk → Chunk → Bool
is_same_chunk a b =
    is_same_fid a.fid b.fid
    && ((a.offset == b.offset)
    && ((a.size == b.size)
    && ((a.modified == b.modified)
    && (beq a.compressed b.compressed && (beq a.ciphered b.ciphered && beq a.manifest b.manifest)))))

-- Attributes of which each is the same.
abbrev pub is_same_attributes : Attributes → Attributes → Bool
is_same_attributes a b =
    (a.file_size == b.file_size)
    && ((a.mtime == b.mtime)
    && ((a.mode == b.mode)
    && ((a.uid == b.uid)
    && ((a.gid == b.gid)
    && ((a.crtime == b.crtime)
    && (bytes_eq a.mime b.mime && ((a.ttl_sec == b.ttl_sec) && option_eq bytes_eq a.md5 b.md5)))))))

-- Entries of one kind with the same attributes and chunks.
abbrev pub is_same_entry : Entry → Entry → Bool
is_same_entry a b =
    beq (is_file_kind a.kind) (is_file_kind b.kind)
    && (is_same_attributes a.attributes b.attributes && pointwise is_same_chunk a.chunks b.chunks)
