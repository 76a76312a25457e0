-- The bytes that a file denotes, position by position.
use Rattle.std.specs.Prelude.{ℕ, zero, suc, ◌+◌, ◌-◌, ◌≤◌, Bool, nat_le, nat_lt, ◌&&◌, if◌then◌else◌, List, [], ◌∷◌, filter, slice_index, Option, None, Some, option_map, unwrap_or}
use Rattle.entry.specs.declared.chunk.Chunk.{Chunk}
use Rattle.entry.specs.Needles.{Needles, bytes_under}

-- The chunk covers the position.
abbrev pub covers : ℕ → Chunk → Bool
covers position chunk = nat_le chunk.offset position && nat_lt position (chunk.offset + chunk.size)

-- A chunk and its place in the list.
pub record Placed : Type 0 where
  pub chunk : Chunk
  pub place : ℕ

-- Chunks with their places, from a place on.
abbrev pub placed_from : ℕ → List Chunk → List Placed
placed_from place [] = []
placed_from place (chunk ∷ chunks) = record { chunk = chunk; place = place } ∷ placed_from (place + 1) chunks

-- The one of the later time, and of equal times the one behind.
abbrev pub newer : Placed → Option Placed → Placed
newer one None = one
newer one (Some behind) = if nat_lt behind.chunk.modified one.chunk.modified then one else behind

-- The one with the greatest time, and of equal times the last.
abbrev pub newest : List Placed → Option Placed
newest [] = None
newest (one ∷ behind) = Some (newer one (newest behind))

-- The chunk that is seen at a position: of those that cover it the one with the greatest time, and of equal times the
-- last.
abbrev pub seen_at : List Chunk → ℕ → Option Placed
seen_at chunks position = newest (filter (λ placed. covers position placed.chunk) (placed_from 0 chunks))

-- The same without its place.
abbrev pub chunk_seen_at : List Chunk → ℕ → Option Chunk
chunk_seen_at chunks position = option_map (λ placed. placed.chunk) (seen_at chunks position)

-- The byte at a position of what is seen there. What no chunk covers is zero, and so is a byte that the needles lack.
abbrev pub byte_of : Needles → Option Chunk → ℕ → ℕ
byte_of needles None position = 0
byte_of needles (Some chunk) position = slice_index (unwrap_or (bytes_under needles chunk.fid) []) (position - chunk.offset)

-- So many bytes from a position on, where each has its own.
abbrev pub bytes_by : (ℕ → ℕ) → ℕ → ℕ → List ℕ
bytes_by byte position zero = []
bytes_by byte position (suc more) = byte position ∷ bytes_by byte (position + 1) more

-- The byte at a position: that of the chunk that is seen there.
abbrev pub byte_at : Needles → List Chunk → ℕ → ℕ
byte_at needles chunks position = byte_of needles (chunk_seen_at chunks position) position

-- The bytes of a file from a position to before another.
abbrev pub denoted : Needles → List Chunk → ℕ → ℕ → List ℕ
denoted needles chunks from to = bytes_by (byte_at needles chunks) from (to - from)

-- The chunk covers each position from one to before another, where there is one.
abbrev pub Reaches : Option Chunk → ℕ → ℕ → Type 0
Reaches None from to = Unit {0}
Reaches (Some chunk) from to = (chunk.offset ≤ from) × (to ≤ chunk.offset + chunk.size)

-- The chunk has a position from one to before another.
abbrev pub is_near : ℕ → ℕ → Chunk → Bool
is_near from to chunk = nat_lt chunk.offset to && nat_lt (from - chunk.offset) chunk.size
