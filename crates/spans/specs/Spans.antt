-- What the reading of a span comes to.
use Rattle.std.specs.Prelude.{◌≡◌, ℕ, ◌≤◌, ◌<◌, ◌⊎◌, ◌++◌, true, false, List, length, Option, None, Some, IfSome, IsSomeAnd}
use Rattle.entry.specs.declared.chunk.Chunk.{Chunk}
use Rattle.entry.specs.declared.entry.Entry.{Entry}
use Rattle.spans.specs.declared.span_fault.SpanFault.{SpanFault}
use Rattle.spans.specs.declared.span_fault.SpanFault.TheVariants.{BadRange, CompressedChunk, CipheredChunk, Manifest, BlobFault, NotHeld, ShortNeedle, Memory}
use Rattle.entry.specs.Entry.{file_length}
use Rattle.entry.specs.Needles.{Needles, held_under}
use Rattle.spans.specs.Denotation.{byte_of, bytes_by, chunk_seen_at}

-- The range isn't one of the file.
abbrev pub IsOutside : Entry → ℕ → ℕ → Type 0
IsOutside entry from to = (to < from) ⊎ (file_length entry < to)

-- A chunk that is read: it is neither compressed nor ciphered nor a manifest.
pub record IsPlain (chunk : Chunk) : Type 0 where
  pub compressed : chunk.compressed ≡ false
  pub ciphered : chunk.ciphered ≡ false
  pub manifest : chunk.manifest ≡ false

-- The needle of a chunk is held, and long enough.
abbrev pub HoldsWhole : Needles → Chunk → Type 0
HoldsWhole needles chunk = IsSomeAnd (held_under needles chunk.fid) (λ bytes. chunk.size ≤ length bytes)

-- What is seen can be read: no chunk, or a plain one with, where told, a needle that is held and long enough.
abbrev pub IsServed : Option Needles → Option Chunk → Type 0
IsServed told None = Unit {0}
IsServed told (Some chunk) = IsPlain chunk × IfSome told (λ needles. HoldsWhole needles chunk)

-- The fault is that of a chunk: its first mark, else that its needle isn't held, else that the needle is too short.
abbrev pub IsFaultOf : Option Needles → Chunk → SpanFault → Type 0
IsFaultOf told chunk (CompressedChunk fid) = (fid ≡ chunk.fid) × (chunk.compressed ≡ true)
IsFaultOf told chunk (CipheredChunk fid) = (fid ≡ chunk.fid) × (chunk.compressed ≡ false) × (chunk.ciphered ≡ true)
IsFaultOf told chunk (Manifest fid) = (fid ≡ chunk.fid) × (chunk.compressed ≡ false) × (chunk.ciphered ≡ false) × (chunk.manifest ≡ true)
IsFaultOf told chunk BlobFault = IsPlain chunk
IsFaultOf told chunk (NotHeld fid) = (fid ≡ chunk.fid) × IsPlain chunk × IfSome told (λ needles. held_under needles fid ≡ None)
IsFaultOf told chunk (ShortNeedle fid want got) =
    (fid ≡ chunk.fid) × IsPlain chunk × (want ≡ chunk.size) × (got < want)
    × IfSome told (λ needles. IsSomeAnd (held_under needles fid) (λ bytes. length bytes ≡ got))
IsFaultOf told chunk BadRange = ⊥
IsFaultOf told chunk Memory = Unit {0}

-- The same of what is seen.
abbrev pub IsFaultSeen : Option Needles → Option Chunk → SpanFault → Type 0
IsFaultSeen told None fault = fault ≡ Memory
IsFaultSeen told (Some chunk) fault = IsFaultOf told chunk fault

-- A mark refuses the chunk.
abbrev pub IsMarkOf : Chunk → SpanFault → Type 0
IsMarkOf chunk (CompressedChunk fid) = (fid ≡ chunk.fid) × (chunk.compressed ≡ true)
IsMarkOf chunk (CipheredChunk fid) = (fid ≡ chunk.fid) × (chunk.compressed ≡ false) × (chunk.ciphered ≡ true)
IsMarkOf chunk (Manifest fid) = (fid ≡ chunk.fid) × (chunk.compressed ≡ false) × (chunk.ciphered ≡ false) × (chunk.manifest ≡ true)
IsMarkOf chunk BadRange = ⊥
IsMarkOf chunk Memory = ⊥
IsMarkOf chunk BlobFault = ⊥
IsMarkOf chunk (NotHeld fid) = ⊥
IsMarkOf chunk (ShortNeedle fid want got) = ⊥

-- Each position from one to before another can be read.
abbrev pub AreServed : Option Needles → List Chunk → ℕ → ℕ → Type 0
AreServed told chunks from to = (position : ℕ) → from ≤ position → position < to → IsServed told (chunk_seen_at chunks position)

-- The first position that can't be read, with the fault of the chunk that is seen there.
pub record StopsAt (told : Option Needles) (chunks : List Chunk) (from to : ℕ) (fault : SpanFault) : Type 0 where
  pub position : ℕ
  pub after : from ≤ position
  pub before : position < to
  pub served : AreServed told chunks from position
  pub seen : IsSomeAnd (chunk_seen_at chunks position) (λ chunk. IsFaultOf told chunk fault)

-- A fault of a range is that of its first position that can't be read, or want of memory.
abbrev pub StopsUnlessMemory : Option Needles → List Chunk → ℕ → ℕ → SpanFault → Type 0
StopsUnlessMemory told chunks from to fault = (fault ≡ Memory) ⊎ StopsAt told chunks from to fault

-- Why a range of the file isn't read, but for want of memory.
abbrev pub IsStopped : Option Needles → Entry → ℕ → ℕ → SpanFault → Type 0
IsStopped told entry from to fault = ((fault ≡ BadRange) × IsOutside entry from to) ⊎ StopsUnlessMemory told entry.chunks from to fault

-- The fault is that a needle isn't held.
abbrev pub IsMiss : SpanFault → Type 0
IsMiss (NotHeld fid) = Unit {0}
IsMiss BadRange = ⊥
IsMiss Memory = ⊥
IsMiss (CompressedChunk fid) = ⊥
IsMiss (CipheredChunk fid) = ⊥
IsMiss (Manifest fid) = ⊥
IsMiss BlobFault = ⊥
IsMiss (ShortNeedle fid want got) = ⊥

-- These bytes were added: those of what is seen from a position on.
pub record Adds (told : Option Needles) (seen : Option Chunk) (position count : ℕ) (old new : List ℕ) : Type 0 where
  pub added : List ℕ
  pub grown : new ≡ old ++ added
  pub many : length added ≡ count
  pub exact : IfSome told (λ needles. added ≡ bytes_by (byte_of needles seen) position count)
