-- What stands between the data of a chunked body: the line of a chunk, the line end behind it, and trailer lines.
use Rattle.std.specs.Prelude.{◌≡◌, ℕ, ◌+◌, ◌<◌, ◌≤◌, ◌⊎◌, List, [], ◌++◌, length, take, drop, codes}
use Rattle.httparse.specs.Grammar.{ChunkLine, ReadsChunkLine, chunk_size}
use Rattle.http_bodies.specs.declared.stage.Stage.{Stage}
use Rattle.http_bodies.specs.declared.stage.Stage.TheVariants.{Length, Over, Line, Chunk, Trailers}

-- The line of a chunk of that size, of at most 1,024 bytes.
abbrev pub IsChunkLine : ℕ → List ℕ → Type 0
IsChunkLine size text = (line : ChunkLine) × ReadsChunkLine text line [] × (chunk_size line ≡ size) × (length text ≤ 1024)

-- CR LF stands at the place.
abbrev pub IsEndAt : List ℕ → ℕ → Type 0
IsEndAt bytes place = take 2 (drop place bytes) ≡ codes "\r\n"

-- A line of so many bytes, which ends at its first CR LF.
pub record IsLine (text : List ℕ) (count : ℕ) : Type 0 where
  pub ends : length text ≡ count + 2
  pub stands : IsEndAt text count
  pub first : (place : ℕ) → place < count → ¬ IsEndAt text place

-- The empty line that ends a body, or a trailer line of at most so many bytes.
abbrev pub IsTrailer : ℕ → List ℕ → Type 0
IsTrailer room text = (count : ℕ) × IsLine text count × ((count ≡ 0) ⊎ (length text ≤ room))

-- What may stand next.
abbrev pub IsMark : Stage → List ℕ → Type 0
IsMark (Length count) text = ⊥
IsMark Over text = ⊥
IsMark (Line allowed) text = (size : ℕ) × IsChunkLine size text
IsMark (Chunk left allowed) text = text ≡ codes "\r\n"
IsMark (Trailers room) text = IsTrailer room text

-- It stands in front.
abbrev pub BeginsWithMark : Stage → List ℕ → Type 0
BeginsWithMark stage bytes = (text : List ℕ) × (rest : List ℕ) × IsMark stage text × (bytes ≡ text ++ rest)

-- It doesn't stand in front yet, and may.
abbrev pub IsOpen : Stage → List ℕ → Type 0
IsOpen stage bytes = (¬ BeginsWithMark stage bytes) × ((more : List ℕ) × BeginsWithMark stage (bytes ++ more))

-- It never stands in front, whatever follows.
abbrev pub IsNever : Stage → List ℕ → Type 0
IsNever stage bytes = (more : List ℕ) → ¬ BeginsWithMark stage (bytes ++ more)
