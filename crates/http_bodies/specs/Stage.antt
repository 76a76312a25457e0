-- Where a body stands.
use Rattle.std.specs.Prelude.{ℕ, zero, suc, nat_lt, ◌+◌, ◌-◌, ◌≤◌, Bool, true, false, if◌then◌else◌, ⊤}
use Rattle.http_head.specs.declared.body.BodyKind.{BodyKind}
use Rattle.http_head.specs.declared.body.BodyKind.TheVariants.{Missing, Length as LengthKind, Chunked}
use Rattle.http_bodies.specs.declared.stage.Stage.{Stage}
use Rattle.http_bodies.specs.declared.stage.Stage.TheVariants.{Length, Over, Line, Chunk, Trailers}

-- A body of that kind and of at most so many bytes, of which nothing was read. A missing one is empty.
abbrev pub begun : BodyKind → ℕ → Stage
begun Missing limit = Length 0
begun (LengthKind count) limit = if nat_lt limit count then Over else Length count
begun Chunked limit = Line limit

-- Trailers never have room for more than 16,384 bytes.
abbrev pub IsSound : Stage → Type 0
IsSound (Length count) = ⊤
IsSound Over = ⊤
IsSound (Line allowed) = ⊤
IsSound (Chunk left allowed) = ⊤
IsSound (Trailers room) = room ≤ 16384

-- What comes is no data: a line, the end of a chunk, or trailers.
abbrev pub is_between : Stage → Bool
is_between (Length count) = false
is_between Over = false
is_between (Line allowed) = true
is_between (Chunk zero allowed) = true
is_between (Chunk (suc left) allowed) = false
is_between (Trailers room) = true

-- How many marks come at most before data, or before the end.
abbrev pub turns : Stage → ℕ
turns (Length count) = 0
turns Over = 0
turns (Line allowed) = 16386
turns (Chunk zero allowed) = 16387
turns (Chunk (suc left) allowed) = 0
turns (Trailers room) = room + 1

-- Behind a chunk's line comes its data, or trailers behind the line that says 0.
abbrev pub behind_line : ℕ → ℕ → Stage
behind_line zero allowed = Trailers 16384
behind_line (suc size) allowed = Chunk (suc size) (allowed - suc size)
