-- What some bytes are to a body: its data, and how it ends.
use Rattle.std.specs.Prelude.{◌≡◌, ℕ, zero, suc, ◌-◌, ◌<◌, ◌≤◌, List, [], ◌∷◌, ◌++◌, length, take, codes, Option, IfSome, Result, Ok, Err, ⊤}
use Rattle.weed_base.specs.Told.{Consumes}
use Rattle.http_bodies.specs.declared.fault.BodyFault.{BodyFault}
use Rattle.http_bodies.specs.declared.fault.BodyFault.TheVariants.{ReadFault, Cut, BadChunk, TooLong, BadForm, Memory}
use Rattle.http_bodies.specs.declared.stage.Stage.{Stage}
use Rattle.http_bodies.specs.declared.stage.Stage.TheVariants.{Length, Over, Line, Chunk, Trailers}
use Rattle.http_bodies.specs.Stage.{behind_line}
use Rattle.http_bodies.specs.Mark.{IsChunkLine, IsLine, IsOpen, IsNever}

-- How a body ends: whole, with these bytes behind it, or refused.
pub data BodyEnd : Type 0 where
  Whole : List ℕ → BodyEnd
  Refused : BodyFault → BodyEnd

-- The text is a mark that leads to the next stage.
pub data Leads : Stage → List ℕ → Stage → Type 0 where
  line : (size allowed : ℕ) (text : List ℕ) → IsChunkLine size text → size ≤ allowed → Leads (Line allowed) text (behind_line size allowed)
  chunk_end : (allowed : ℕ) → Leads (Chunk 0 allowed) (codes "\r\n") (Line allowed)
  last : (room : ℕ) → Leads (Trailers room) (codes "\r\n") (Length 0)
  trailer : (room count : ℕ) (text : List ℕ) → IsLine text count → 0 < count → length text ≤ room → Leads (Trailers room) text (Trailers (room - length text))

-- The bytes end before the body does.
abbrev pub IsCut : Stage → List ℕ → Type 0
IsCut (Length zero) bytes = ⊥
IsCut (Length (suc count)) bytes = bytes ≡ []
IsCut Over bytes = ⊥
IsCut (Line allowed) bytes = IsOpen (Line allowed) bytes
IsCut (Chunk zero allowed) bytes = IsOpen (Chunk 0 allowed) bytes
IsCut (Chunk (suc left) allowed) bytes = bytes ≡ []
IsCut (Trailers room) bytes = IsOpen (Trailers room) bytes

-- The bytes can't go on to a body in chunks.
abbrev pub IsBad : Stage → List ℕ → Type 0
IsBad (Length count) bytes = ⊥
IsBad Over bytes = ⊥
IsBad (Line allowed) bytes = IsNever (Line allowed) bytes
IsBad (Chunk zero allowed) bytes = IsNever (Chunk 0 allowed) bytes
IsBad (Chunk (suc left) allowed) bytes = ⊥
IsBad (Trailers room) bytes = IsNever (Trailers room) bytes

-- The stated length, or the size in the line in front, passes the limit.
abbrev pub IsOver : Stage → List ℕ → Type 0
IsOver (Length count) bytes = ⊥
IsOver Over bytes = ⊤
IsOver (Line allowed) bytes = (size : ℕ) × (text : List ℕ) × (rest : List ℕ) × IsChunkLine size text × (allowed < size) × (bytes ≡ text ++ rest)
IsOver (Chunk left allowed) bytes = ⊥
IsOver (Trailers room) bytes = ⊥

-- From that stage on the bytes begin with a body of this data, which ends so.
pub data StandsFor : Stage → List ℕ → List ℕ → BodyEnd → Type 0 where
  nothing_left : (bytes : List ℕ) → StandsFor (Length 0) bytes [] (Whole bytes)
  byte_by_length : (count byte : ℕ) (bytes payload : List ℕ) (end : BodyEnd) → StandsFor (Length count) bytes payload end
      → StandsFor (Length (suc count)) (byte ∷ bytes) (byte ∷ payload) end
  byte_of_chunk : (left allowed byte : ℕ) (bytes payload : List ℕ) (end : BodyEnd) → StandsFor (Chunk left allowed) bytes payload end
      → StandsFor (Chunk (suc left) allowed) (byte ∷ bytes) (byte ∷ payload) end
  mark : (stage next : Stage) (bytes text rest payload : List ℕ) (end : BodyEnd) → bytes ≡ text ++ rest → Leads stage text next
      → StandsFor next rest payload end → StandsFor stage bytes payload end
  cut : (stage : Stage) (bytes : List ℕ) → IsCut stage bytes → StandsFor stage bytes [] (Refused Cut)
  bad : (stage : Stage) (bytes : List ℕ) → IsBad stage bytes → StandsFor stage bytes [] (Refused BadChunk)
  over : (stage : Stage) (bytes : List ℕ) → IsOver stage bytes → StandsFor stage bytes [] (Refused TooLong)

-- The text gives this data, and leads from one stage to another.
abbrev pub Passes : Stage → List ℕ → List ℕ → Stage → Type 0
Passes stage text payload next =
    (bytes more : List ℕ) (end : BodyEnd) → StandsFor next bytes more end → StandsFor stage (text ++ bytes) (payload ++ more) end

-- What was left lost a text that gives this data, and leads from one stage to another.
abbrev pub Moves : Stage → Stage → Option (List ℕ) → Option (List ℕ) → List ℕ → Type 0
Moves stage next left new_left payload = (text : List ℕ) × Consumes left new_left text × Passes stage text payload next

-- The body is refused so from that stage on. Of a failed read it says nothing.
abbrev pub IsRefused : BodyFault → Stage → Option (List ℕ) → Type 0
IsRefused ReadFault stage left = ⊤
IsRefused Cut stage left = IfSome left (λ bytes. StandsFor stage bytes [] (Refused Cut))
IsRefused BadChunk stage left = IfSome left (λ bytes. StandsFor stage bytes [] (Refused BadChunk))
IsRefused TooLong stage left = IfSome left (λ bytes. StandsFor stage bytes [] (Refused TooLong))
IsRefused BadForm stage left = ⊥
IsRefused Memory stage left = ⊥

-- A read gives next data, none only at the body's end or with no room. Where the body is refused, the bytes read are
-- gone, and the body stands behind them.
abbrev pub ReadsBody : Result ℕ BodyFault → Stage → Stage → Option (List ℕ) → Option (List ℕ) → List ℕ → Type 0
ReadsBody (Ok count) stage next left new_left room =
    (count ≤ length room) × Moves stage next left new_left (take count room) × (count ≡ 0 → 0 < length room → next ≡ Length 0)
ReadsBody (Err fault) stage next left new_left room = Moves stage next left new_left [] × IsRefused fault next new_left
