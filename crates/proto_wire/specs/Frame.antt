-- Frames: a payload behind its length.
use Rattle.std.specs.Prelude.{◌≡◌, ℕ, ◌≤◌, ◌⊎◌, nat_lt, if◌then◌else◌, List, ◌++◌, length, take, drop, Option, None, Some, Result, Ok, Err, IsErrAnd, MatchResult}
use Rattle.std.specs.Int.{w32, to_be_bytes, from_be_bytes}
use Rattle.weed_base.specs.Told.{Consumes, IsAtEnd}
use Rattle.proto_wire.specs.declared.frame_fault.FrameFault.{FrameFault}
use Rattle.proto_wire.specs.declared.frame_fault.FrameFault.TheVariants.{ReadFault, Truncated, TooLong, Memory}

-- A length in four bytes, the highest first.
unfoldable pub length_text : ℕ → List ℕ
length_text n = to_be_bytes w32 n

-- A payload behind its length.
abbrev pub frame_text : List ℕ → List ℕ
frame_text payload = length_text (length payload) ++ payload

-- The length at the front of bytes; none of no bytes.
unfoldable pub length_at : List ℕ → Result (Option ℕ) FrameFault
length_at bytes =
    if nat_lt 0 (length bytes)
    then (if nat_lt (length bytes) 4 then Err Truncated else Ok (Some (from_be_bytes w32 (take 4 bytes))))
    else Ok None

-- So many bytes, or too few.
abbrev pub payload_at : ℕ → List ℕ → Result (List ℕ) FrameFault
payload_at n bytes = if nat_lt (length bytes) n then Err Truncated else Ok (take n bytes)

-- The payload, there.
abbrev pub some_payload : Result (List ℕ) FrameFault → Result (Option (List ℕ)) FrameFault
some_payload (Ok payload) = Ok (Some payload)
some_payload (Err fault) = Err fault

-- The payload that stands behind a length.
abbrev pub behind_length : ℕ → List ℕ → Result (Option ℕ) FrameFault → Result (Option (List ℕ)) FrameFault
behind_length limit bytes (Ok None) = Ok None
behind_length limit bytes (Ok (Some n)) = if nat_lt limit n then Err (TooLong n) else some_payload (payload_at n (drop 4 bytes))
behind_length limit bytes (Err fault) = Err fault

-- The payload of the frame at the front of bytes, of which there may be as many as the limit; none of no bytes.
unfoldable pub frame_at : ℕ → List ℕ → Result (Option (List ℕ)) FrameFault
frame_at limit bytes = behind_length limit bytes (length_at bytes)

-- A read failed, or memory was wanting.
abbrev pub IsOutsideFault : FrameFault → Type 0
IsOutsideFault fault = (fault ≡ ReadFault) ⊎ (fault ≡ Memory)

-- The result is this one, unless a read failed or memory was wanting.
abbrev pub IsUnlessOutside : {T : Type 0} → Result T FrameFault → Result T FrameFault → Type 0
IsUnlessOutside result exact = (result ≡ exact) ⊎ IsErrAnd result IsOutsideFault

-- What was left has lost some bytes.
abbrev pub LosesSome : Option (List ℕ) → Option (List ℕ) → Type 0
LosesSome old new = (bytes : List ℕ) × Consumes old new bytes

-- What was left has lost a whole frame of at most so many bytes, nothing at its end, and some bytes where the call failed.
abbrev pub TakesFrame : ℕ → Option (List ℕ) → Option (List ℕ) → Result (Option (List ℕ)) FrameFault → Type 0
TakesFrame limit old new (Ok None) = IsAtEnd old × (new ≡ old)
TakesFrame limit old new (Ok (Some payload)) = (length payload ≤ limit) × Consumes old new (frame_text payload)
TakesFrame limit old new (Err fault) = LosesSome old new

-- The same of a length alone.
abbrev pub TakesLength : Option (List ℕ) → Option (List ℕ) → Result (Option ℕ) FrameFault → Type 0
TakesLength old new (Ok None) = IsAtEnd old × (new ≡ old)
TakesLength old new (Ok (Some n)) = Consumes old new (length_text n)
TakesLength old new (Err fault) = LosesSome old new

-- The same of so many bytes.
abbrev pub TakesPayload : ℕ → Option (List ℕ) → Option (List ℕ) → Result (List ℕ) FrameFault → Type 0
TakesPayload n old new result = MatchResult result (λ payload. (length payload ≡ n) × Consumes old new payload) (λ _. LosesSome old new)
