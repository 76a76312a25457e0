-- What a reader keeps and what its calls answer.
use Rattle.std.specs.Prelude.{◌≡◌, ◌<◌, ℕ, List, [], ◌∷◌, ◌++◌, length, slice_index, Option, Some, None, Result, Ok, Err, codes}
use Rattle.proto_wire.specs.declared.fault.WireFault.{WireFault}
use Rattle.proto_wire.specs.declared.fault.WireFault.TheVariants.{Truncated, BadVarint, BadTag, BadWireType}
use Rattle.proto_wire.specs.declared.field.Field.{Field}
use Rattle.proto_wire.specs.Field.{◌>>=◌, FieldText, field_text, IsField, field_at, with_first, fields_of}
use Rattle.proto_wire.specs.Refusal.{IsRefused}

-- The name of a fault.
abbrev pub name_of : WireFault → List ℕ
name_of Truncated = codes "Truncated"
name_of BadVarint = codes "BadVarint"
name_of BadTag = codes "BadTag"
name_of BadWireType = codes "BadWireType"

-- What a function returned, seen by view, is what reading gives.
abbrev pub Gives : {X Y : Type 0} → (X → Y) → Result X WireFault → Result Y WireFault → Type 0
Gives view (Ok x) read = read ≡ Ok (view x)
Gives view (Err fault) read = read ≡ Err fault

-- A reader is the bytes left, or the fault that it met. None comes exactly at the end.
abbrev pub next_of : Result (List ℕ) WireFault → Result (Option FieldText) WireFault
next_of (Err fault) = Err fault
next_of (Ok []) = Ok None
next_of (Ok (b ∷ bytes)) = field_at (b ∷ bytes) >>= λ found. Ok (Some found.0)

-- What is left behind the next field.
abbrev pub left_after : Result (List ℕ) WireFault → Result (List ℕ) WireFault
left_after (Err fault) = Err fault
left_after (Ok []) = Ok []
left_after (Ok (b ∷ bytes)) = field_at (b ∷ bytes) >>= λ found. Ok found.1

-- How many bytes are left.
abbrev pub bytes_left : Result (List ℕ) WireFault → ℕ
bytes_left (Err fault) = 0
bytes_left (Ok bytes) = length bytes

-- All fields that are left, or the first fault.
abbrev pub fields_left : Result (List ℕ) WireFault → Result (List FieldText) WireFault
fields_left (Err fault) = Err fault
fields_left (Ok bytes) = fields_of bytes

-- A call took the first of the fields that were left, or there was none, or the fault.
abbrev pub TakesFirst : Result (Option Field) WireFault → Result (List FieldText) WireFault → Result (List FieldText) WireFault → Type 0
TakesFirst (Ok None) old new = old ≡ Ok []
TakesFirst (Ok (Some field)) old new = old ≡ with_first (field_text field) new
TakesFirst (Err fault) old new = old ≡ Err fault

-- ---- The same by the grammar

-- The field stood at the front of what was left, and what was behind it is left.
pub record Passes (old new : Result (List ℕ) WireFault) (field : FieldText) : Type 0 where
  pub text : List ℕ
  pub rest : List ℕ
  pub front : old ≡ Ok (text ++ rest)
  pub spelled : IsField text field.number field.value
  pub behind : new ≡ Ok rest

-- The fault was met before, or what is left is refused with it.
abbrev pub HasFault : Result (List ℕ) WireFault → WireFault → Type 0
HasFault (Err met) fault = met ≡ fault
HasFault (Ok bytes) fault = (0 < length bytes) × IsRefused fault bytes

-- What is left are bytes, each below 256.
abbrev pub AreBytes : Result (List ℕ) WireFault → Type 0
AreBytes (Err fault) = Unit {0}
AreBytes (Ok bytes) = (i : ℕ) → slice_index bytes i < 256
