-- What a field is, after the proto3 wire format, and how a text of fields is read from the left. A number may be
-- spelled longer than it needs, in at most ten bytes.
use Rattle.std.specs.Prelude.{◌≡◌, ℕ, zero, suc, ◌+◌, ◌-◌, ◌*◌, ◌/◌, ◌%◌, ◌^◌, ◌<◌, ◌≤◌, List, [], ◌∷◌, ◌++◌, length, take, drop, Result, Ok, Err, nat_lt, nat_le, ◌==◌, ◌&&◌, if◌then◌else◌}
use Rattle.std.specs.Int.{Width, w32, w64, byte_len, to_le_bytes, from_le_bytes}
use Rattle.proto_wire.specs.declared.fault.WireFault.{WireFault}
use Rattle.proto_wire.specs.declared.fault.WireFault.TheVariants.{Truncated, BadVarint, BadTag, BadWireType}
use Rattle.proto_wire.specs.declared.field.Field.{Field}
use Rattle.proto_wire.specs.declared.field.Value.{Value}
use Rattle.proto_wire.specs.declared.field.Value.TheVariants as values
use Rattle.proto_wire.specs.declared.wire_type.WireType.TheVariants as types
use Rattle.proto_wire.specs.Text.{IsFieldNumber}
use Rattle.proto_wire.specs.WireType.{code_of}

-- A value without where it lies in memory.
pub data ValueText : Type 0 where
  Varint : ℕ → ValueText
  Fixed64 : ℕ → ValueText
  Bytes : List ℕ → ValueText
  Fixed32 : ℕ → ValueText

-- A field without where it lies in memory.
pub record FieldText : Type 0 where
  pub number : ℕ
  pub value : ValueText

-- A value as such.
abbrev pub value_text : Value → ValueText
value_text (values.Varint n) = Varint n
value_text (values.Fixed64 n) = Fixed64 n
value_text (values.Bytes bytes) = Bytes bytes.now
value_text (values.Fixed32 n) = Fixed32 n

-- A field as such.
abbrev pub field_text : Field → FieldText
field_text field = record { number = field.number; value = value_text field.value }

-- ---- The grammar

-- A byte below 128 is the last, and stands for itself. One from 128 on has the low seven bits, and the bytes
-- behind it stand for the rest.
abbrev pub StandsFor : List ℕ → ℕ → Type 0
StandsFor [] n = ⊥
StandsFor (b ∷ []) n = (b < 128) × (n ≡ b)
StandsFor (b ∷ c ∷ bytes) n = (128 ≤ b) × (b < 256) × (high : ℕ) × (n + 128 ≡ b + 128 * high) × StandsFor (c ∷ bytes) high

-- Any spelling that is read, also one with zeros at its end.
pub record IsVarint (bytes : List ℕ) (n : ℕ) : Type 0 where
  pub spelled : StandsFor bytes n
  pub short : length bytes ≤ 10
  pub fits : n < 2 ^ 64

-- The wire type of a value, by its number.
abbrev pub kind_of : ValueText → ℕ
kind_of (Varint n) = code_of types.Varint
kind_of (Fixed64 n) = code_of types.Fixed64
kind_of (Bytes bytes) = code_of types.Bytes
kind_of (Fixed32 n) = code_of types.Fixed32

-- A length, and that many bytes.
pub record IsLengthAndBytes (text bytes : List ℕ) : Type 0 where
  pub front : List ℕ
  pub counts : IsVarint front (length bytes)
  pub parts : text ≡ front ++ bytes

-- What stands behind the tag.
abbrev pub IsValue : List ℕ → ValueText → Type 0
IsValue text (Varint n) = IsVarint text n
IsValue text (Fixed64 n) = (n < 2 ^ 64) × (text ≡ to_le_bytes w64 n)
IsValue text (Bytes bytes) = IsLengthAndBytes text bytes
IsValue text (Fixed32 n) = (n < 2 ^ 32) × (text ≡ to_le_bytes w32 n)

-- A tag, and the value of its wire type.
pub record IsField (text : List ℕ) (number : ℕ) (value : ValueText) : Type 0 where
  pub tag : List ℕ
  pub payload : List ℕ
  pub parts : text ≡ tag ++ payload
  pub numbered : IsFieldNumber number
  pub tagged : IsVarint tag (number * 8 + kind_of value)
  pub valued : IsValue payload value

-- ---- Reading from the left: what is at the front and the bytes behind it, or the first fault

-- What is read next, or the first fault.
infixl 10 ◌>>=◌
abbrev pub ◌>>=◌ : {A B : Type 0} → Result A WireFault → (A → Result B WireFault) → Result B WireFault
(Ok x) >>= f = f x
(Err fault) >>= f = Err fault

-- The number that the front spells in at most so many bytes.
abbrev pub number_within : ℕ → List ℕ → Result (ℕ × List ℕ) WireFault
number_within zero bytes = Err BadVarint
number_within (suc most) [] = Err Truncated
number_within (suc most) (b ∷ bytes) =
    if nat_lt b 128 then Ok (b, bytes) else (number_within most bytes >>= λ high. Ok (b - 128 + 128 * high.0, high.1))

-- A varint at the front: at most ten bytes, below 2^64.
unfoldable pub varint_at : List ℕ → Result (ℕ × List ℕ) WireFault
varint_at bytes = number_within 10 bytes >>= λ n. if nat_lt n.0 (2 ^ 64) then Ok n else Err BadVarint

-- A number of that width at the front, with the low byte first.
unfoldable pub fixed_at : Width → List ℕ → Result (ℕ × List ℕ) WireFault
fixed_at w bytes =
    if nat_lt (length bytes) (byte_len w) then Err Truncated else Ok (from_le_bytes w (take (byte_len w) bytes), drop (byte_len w) bytes)

-- A length at the front, and that many bytes.
unfoldable pub bytes_at : List ℕ → Result (List ℕ × List ℕ) WireFault
bytes_at bytes = do
  n ← varint_at bytes
  if nat_lt (length n.1) n.0 then Err Truncated else Ok (take n.0 n.1, drop n.0 n.1)

-- The value at the front, by the number of its wire type; 3, 4, 6 and 7 are refused.
unfoldable pub value_at : ℕ → List ℕ → Result (ValueText × List ℕ) WireFault
value_at kind bytes =
    if kind == 0 then (varint_at bytes >>= λ n. Ok (Varint n.0, n.1))
    else if kind == 1 then (fixed_at w64 bytes >>= λ n. Ok (Fixed64 n.0, n.1))
    else if kind == 2 then (bytes_at bytes >>= λ b. Ok (Bytes b.0, b.1))
    else if kind == 5 then (fixed_at w32 bytes >>= λ n. Ok (Fixed32 n.0, n.1))
    else Err BadWireType

-- The field at the front: its tag and its value. The tag's number is looked at before its wire type.
unfoldable pub field_at : List ℕ → Result (FieldText × List ℕ) WireFault
field_at bytes = do
  tag ← varint_at bytes
  if nat_lt 0 (tag.0 / 8) && nat_le (tag.0 / 8) 536870911 then (value_at (tag.0 % 8) tag.1 >>= λ value. Ok (record { number = tag.0 / 8; value = value.0 }, value.1)) else Err BadTag

-- A field before the others.
abbrev pub with_first : FieldText → Result (List FieldText) WireFault → Result (List FieldText) WireFault
with_first field others = others >>= λ fields. Ok (field ∷ fields)

-- At most so many fields, up to the end of the bytes.
abbrev pub fields_within : ℕ → List ℕ → Result (List FieldText) WireFault
fields_within zero bytes = Ok []
fields_within (suc most) [] = Ok []
fields_within (suc most) (b ∷ bytes) = field_at (b ∷ bytes) >>= λ first. with_first first.0 (fields_within most first.1)

-- All fields of a text, or its first fault. Each field has a byte at least.
unfoldable pub fields_of : List ℕ → Result (List FieldText) WireFault
fields_of bytes = fields_within (length bytes) bytes
