-- What a message takes of its fields, by their numbers. Of a field that may stand once the last value counts; a
-- field of another number or wire type is passed over.
use Rattle.std.specs.Prelude.{ℕ, List, [], Option, None, Some, unwrap_or, filter_map, ◌==◌, if◌then◌else◌}
use Rattle.std.specs.List.{last_or}
use Rattle.proto_wire.specs.Field.{ValueText, Varint, Fixed64, Bytes, Fixed32, FieldText}

-- The number of a varint.
abbrev pub varint_of : ValueText → Option ℕ
varint_of (Varint n) = Some n
varint_of (Fixed64 n) = None
varint_of (Bytes bytes) = None
varint_of (Fixed32 n) = None

-- The bytes of a value that has some.
abbrev pub bytes_of : ValueText → Option (List ℕ)
bytes_of (Varint n) = None
bytes_of (Fixed64 n) = None
bytes_of (Bytes bytes) = Some bytes
bytes_of (Fixed32 n) = None

-- The number that a field of this number holds.
abbrev pub number_in : ℕ → FieldText → Option ℕ
number_in number field = if field.number == number then varint_of field.value else None

-- The bytes that a field of this number holds.
abbrev pub text_in : ℕ → FieldText → Option (List ℕ)
text_in number field = if field.number == number then bytes_of field.value else None

-- The last number, or 0.
abbrev pub last_number : ℕ → List FieldText → ℕ
last_number number fields = unwrap_or (last_or None (filter_map (number_in number) fields)) 0

-- All messages of a number, in order.
abbrev pub messages_at : ℕ → List FieldText → List (List ℕ)
messages_at number fields = filter_map (text_in number) fields

-- The last message, if there is one.
abbrev pub last_message : ℕ → List FieldText → Option (List ℕ)
last_message number fields = last_or None (messages_at number fields)

-- The last text, or an empty one.
abbrev pub last_text : ℕ → List FieldText → List ℕ
last_text number fields = unwrap_or (last_message number fields) []
