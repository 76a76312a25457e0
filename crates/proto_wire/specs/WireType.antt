-- The wire types, by the numbers that a tag has for them.
use Rattle.std.specs.Prelude.{ℕ}
use Rattle.proto_wire.specs.declared.wire_type.WireType.{WireType}
use Rattle.proto_wire.specs.declared.wire_type.WireType.TheVariants.{Varint, Fixed64, Bytes, Fixed32}

-- The number of a wire type.
abbrev pub code_of : WireType → ℕ
code_of Varint = 0
code_of Fixed64 = 1
code_of Bytes = 2
code_of Fixed32 = 5
