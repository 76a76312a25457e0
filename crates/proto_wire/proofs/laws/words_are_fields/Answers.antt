use Rattle.proto_wire.proofs.Words.{IsField-varint, IsField-fixed32, IsField-bytes, IsField-message}
use Rattle.proto_wire.proofs.laws.words_are_fields.Goals as goal

pub returns-clause-varint : goal.returns-clause-varint
returns-clause-varint c = IsField-varint

pub returns-clause-fixed32 : goal.returns-clause-fixed32
returns-clause-fixed32 c = IsField-fixed32

pub returns-clause-bytes : goal.returns-clause-bytes
returns-clause-bytes c = IsField-bytes

pub returns-clause-message : goal.returns-clause-message
returns-clause-message c = IsField-message
