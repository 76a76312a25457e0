use Rattle.proto_wire.proofs.Grammar.{field_again}
use Rattle.proto_wire.proofs.laws.fields_are_read.Goals as goal

pub returns : goal.returns
returns c = λ text rest number value. field_again text number value rest
