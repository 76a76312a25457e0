use Rattle.proto_wire.proofs.Grammar.{one_field}
use Rattle.proto_wire.proofs.laws.no_field_begins_another.Goals as goal

pub returns : goal.returns
returns c = one_field
