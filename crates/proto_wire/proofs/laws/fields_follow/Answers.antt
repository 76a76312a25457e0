use Rattle.proto_wire.proofs.Fields.{fields_of-nil, fields_of-first, fields_of-fault, fields_of-field}
use Rattle.proto_wire.proofs.laws.fields_follow.Goals as goal

pub returns-clause-none : goal.returns-clause-none
returns-clause-none c = fields_of-nil

pub returns-clause-first : goal.returns-clause-first
returns-clause-first c = fields_of-first

pub returns-clause-fault : goal.returns-clause-fault
returns-clause-fault c = fields_of-fault

pub returns-clause-written : goal.returns-clause-written
returns-clause-written c = fields_of-field
