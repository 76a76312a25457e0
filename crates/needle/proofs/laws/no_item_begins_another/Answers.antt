use Rattle.needle.proofs.Apart.{apart, begin_alike}
use Rattle.needle.proofs.laws.no_item_begins_another.Goals as goal

pub returns-clause-one : goal.returns-clause-one
returns-clause-one c = begin_alike

pub returns-clause-written : goal.returns-clause-written
returns-clause-written c = apart
