use Rattle.meta_log.proofs.Names.{later_on}
use Rattle.meta_log.proofs.standing.is_later_on.Goals as goal

pub returns-in-Some : goal.returns-in-Some
returns-in-Some c = later_on c.args.stem c.args.name.now c.in-Some.digits.now c.has_later_number.result c.in-Some.ensures c.has_later_number.ensures
