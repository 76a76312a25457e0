use Rattle.weed_base.proofs.PathOrderLemmas.{same_is}
use Rattle.weed_base.proofs.path.PathPartialEq.eq.Goals as goal

pub returns : goal.returns
returns c = same_is c.args.self.now c.args.other.now c.is.result c.is.ensures
