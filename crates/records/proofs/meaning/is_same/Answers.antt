use Rattle.weed_base.proofs.PathOrderLemmas.{same_is}
use Rattle.records.proofs.meaning.is_same.Goals as goal

pub returns : goal.returns
returns c = same_is _ _ _ c.is.ensures
