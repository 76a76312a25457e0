use Rattle.weed_base.proofs.PathLemmas.{one_path_each}
use Rattle.weed_base.proofs.path.one_text_each.Goals as goal

pub returns : goal.returns
returns c = one_path_each
