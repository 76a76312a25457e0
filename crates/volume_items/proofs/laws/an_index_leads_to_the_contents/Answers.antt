use Rattle.volume_items.proofs.Spots.{index_leads}
use Rattle.volume_items.proofs.laws.an_index_leads_to_the_contents.Goals as goal

pub returns : goal.returns
returns c = index_leads
