use Rattle.volume_items.proofs.Ordered.{lie_in_order}
use Rattle.volume_items.proofs.laws.an_index_in_order_leads_to_the_living.Goals as goal

pub returns : goal.returns
returns c = lie_in_order
