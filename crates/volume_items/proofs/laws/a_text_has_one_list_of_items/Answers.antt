use Rattle.volume_items.proofs.Appended.{items_unique}
use Rattle.volume_items.proofs.laws.a_text_has_one_list_of_items.Goals as goal

pub returns : goal.returns
returns c = items_unique
