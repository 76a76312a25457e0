use Rattle.std.specs.FinMap.{empty}
use Rattle.volume_items.proofs.Appended.{items_appended, end-appended, stored-appended, indexed-appended}
use Rattle.volume_items.proofs.laws.an_item_at_the_end_is_the_last.Goals as goal

pub returns-clause-items : goal.returns-clause-items
returns-clause-items c = items_appended

pub returns-clause-contents : goal.returns-clause-contents
returns-clause-contents c = stored-appended empty

pub returns-clause-index : goal.returns-clause-index
returns-clause-index c = indexed-appended 8 empty

pub returns-clause-end : goal.returns-clause-end
returns-clause-end c = end-appended
