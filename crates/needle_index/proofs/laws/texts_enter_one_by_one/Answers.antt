use Rattle.needle_index.proofs.Entries.{entered_all-append}
use Rattle.needle_index.proofs.laws.texts_enter_one_by_one.Goals as goal

pub returns : goal.returns
returns c = entered_all-append
