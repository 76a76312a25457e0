use Rattle.needle_index.proofs.Entries.{entered_all-push}
use Rattle.needle_index.proofs.laws.an_entry_at_the_end_enters.Goals as goal

pub returns : goal.returns
returns c = entered_all-push
