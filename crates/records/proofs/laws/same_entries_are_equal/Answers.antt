use Rattle.records.proofs.SameEntries.{same_decides}
use Rattle.records.proofs.laws.same_entries_are_equal.Goals as goal

pub returns : goal.returns
returns c = same_decides
