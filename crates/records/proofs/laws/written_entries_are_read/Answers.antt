use Rattle.records.proofs.EntryRoundTrip.{entry_is_read}
use Rattle.records.proofs.laws.written_entries_are_read.Goals as goal

pub returns : goal.returns
returns c = entry_is_read
