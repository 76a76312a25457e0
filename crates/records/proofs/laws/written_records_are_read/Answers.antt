use Rattle.records.proofs.RoundTrip.{written_is_read}
use Rattle.records.proofs.laws.written_records_are_read.Goals as goal

pub returns : goal.returns
returns c = written_is_read
