use Rattle.records.proofs.RecordSizes.{directories_are_short}
use Rattle.records.proofs.laws.records_of_directories_are_short.Goals as goal

pub returns : goal.returns
returns c = directories_are_short
