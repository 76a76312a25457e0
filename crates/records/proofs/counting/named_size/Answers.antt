use Rattle.std.proofs.Common.{[]}
use Rattle.records.proofs.counting.named_size.Goals as goal

pub returns : goal.returns
returns c = c.bytes.ensures [] c.none-text.ensures
