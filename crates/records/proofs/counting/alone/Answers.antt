use Rattle.std.proofs.Common.{[]}
use Rattle.records.proofs.counting.alone.Goals as goal

pub returns : goal.returns
returns c = λ inner is. c.message.ensures [] inner c.none-text.ensures is
