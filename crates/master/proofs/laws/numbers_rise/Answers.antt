use Rattle.master.proofs.Risen.{numbers_rise}
use Rattle.master.proofs.laws.numbers_rise.Goals as goal

pub returns : goal.returns
returns c start end turns run = numbers_rise start end turns run
