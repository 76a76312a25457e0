use Rattle.master.proofs.Risen.{keys_rise}
use Rattle.master.proofs.laws.keys_rise.Goals as goal

pub returns : goal.returns
returns c start end turns run = keys_rise start end turns run
