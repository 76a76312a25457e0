use Rattle.master.proofs.WrittenAgain.{read_back}
use Rattle.master.proofs.laws.heartbeats_are_read_back.Goals as goal

pub returns : goal.returns
returns c beat fits short = read_back beat fits short
