use Rattle.mem_keeper.proofs.NameLemmas.{none_are}
use Rattle.mem_keeper.proofs.names.NameTree.new.Goals as goal

pub returns-clause-names : goal.returns-clause-names
returns-clause-names c = none_are
