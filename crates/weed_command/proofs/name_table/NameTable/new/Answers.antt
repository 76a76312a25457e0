use Rattle.weed_command.proofs.NameLemmas.{none_kept}
use Rattle.weed_command.proofs.name_table.NameTable.new.Goals as goal

pub invariant_of-result : goal.invariant_of-result
invariant_of-result c = record { kept = none_kept _ c.new.ensures.empty }
