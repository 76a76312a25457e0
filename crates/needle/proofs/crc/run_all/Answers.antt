use Rattle.needle.proofs.Tables.{tables_are}
use Rattle.needle.proofs.crc.run_all.Goals as goal

pub run_blocks-requires : goal.run_blocks-requires
run_blocks-requires c = tables_are
