use Rattle.std.proofs.Common.{ap, sym}
use Rattle.weed_base.specs.Path.{parts_in}
use Rattle.weed_base.proofs.PathLemmas.{root_is_path}
use Rattle.weed_base.proofs.PathFaultLemmas.{long_parts_in, read_kept, read_root}
use Rattle.weed_base.proofs.path.spelling_of.Goals as goal

pub returns-then-text-eq1-clause-parts : goal.returns-then-text-eq1-clause-parts
returns-then-text-eq1-clause-parts c = sym (ap parts_in (read_root c.args.text.now c.requires c.if-text-eq1.true))

pub returns-then-text-eq1-clause-path : goal.returns-then-text-eq1-clause-path
returns-then-text-eq1-clause-path c = root_is_path

pub returns-else-text-eq1-clause-parts : goal.returns-else-text-eq1-clause-parts
returns-else-text-eq1-clause-parts c = sym (long_parts_in c.args.text.now c.if-text-eq1.false)

pub returns-else-text-eq1-clause-spelling : goal.returns-else-text-eq1-clause-spelling
returns-else-text-eq1-clause-spelling c = (read_kept c.args.text.now c.requires c.if-text-eq1.false).0.0

pub returns-else-text-eq1-clause-path : goal.returns-else-text-eq1-clause-path
returns-else-text-eq1-clause-path c = (read_kept c.args.text.now c.requires c.if-text-eq1.false).0.1
