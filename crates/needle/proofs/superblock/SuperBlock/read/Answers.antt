use Rattle.std.proofs.Common.{rules}
use Rattle.needle.proofs.SuperBlocks.{found_answer, only_answer, refused_answer}
use Rattle.needle.proofs.superblock.SuperBlock.read.Goals as goal

pub returns-clause-found : goal.returns-clause-found
returns-clause-found c = found_answer c.args.text.now c.parsed.result c.parsed.ensures

pub returns-clause-only : goal.returns-clause-only
returns-clause-only c =
    λ block fits spells. only_answer c.args.text.now block c.parsed.result (search rules) (search rules) c.parsed.ensures fits spells

pub returns-clause-refused : goal.returns-clause-refused
returns-clause-refused c = refused_answer c.args.text.now c.parsed.result (search rules) c.parsed.ensures
