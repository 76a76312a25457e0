use Rattle.std.proofs.Common.{rules}
use Rattle.needle.proofs.SuperBlocks.{spelled, refused_zeros}
use Rattle.needle.proofs.superblock.SuperBlock.parsed.Goals as goal

pub returns-then-before_last-ne0 : goal.returns-then-before_last-ne0
returns-then-before_last-ne0 c =
    refused_zeros c.args.text.now c.in_ok-version.version c.in_ok-placement.placement (search rules) (search rules) (search rules)

pub returns : goal.returns
returns c =
    spelled c.args.text.now c.in_ok-version.version c.in_ok-placement.placement c.from_be_bytes.result
    (search rules) (search rules) (search rules) (search rules) (search rules) (search rules) (search rules) (search rules)
