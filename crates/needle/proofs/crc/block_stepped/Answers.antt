use Rattle.std.proofs.Common.{refl, rules}
use Rattle.needle.proofs.Slices.{block_is}
use Rattle.needle.proofs.crc.block_stepped.Goals as goal

pub returns : goal.returns
returns c =
    block_is c.args.block.now c.args.remainder _ c.word_at-4.result c.word_at.result c.word_at-2.result c.word_at-3.result
    c.looked_up-4.result c.looked_up.result c.looked_up-2.result c.looked_up-3.result c.requires.block (search rules) (search rules) refl
    c.word_at-4.ensures c.word_at.ensures c.word_at-2.ensures c.word_at-3.ensures
    c.looked_up-4.ensures c.looked_up.ensures c.looked_up-2.ensures c.looked_up-3.ensures
