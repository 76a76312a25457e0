use Rattle.needle.proofs.Slices.{word_tables}
use Rattle.needle.proofs.crc.looked_up.Goals as goal

pub returns : goal.returns
returns c =
    word_tables c.args.tables.now c.args.word c.args.first c.from.result c.from-2.result c.from-3.result c.from-4.result c.to_le_bytes.result
    c.requires.tables c.requires.within c.to_le_bytes.ensures c.from.ensures c.from-2.ensures c.from-3.ensures c.from-4.ensures
