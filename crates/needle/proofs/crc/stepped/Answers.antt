use Rattle.std.proofs.Common.{ap, ◌∙◌, rules, bit_xor, get_or}
use Rattle.needle.proofs.Tables.{step_by_table}
use Rattle.needle.proofs.crc.stepped.Goals as goal

pub returns : goal.returns
returns c =
    step_by_table c.args.tables.now c.args.remainder c.args.byte c.from.result c.requires (search rules)
    (c.from.ensures ∙ ap (λ bytes. bit_xor (get_or bytes 0 0) c.args.byte) c.to_le_bytes.ensures)
