use Rattle.std.proofs.Common.{take, drop, arith, rules}
use Rattle.std.proofs.lemmas.Nat.{le_bytes_4}
use Rattle.needle.proofs.Codecs.{IsBytes-take, IsBytes-drop}
use Rattle.needle.proofs.crc.word_at.Goals as goal

pub returns : goal.returns
returns c =
    le_bytes_4 (take 4 (drop c.args.place c.args.block.now)) c.from_le_bytes.result (search rules)
    (IsBytes-take 4 (drop c.args.place c.args.block.now) (IsBytes-drop c.args.place c.args.block.now (λ i. omega (arith, c.type_inv.block i))))
    (search rules)
