use Rattle.std.proofs.Common.{rules}
use Rattle.volume.proofs.Found.{other_key, told_size}
use Rattle.volume.proofs.reading.tells_of.Goals as goal

pub returns-then-head-key : goal.returns-then-head-key
returns-then-head-key c = told_size c.args.text.now c.read-head.result c.args.key c.args.size c.read-head.ensures c.if-head-key.true (search rules)

pub returns-else-head-key : goal.returns-else-head-key
returns-else-head-key c = other_key c.args.text.now c.read-head.result c.args.key c.args.size c.read-head.ensures c.if-head-key.false
