use Rattle.std.proofs.Common.{append_assoc, rules}
use Rattle.weed_command.proofs.answer.answer.Goals as goal

pub returns : goal.returns
returns c = simp append_assoc (search rules)
