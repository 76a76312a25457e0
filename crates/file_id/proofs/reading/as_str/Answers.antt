use Rattle.std.proofs.Common.{arith}
use Rattle.std.proofs.lemmas.Grind.{common_steps}
use Rattle.file_id.proofs.Digits.{utf8_digits}
use Rattle.file_id.proofs.reading.as_str.Goals as goal

pub unwrap-requires : goal.unwrap-requires
unwrap-requires c = grind (arith, common_steps, utf8_digits c.args.digits.now c.requires)
