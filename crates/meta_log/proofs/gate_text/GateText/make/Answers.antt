use Rattle.std.proofs.Common.{arith}
use Rattle.std.proofs.lemmas.Grind.{common_steps}
use Rattle.meta_log.specs.Segment.{framed}
use Rattle.meta_log.proofs.Frames.{gate_text}
use Rattle.meta_log.proofs.gate_text.GateText.make.Goals as goal

pub invariant_of-result : goal.invariant_of-result
unfolding framed
invariant_of-result c = gate_text c.args.payload.now _ c.requires (grind (arith, common_steps))
