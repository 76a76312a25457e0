use Rattle.std.proofs.Common.{take}
use Rattle.weed_command.specs.NameTable.{names_of}
use Rattle.weed_command.specs.Replay.{Takes}
use Rattle.weed_command.proofs.replay.take_texts.Given as goal

abbrev pub invariant-loop-text : goal.invariant-loop-text
invariant-loop-text l = Takes (take l.text-index l.texts) (names_of l.fn.names) (names_of l.names)
