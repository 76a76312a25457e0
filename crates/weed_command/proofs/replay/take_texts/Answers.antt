use Rattle.weed_command.specs.NameTable.{names_of}
use Rattle.weed_command.proofs.ReplayLemmas.{takes_step, takes_ends}
use Rattle.weed_command.proofs.replay.take_texts.Goals as goal

pub loop-text-preserved : goal.loop-text-preserved
loop-text-preserved c =
    takes_step c.args.texts.now c.loop-text.text-index c.text-item.result c.as_slice.result.now c.loop-text-test.true c.text-item.is c.as_slice.ensures
    (names_of c.args.names.now) (names_of c.loop-text.names) (names_of c.take_text.new.names) c.loop-text.invariant
    (rw c.if-not-branch.false at c.in_ok-take_text.ensures)

pub returns-then-not-branch : goal.returns-then-not-branch
returns-then-not-branch c =
    takes_ends c.args.texts.now c.loop-text.text-index c.text-item.result c.as_slice.result.now c.loop-text-test.true c.text-item.is c.as_slice.ensures
    (rw c.if-not-branch.true at c.in_ok-take_text.ensures)
