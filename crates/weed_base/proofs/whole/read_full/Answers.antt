use Rattle.std.proofs.Common.{◌∙◌, arith}
use Rattle.std.proofs.lemmas.List.{length-drop}
use Rattle.weed_base.specs.declared.source.Failed.{Failed}
use Rattle.weed_base.proofs.WholeLemmas.{consumes_more, ok_quiet}
use Rattle.weed_base.proofs.whole.read_full.Goals as goal

pub loop-done-preserved : goal.loop-done-preserved
loop-done-preserved g c =
    let left = g.S.Source.left in
    let done = c.loop-done.done in
    let room = c.read_behind.new.room in
    let count = c.in_ok-count.count in
    let taken = c.in_ok-count.ensures in
    record {
      within = omega (arith, taken.bytes.0, length-drop done room);
      bytes = consumes_more (left c.args.from.now) (left c.loop-done.from) (left c.read_behind.new.from) c.loop-done.room room done count c.loop-done.invariant.bytes taken.front taken.bytes.1;
      faults = taken.cause.quiet (ok_quiet Failed count) ∙ c.loop-done.invariant.faults;
      beside = taken.beside ∙ c.loop-done.invariant.beside;
      course = λ start before. taken.course start (c.loop-done.invariant.course start before);
    }
