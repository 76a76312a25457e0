use Rattle.std.proofs.Common.{◌∙◌, arith}
use Rattle.std.proofs.lemmas.List.{take_rest}
use Rattle.weed_base.proofs.WholeLemmas.{appends_more, took_some}
use Rattle.weed_base.proofs.whole.write_all.Goals as goal

pub loop-done-preserved : goal.loop-done-preserved
loop-done-preserved g c =
    let written = g.K.Sink.written in
    let taken = c.in-Ok.ensures in
    record {
      within = omega (arith, taken.bytes.0);
      bytes = appends_more (written c.args.to.now) (written c.loop-done.to) (written c.write.new.self) c.args.bytes.now c.loop-done.done c.in-Ok.count c.loop-done.invariant.bytes (simp take_rest at taken.bytes.1);
      faults = taken.cause.quiet (took_some c.in-Ok.count _ (omega arith)) ∙ c.loop-done.invariant.faults;
      beside = taken.beside ∙ c.loop-done.invariant.beside;
      course = λ start before. taken.course start (c.loop-done.invariant.course start before);
    }
