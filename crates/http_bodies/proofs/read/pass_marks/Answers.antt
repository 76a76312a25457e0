use Rattle.std.proofs.Common.{◌∙◌}
use Rattle.http_wire.specs.Inbox.{left_of}
use Rattle.http_bodies.proofs.ReadLemmas.{one_more}
use Rattle.http_bodies.proofs.read.pass_marks.Goals as goal

pub loop-from-preserved : goal.loop-from-preserved
loop-from-preserved g c =
    let begun = left_of c.args.inbox.now (g.S.Source.left c.args.from.now) in
    let mid = left_of c.loop-from.inbox (g.S.Source.left c.loop-from.from) in
    let new = left_of c.pass_mark.new.inbox (g.S.Source.left c.pass_mark.new.from) in
    let before = c.loop-from.invariant in
    let passed = c.in_ok-pass_mark.ensures in
    record {
      moves = one_more c.args.body.now c.loop-from.body c.pass_mark.new.body begun mid new before.moves passed.passed;
      faults = passed.cause.quiet (λ failed. cc) ∙ before.faults;
      beside = passed.beside ∙ before.beside;
      course = λ start was. passed.course start (before.course start was);
    }
