use Rattle.std.proofs.Common.{◌++◌, subst}
use Rattle.std.proofs.lemmas.Result.{err_from_is_err_and}
use Rattle.weed_base.proofs.WholeLemmas.{front_first, writes_behind}
use Rattle.weed_base.specs.Whole.{AppendsFront, WritesAll}
use Rattle.proto_wire.proofs.frame.write_frame.Goals as goal

pub returns-in_err-write_all-clause-bytes : goal.returns-in_err-write_all-clause-bytes
returns-in_err-write_all-clause-bytes g c =
    let written = g.K.Sink.written in
    let p = err_from_is_err_and c.from_residual.result c.from_residual.ensures.1 in
    let front = front_first (written c.args.to.now) (written c.write_all.new.to) c.spell_length.result c.args.payload.now c.in_err-write_all.ensures.bytes in
    rw (p.1) (subst (λ head. AppendsFront (written c.args.to.now) (written c.write_all.new.to) (head ++ c.args.payload.now)) c.spell_length.ensures front)

pub returns-clause-bytes : goal.returns-clause-bytes
returns-clause-bytes g c =
    let written = g.K.Sink.written in
    let whole = writes_behind (written c.args.to.now) (written c.write_all.new.to) (written c.write_all-2.new.to) c.write_all-2.result c.spell_length.result c.args.payload.now c.in_ok-write_all.ensures.bytes c.write_all-2.ensures.bytes in
    subst (λ head. WritesAll (written c.args.to.now) (written c.write_all-2.new.to) c.write_all-2.result (head ++ c.args.payload.now)) c.spell_length.ensures whole
