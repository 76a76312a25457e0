use Rattle.std.proofs.Common.{◌++◌}
use Rattle.std.proofs.lemmas.Result.{err_from_is_err_and}
use Rattle.http_wire.proofs.WrittenLemmas.{front_behind, writes_behind}
use Rattle.http_client.proofs.request.write_around.Goals as goal

pub returns-in_err-write_all-2-clause-bytes : goal.returns-in_err-write_all-2-clause-bytes
returns-in_err-write_all-2-clause-bytes g c =
    let p = err_from_is_err_and c.from_residual-in_err-write_all-2.result c.from_residual-in_err-write_all-2.ensures.1 in
    let written = g.K.Sink.written in
    rw (p.1) (front_behind (written c.args.to.now) (written c.write_all.new.to) (written c.write_all-2.new.to) c.args.front.now c.args.value.now c.args.back.now c.in_ok-write_all.ensures.bytes c.in_err-write_all-2.ensures.bytes)

pub returns-clause-bytes : goal.returns-clause-bytes
returns-clause-bytes g c =
    let written = g.K.Sink.written in
    let last = writes_behind (written c.write_all.new.to) (written c.write_all-2.new.to) (written c.write_all-3.new.to) c.write_all-3.result c.args.value.now c.args.back.now c.in_ok-write_all-2.ensures.bytes c.write_all-3.ensures.bytes in
    writes_behind (written c.args.to.now) (written c.write_all.new.to) (written c.write_all-3.new.to) c.write_all-3.result c.args.front.now (c.args.value.now ++ c.args.back.now) c.in_ok-write_all.ensures.bytes last
