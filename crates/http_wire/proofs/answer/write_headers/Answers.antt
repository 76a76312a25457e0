use Rattle.std.proofs.Common.{take, drop, get_or, ◌+◌}
use Rattle.std.specs.List.{flat_map}
use Rattle.std.proofs.lemmas.Result.{err_from_is_err_and}
use Rattle.http_wire.specs.Answer.{header_line}
use Rattle.http_wire.proofs.ListLemmas.{flat_map-at}
use Rattle.http_wire.proofs.WrittenLemmas.{front_behind}
use Rattle.http_wire.proofs.answer.write_headers.Goals as goal

pub returns-in_err-write_header-clause-bytes : goal.returns-in_err-write_header-clause-bytes
returns-in_err-write_header-clause-bytes g c =
    let p = err_from_is_err_and c.from_residual.result c.from_residual.ensures.1 in
    let written = g.K.Sink.written in
    let i = c.loop-header.header-index in
    let headers = c.args.headers.now in
    rw (p.1) (rw (flat_map-at header_line headers i c.header-item.result c.loop-header-test.true) (front_behind (written c.args.to.now) (written c.loop-header.to) (written c.write_header.new.to) (flat_map header_line (take i headers)) (header_line (get_or headers i c.header-item.result)) (flat_map header_line (drop (i + 1) headers)) c.loop-header.invariant.bytes (rw c.header-item.is at c.in_err-write_header.ensures.bytes)))
