use Rattle.std.proofs.Common.{◌++◌, codes, length}
use Rattle.http_wire.proofs.WrittenLemmas.{writes_behind}
use Rattle.http_client.specs.Request.{length_line}
use Rattle.http_client.proofs.request.write_rest.Goals as goal

pub returns-clause-bytes : goal.returns-clause-bytes
returns-clause-bytes g c =
    let written = g.K.Sink.written in
    let body = c.args.body.now in
    writes_behind (written c.args.to.now) (written c.write_length.new.to) (written c.write_around.new.to) c.write_around.result (length_line c.args.method (length body)) (codes "Connection: close\r\n\r\n" ++ body) c.in_ok-write_length.ensures.bytes c.write_around.ensures.bytes
