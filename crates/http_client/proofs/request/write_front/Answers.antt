use Rattle.std.proofs.Common.{◌++◌, ◌∷◌, codes, subst}
use Rattle.std.proofs.lemmas.Result.{err_from_is_err_and}
use Rattle.http_wire.specs.Written.{AppendsFront, WritesAll}
use Rattle.http_wire.proofs.WrittenLemmas.{front_first, writes_behind}
use Rattle.http_client.specs.Request.{method_name}
use Rattle.http_client.proofs.RequestTextLemmas.{front_lines}
use Rattle.http_client.proofs.request.write_front.Goals as goal

pub returns-in_err-write_around-clause-bytes : goal.returns-in_err-write_around-clause-bytes
returns-in_err-write_around-clause-bytes g c =
    let p = err_from_is_err_and c.from_residual.result c.from_residual.ensures.1 in
    let written = g.K.Sink.written in
    let same = front_lines c.args.method c.args.target.now c.args.host.now in
    rw (p.1) (subst (AppendsFront (written c.args.to.now) (written c.write_around.new.to)) same (front_first (written c.args.to.now) (written c.write_around.new.to) (method_name c.args.method ++ 32 ∷ c.args.target.now) (codes " HTTP/1.1\r\nHost: " ++ (c.args.host.now ++ codes "\r\n")) (rw (c.as_bytes.ensures.value, c.method_name.ensures) at c.in_err-write_around.ensures.bytes)))

pub returns-clause-bytes : goal.returns-clause-bytes
returns-clause-bytes g c =
    let written = g.K.Sink.written in
    let same = front_lines c.args.method c.args.target.now c.args.host.now in
    subst (WritesAll (written c.args.to.now) (written c.write_around-2.new.to) c.write_around-2.result) same (writes_behind (written c.args.to.now) (written c.write_around.new.to) (written c.write_around-2.new.to) c.write_around-2.result (method_name c.args.method ++ 32 ∷ c.args.target.now) (codes " HTTP/1.1\r\nHost: " ++ (c.args.host.now ++ codes "\r\n")) (rw (c.as_bytes.ensures.value, c.method_name.ensures) at c.in_ok-write_around.ensures.bytes) c.write_around-2.ensures.bytes)
