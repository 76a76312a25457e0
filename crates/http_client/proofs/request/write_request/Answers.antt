use Rattle.std.proofs.Common.{◌++◌, codes, length, subst, sym, ◌∙◌, ap, append_assoc}
use Rattle.http_wire.specs.Written.{WritesAll}
use Rattle.http_wire.proofs.WrittenLemmas.{writes_behind}
use Rattle.http_client.specs.Request.{request_line, host_line, length_line}
use Rattle.http_client.proofs.request.write_request.Goals as goal

pub returns-clause-bytes : goal.returns-clause-bytes
returns-clause-bytes g c =
    let written = g.K.Sink.written in
    let body = c.args.body.now in
    let front = request_line c.args.method c.args.target.now ++ host_line c.args.host.now in
    let line = length_line c.args.method (length body) in
    let close = codes "Connection: close\r\n\r\n" in
    let same = sym (append_assoc front (line ++ close) body ∙ ap (λ xs. front ++ xs) (append_assoc line close body)) in
    subst (WritesAll (written c.args.to.now) (written c.write_rest.new.to) c.write_rest.result) same (writes_behind (written c.args.to.now) (written c.write_front.new.to) (written c.write_rest.new.to) c.write_rest.result front (line ++ (close ++ body)) c.in_ok-write_front.ensures.bytes c.write_rest.ensures.bytes)
