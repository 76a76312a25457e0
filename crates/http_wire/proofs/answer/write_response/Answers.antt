use Rattle.std.proofs.Common.{◌++◌, codes}
use Rattle.std.specs.List.{flat_map}
use Rattle.std.proofs.lemmas.Result.{err_from_is_err_and}
use Rattle.http_wire.specs.Answer.{status_line, header_line, closing_line, shown_body}
use Rattle.http_wire.proofs.WrittenLemmas.{front_first, front_behind, writes_behind}
use Rattle.http_wire.proofs.answer.write_response.Goals as goal

pub returns-in_err-write_status-clause-bytes : goal.returns-in_err-write_status-clause-bytes
returns-in_err-write_status-clause-bytes g c =
    let p = err_from_is_err_and c.from_residual.result c.from_residual.ensures.1 in
    let written = g.K.Sink.written in
    let answer = c.args.answer.now in
    rw (p.1) (front_first (written c.args.to.now) (written c.write_status.new.to) (status_line answer.status) (flat_map header_line answer.headers ++ (closing_line answer.close ++ (codes "\r\n" ++ shown_body answer))) c.in_err-write_status.ensures.bytes)

pub returns-in_err-write_headers-clause-bytes : goal.returns-in_err-write_headers-clause-bytes
returns-in_err-write_headers-clause-bytes g c =
    let p = err_from_is_err_and c.from_residual-in_err-write_headers.result c.from_residual-in_err-write_headers.ensures.1 in
    let written = g.K.Sink.written in
    let answer = c.args.answer.now in
    rw (p.1) (front_behind (written c.args.to.now) (written c.write_status.new.to) (written c.write_headers.new.to) (status_line answer.status) (flat_map header_line answer.headers) (closing_line answer.close ++ (codes "\r\n" ++ shown_body answer)) c.in_ok-write_status.ensures.bytes (rw c.as_slice.ensures at c.in_err-write_headers.ensures.bytes))

pub returns-clause-bytes : goal.returns-clause-bytes
returns-clause-bytes g c =
    let written = g.K.Sink.written in
    let answer = c.args.answer.now in
    let headers = writes_behind (written c.write_status.new.to) (written c.write_headers.new.to) (written c.write_end.new.to) c.write_end.result (flat_map header_line answer.headers) (closing_line answer.close ++ (codes "\r\n" ++ shown_body answer)) (rw c.as_slice.ensures at c.in_ok-write_headers.ensures.bytes) c.write_end.ensures.bytes in
    writes_behind (written c.args.to.now) (written c.write_status.new.to) (written c.write_end.new.to) c.write_end.result (status_line answer.status) (flat_map header_line answer.headers ++ (closing_line answer.close ++ (codes "\r\n" ++ shown_body answer))) c.in_ok-write_status.ensures.bytes headers
