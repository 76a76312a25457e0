use Rattle.std.proofs.lemmas.Result.{err_from_is_err_and}
use Rattle.proto_wire.proofs.Refusals.{no_type_unread}
use Rattle.proto_wire.proofs.scan.value_of.Goals as goal

pub returns-in_err-of_code : goal.returns-in_err-of_code
returns-in_err-of_code c =
    let p = err_from_is_err_and c.from_residual.result c.from_residual.ensures.1 in
    let unknown = c.in_err-of_code.ensures.unknown in
    rw (p.1, p.2, unknown.0) (no_type_unread c.args.code c.args.text.now unknown.1)
