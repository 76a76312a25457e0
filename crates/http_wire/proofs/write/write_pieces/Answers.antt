use Rattle.std.proofs.Common.{List, [], ℕ, take, drop, get_or, ◌+◌, Bor}
use Rattle.std.specs.List.{flat_map}
use Rattle.std.proofs.lemmas.Result.{err_from_is_err_and}
use Rattle.http_wire.proofs.ListLemmas.{flat_map-at}
use Rattle.http_wire.proofs.WrittenLemmas.{front_behind}
use Rattle.http_wire.proofs.write.write_pieces.Goals as goal

pub returns-in_err-write_all-clause-bytes : goal.returns-in_err-write_all-clause-bytes
returns-in_err-write_all-clause-bytes g c =
    let p = err_from_is_err_and c.from_residual.result c.from_residual.ensures.1 in
    let written = g.K.Sink.written in
    let bytes = λ (piece : Bor (List ℕ)). piece.now in
    let i = c.loop-piece.piece-index in
    let pieces = c.args.pieces.now in
    let d : Bor (List ℕ) = record { ref_ptr = (0, 0); now = [] } in
    rw (p.1) (rw (flat_map-at bytes pieces i d c.loop-piece-test.true) (front_behind (written c.args.to.now) (written c.loop-piece.to) (written c.write_all.new.to) (flat_map bytes (take i pieces)) (bytes (get_or pieces i d)) (flat_map bytes (drop (i + 1) pieces)) c.loop-piece.invariant.bytes c.in_err-write_all.ensures.bytes))
