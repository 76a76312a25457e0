use Rattle.std.proofs.Common.{◌≡◌, take}
use Rattle.std.specs.List.{flat_map}
use Rattle.weed_base.specs.Told.{Appends}
use Rattle.http_wire.proofs.write.write_pieces.Given as goal

abbrev pub invariant-loop-piece : goal.invariant-loop-piece
invariant-loop-piece g l =
    let sink = g.K.Sink in
    record {
      bytes : Appends (sink.written l.fn.to) (sink.written l.to) (flat_map (λ piece. piece.now) (take l.piece-index l.pieces));
      faults : sink.faults l.to ≡ sink.faults l.fn.to;
      beside : sink.beside l.to ≡ sink.beside l.fn.to;
      course : (start : _) → g.K.Course.course start l.fn.to → g.K.Course.course start l.to;
    }
