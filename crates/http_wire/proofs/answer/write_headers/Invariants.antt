use Rattle.std.proofs.Common.{◌≡◌, take}
use Rattle.std.specs.List.{flat_map}
use Rattle.weed_base.specs.Told.{Appends}
use Rattle.http_wire.specs.Answer.{header_line}
use Rattle.http_wire.proofs.answer.write_headers.Given as goal

abbrev pub invariant-loop-header : goal.invariant-loop-header
invariant-loop-header g l =
    let sink = g.K.Sink in
    record {
      bytes : Appends (sink.written l.fn.to) (sink.written l.to) (flat_map header_line (take l.header-index l.headers));
      faults : sink.faults l.to ≡ sink.faults l.fn.to;
      beside : sink.beside l.to ≡ sink.beside l.fn.to;
      course : (start : _) → g.K.Course.course start l.fn.to → g.K.Course.course start l.to;
    }
