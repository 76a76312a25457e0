use Rattle.std.proofs.Common.{ap, arith, length}
use Rattle.meta_log.specs.GateText.{payload_of}
use Rattle.meta_log.proofs.Frames.{length-ready}
use Rattle.meta_log.proofs.gate_text.GateText.as_slice.Goals as goal

pub slice_bounds-result-count : goal.slice_bounds-result-count
slice_bounds-result-count c =
    omega (arith, ap length c.self.invariant.spelled, length-ready (payload_of c.self.inside.bytes.items), c.deref.ensures.len)

pub slice_bounds-result-start : goal.slice_bounds-result-start
slice_bounds-result-start c =
    omega (arith, ap length c.self.invariant.spelled, length-ready (payload_of c.self.inside.bytes.items), c.deref.ensures.len)
