use Rattle.std.proofs.Common.{◌∙◌, ◌-◌, Option, sym, subst, arith}
use Rattle.std.specs.Prelude.{IfErr}
use Rattle.std.proofs.lemmas.Result.{err_from_is_err_and}
use Rattle.spans.specs.declared.span_fault.SpanFault.{SpanFault}
use Rattle.entry.specs.Needles.{Needles}
use Rattle.spans.specs.Spans.{Adds, IsFaultSeen, IsServed, StopsUnlessMemory}
use Rattle.spans.proofs.Spans.{counts_on, run_length, run_told, run_served, run_stops}
use Rattle.spans.proofs.span.read_spans.Goals as goal

-- With one run more
pub loop-at-preserved : goal.loop-at-preserved
loop-at-preserved g c =
    let so_far = c.loop-at.invariant in
    let run = c.run_from-run.result in
    let seen = c.run_from-run.ensures in
    let added = c.in_ok-add_run.ensures in
    let adds : Adds (g.B.Blobs.needles c.args.blobs.now) run.chunk c.loop-at.at (run.to - c.loop-at.at) c.loop-at.bytes.items c.add_run.new.bytes.items =
    subst (λ told. Adds told run.chunk c.loop-at.at (run.to - c.loop-at.at) c.loop-at.bytes.items c.add_run.new.bytes.items) so_far.5 added.ok in
    let served : IsServed (g.B.Blobs.needles c.args.blobs.now) run.chunk = subst (λ told. IsServed told run.chunk) so_far.5 added.served in (
      omega (arith, so_far.0, seen.filled),
      seen.within,
      run_length (g.B.Blobs.needles c.args.blobs.now) run.chunk c.args.from c.loop-at.at run.to _ _ so_far.2 seen.filled adds,
      run_told (g.B.Blobs.needles c.args.blobs.now) c.args.chunks.now run.chunk c.args.from c.loop-at.at run.to _ _ so_far.0 seen.filled seen.seen so_far.3 adds,
      run_served (g.B.Blobs.needles c.args.blobs.now) c.args.chunks.now run.chunk c.args.from c.loop-at.at run.to seen.seen so_far.4 served,
      added.needles ∙ so_far.5,
      added.beside ∙ so_far.6,
      counts_on _ _ _ _ so_far.7 added.faults,
      counts_on _ _ _ _ so_far.8 added.misses,
      c.spans_after-rest.ensures.apart,
      λ q after. c.spans_after-rest.ensures.same q (omega (arith, seen.filled, after)) ∙ so_far.10 q (omega (arith, seen.filled, after)),
    )

-- The fault of a run is that of its first position.
pub returns-in_err-add_run-clause-stopped : goal.returns-in_err-add_run-clause-stopped
returns-in_err-add_run-clause-stopped g c =
    let told : Option Needles = g.B.Blobs.needles c.args.blobs.now in
    let so_far = c.loop-at.invariant in
    let run = c.run_from-run.result in
    let seen = c.run_from-run.ensures in
    let fault : SpanFault = c.in_err-add_run.field-0.0 in
    let is : IsFaultSeen told run.chunk fault = subst (λ t. IsFaultSeen t run.chunk fault) so_far.5 c.in_err-add_run.ensures.err in
    let handed = err_from_is_err_and c.from_residual-in_err-add_run.result c.from_residual-in_err-add_run.ensures.1 in
    let stops : StopsUnlessMemory told c.args.chunks.now c.args.from c.args.to fault =
    run_stops told c.args.chunks.now run.chunk c.args.from c.loop-at.at run.to c.args.to fault so_far.0 seen.filled seen.within seen.seen so_far.4 is in
    subst (λ result. IfErr result (StopsUnlessMemory told c.args.chunks.now c.args.from c.args.to)) (sym handed.1)
    (subst (StopsUnlessMemory told c.args.chunks.now c.args.from c.args.to) (sym handed.2) stops)
