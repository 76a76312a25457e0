use Rattle.std.proofs.Common.{◌<◌, length, arith, rules}
use Rattle.spans.proofs.Runs.{no_span, ends_after, gap_seen, span_seen, span_reaches}
use Rattle.spans.proofs.run.run_from.Goals as goal

pub returns-then-from-span-clause-seen : goal.returns-then-from-span-clause-seen
returns-then-from-span-clause-seen c position after before =
    let some : 0 < length c.args.spans.now = search rules in
    gap_seen c.args.chunks.now c.args.spans.now c.args.from position no_span c.requires.apart c.requires.tell some after (omega arith)

pub bounds-chunks-span : goal.bounds-chunks-span
bounds-chunks-span c =
    let some : 0 < length c.args.spans.now = search rules in
    (span_seen c.args.chunks.now c.args.spans.now c.args.from c.args.from no_span c.requires.tell some (omega arith) (omega arith) (ends_after c.args.spans.now c.args.from no_span some c.requires.after)).inside

pub returns-clause-reach : goal.returns-clause-reach
returns-clause-reach c =
    let some : 0 < length c.args.spans.now = search rules in
    let ends = ends_after c.args.spans.now c.args.from no_span some c.requires.after in
    span_reaches c.args.chunks.now c.args.spans.now c.args.from c.min-2.result no_span c.requires.tell some (omega arith) (omega (arith, ends)) (omega arith)

pub returns-clause-seen : goal.returns-clause-seen
returns-clause-seen c position after before =
    let some : 0 < length c.args.spans.now = search rules in
    (span_seen c.args.chunks.now c.args.spans.now c.args.from position no_span c.requires.tell some (omega arith) after (omega arith)).seen
