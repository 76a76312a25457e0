use Rattle.std.proofs.Common.{◌∙◌, Ok, ap, subst, arith}
use Rattle.httparse.specs.Grammar.{ChunkLine, HasNoChunkLine, NeverHasChunkLine, MayBecomeChunkLine}
use Rattle.httparse.specs.Outcome.{IfComplete, OnPartial}
use Rattle.httparse.specs.Spans.{IsChunkLineAt}
use Rattle.http_bodies.specs.Found.{least_line}
use Rattle.http_bodies.proofs.ChunkLemmas.{finds_line, finds_over, finds_no_line, finds_long_line, finds_open_line}
use Rattle.http_bodies.proofs.mark.read_line.Goals as goal

pub returns-in-Ok-Partial : goal.returns-in-Ok-Partial
returns-in-Ok-Partial c =
    let bytes = c.args.bytes.now in
    let is = c.in-Ok-Partial.is ∙ ap Ok c.in-Ok-Partial.field-0-is in
    let window = c.line_window-window.result.now in
    finds_open_line bytes c.args.allowed
    (subst HasNoChunkLine c.line_window-window.ensures (subst (λ r. OnPartial r (HasNoChunkLine window)) is c.parse_chunk_size.ensures.partial))
    (subst MayBecomeChunkLine c.line_window-window.ensures (subst (λ r. OnPartial r (MayBecomeChunkLine window)) is c.parse_chunk_size.ensures.unfinished))
    (omega (arith, c.if-least_line-le-MAX_LINE.true, c.least_line.ensures, ap least_line c.line_window-window.ensures))

pub returns-in-Ok-Partial-2 : goal.returns-in-Ok-Partial-2
returns-in-Ok-Partial-2 c =
    let is = c.in-Ok-Partial.is ∙ ap Ok c.in-Ok-Partial.field-0-is in
    let window = c.line_window-window.result.now in
    finds_long_line c.args.bytes.now c.args.allowed
    (subst HasNoChunkLine c.line_window-window.ensures (subst (λ r. OnPartial r (HasNoChunkLine window)) is c.parse_chunk_size.ensures.partial))
    (omega (arith, c.if-least_line-le-MAX_LINE.false, c.least_line.ensures, ap least_line c.line_window-window.ensures))

pub returns-in-Ok-Complete : goal.returns-in-Ok-Complete
returns-in-Ok-Complete c =
    let bytes = c.args.bytes.now in
    let window = c.line_window-window.result.now in
    let held : (l : ChunkLine) × IsChunkLineAt window c.in-Ok-Complete.field-0-0-0 c.in-Ok-Complete.size l =
    subst (λ r. IfComplete r (λ p. (l : ChunkLine) × IsChunkLineAt window p.0 p.1 l)) (c.in-Ok-Complete.is ∙ ap Ok c.in-Ok-Complete.field-0-is) c.parse_chunk_size.ensures.complete in
    let found = subst (λ xs. (l : ChunkLine) × IsChunkLineAt xs c.in-Ok-Complete.field-0-0-0 c.in-Ok-Complete.size l) c.line_window-window.ensures held in
    finds_over bytes c.args.allowed c.in-Ok-Complete.field-0-0-0 c.in-Ok-Complete.size found.0 found.1 (omega (arith, c.if-size-allowed.true))

pub returns-in-Ok-Complete-2 : goal.returns-in-Ok-Complete-2
returns-in-Ok-Complete-2 c =
    let bytes = c.args.bytes.now in
    let window = c.line_window-window.result.now in
    let held : (l : ChunkLine) × IsChunkLineAt window c.in-Ok-Complete.field-0-0-0 c.in-Ok-Complete.size l =
    subst (λ r. IfComplete r (λ p. (l : ChunkLine) × IsChunkLineAt window p.0 p.1 l)) (c.in-Ok-Complete.is ∙ ap Ok c.in-Ok-Complete.field-0-is) c.parse_chunk_size.ensures.complete in
    let found = subst (λ xs. (l : ChunkLine) × IsChunkLineAt xs c.in-Ok-Complete.field-0-0-0 c.in-Ok-Complete.size l) c.line_window-window.ensures held in
    rw (c.behind_line.ensures) (finds_line bytes c.args.allowed c.in-Ok-Complete.field-0-0-0 c.in-Ok-Complete.size found.0 found.1 (omega (arith, c.if-size-allowed.false)))

pub returns-in-Err : goal.returns-in-Err
returns-in-Err c = finds_no_line c.args.bytes.now c.args.allowed (subst NeverHasChunkLine c.line_window-window.ensures c.in-Err.ensures.invalid)
