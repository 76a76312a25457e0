use Rattle.std.proofs.Common.{◌∙◌, ◌++◌, ◌-◌, take, drop, Some, ℕ, sym, ap, subst}
use Rattle.spans.specs.Denotation.{Reaches}
use Rattle.spans.specs.Spans.{Adds}
use Rattle.spans.proofs.Spans.{adds_needle, adds_zeros}
use Rattle.spans.proofs.span.add_run.Goals as goal

pub returns-in_ok-add_zeros-in-None-clause-ok : goal.returns-in_ok-add_zeros-in-None-clause-ok
returns-in_ok-add_zeros-in-None-clause-ok g c =
    subst (λ seen. Adds (g.B.Blobs.needles c.args.blobs.now) seen c.args.at (c.args.run.now.to - c.args.at) c.args.bytes.now.items c.add_zeros.new.bytes.items) (sym c.in-None.is)
    (adds_zeros _ _ _ c.args.at _ c.in_ok-add_zeros-in-None.ensures)

pub returns-in_ok-extend_from_slice-in-Some-clause-ok : goal.returns-in_ok-extend_from_slice-in-Some-clause-ok
returns-in_ok-extend_from_slice-in-Some-clause-ok g c =
    let chunk = c.in-Some.chunk in
    let fetched = c.in_ok-fetch-in-Some.ensures in
    let start : ℕ = c.args.at - chunk.offset in
    let many : ℕ = (c.args.run.now.to - chunk.offset) - start in
    let reach : Reaches (Some chunk) c.args.at c.args.run.now.to = subst (λ seen. Reaches seen c.args.at c.args.run.now.to) c.in-Some.is c.requires.reach in
    subst (λ seen. Adds (g.B.Blobs.needles c.args.blobs.now) seen c.args.at (c.args.run.now.to - c.args.at) c.args.bytes.now.items c.extend_from_slice.new.self.items) (sym c.in-Some.is)
    (adds_needle _ chunk c.fetch.new.needle _ _ c.args.at c.args.run.now.to reach.0 c.requires.filled reach.1 fetched.long fetched.held
    (c.in_ok-extend_from_slice-in-Some.ensures.items ∙ ap (λ bytes. c.args.bytes.now.items ++ take many (drop start bytes)) c.as_slice.ensures))
