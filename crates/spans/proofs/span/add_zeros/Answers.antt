use Rattle.std.proofs.Common.{◌≡◌, ◌+◌, sym, arith}
use Rattle.spans.proofs.Spans.{zeros_behind}
use Rattle.spans.proofs.span.add_zeros.Goals as goal

pub returns : goal.returns
returns c =
    let old = c.args.bytes.now in
    let new = c.resize.new.self in
    let wanted : c.saturating_add-wanted.result ≡ old.len + c.args.count =
    omega (arith, new.small, new.ok.0, new.ok.1, c.saturating_add-wanted.ensures, c.in_ok-resize.ensures.len, c.len.ensures) in
    zeros_behind old.items new.items old.len c.saturating_add-wanted.result c.args.count (sym old.ok.0) c.in_ok-resize.ensures.items wanted
