use Rattle.std.proofs.Common.{◌≡◌, ◌++◌, ◌∷◌, [], true, List, ap, ◌∙◌, arith}
use Rattle.entry.specs.Needles.{NeedleText}
use Rattle.mem_blobs.proofs.Places.{puts_next}
use Rattle.mem_blobs.proofs.table.keep.Goals as goal

pub returns-clause-ok : goal.returns-clause-ok
returns-clause-ok c =
    let old : List NeedleText = c.args.needles.now.items in
    let last : NeedleText = record { bytes = c.args.bytes.now; is_held = true } in
    let grown : c.push.new.self.items ≡ old ++ last ∷ [] =
    c.in_ok-push.ensures.items ∙ ap (λ needle. old ++ needle ∷ []) (c.new-2.ensures ∙ ap (λ bytes. record { bytes = bytes; is_held = true }) c.in_ok-bytes.ensures) in
    puts_next old c.push.new.self.items c.args.bytes.now c.fid_at.result c.len.result (omega (arith, c.len.ensures, c.in_ok-push.ensures.len)) c.fid_at.ensures grown
