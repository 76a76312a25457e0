use Rattle.std.proofs.Common.{ℕ, List, ◌∷◌, ◌<◌, get_or, ap, arith}
use Rattle.meta_log.proofs.Pieces.{length_read}
use Rattle.meta_log.proofs.head.head_behind.Goals as goal

pub returns : goal.returns
returns c =
    let small : (i : ℕ) → get_or c.args.behind.now i 0 < 256 = λ i. omega (arith, c.type_inv.behind i) in
    let read = length_read c.args.behind.now c.from_be_bytes-length.result c.in-len4-up.len_at_least small c.from_be_bytes-length.ensures in
    (read.0, ap (λ (l : List ℕ). 1 ∷ l) read.1, c.if-length-gt-LONGEST.false)
