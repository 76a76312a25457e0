use Rattle.std.proofs.Common.{sym}
use Rattle.file_id.proofs.Cuts.{cut_first-place, cut_first-no_place}
use Rattle.file_id.proofs.reading.cut_first.Goals as goal

pub returns-in_err-at : goal.returns-in_err-at
returns-in_err-at c = rw c.from_residual.ensures (sym (cut_first-no_place c.args.byte c.args.text.now (sym c.in_err-at.ensures)))

pub returns : goal.returns
returns c = sym (cut_first-place c.args.byte c.args.text.now _ (sym c.in_ok-at.ensures))
