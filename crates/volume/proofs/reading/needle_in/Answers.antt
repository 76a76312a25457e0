use Rattle.std.proofs.Common.{refl, subst, sym, inr}
use Rattle.volume.specs.Reads.{Yields}
use Rattle.std.proofs.Common.{Err}
use Rattle.std.proofs.Common.{◌∙◌}
use Rattle.volume_items.proofs.Judged.{never_true}
use Rattle.volume.proofs.Found.{not_told}
use Rattle.volume.proofs.reading.needle_in.Goals as goal

pub returns-then-not-tells_of-clause-yields : goal.returns-then-not-tells_of-clause-yields
returns-then-not-tells_of-clause-yields c =
    subst (λ fault. Yields c.args.version c.args.text.now c.args.key c.args.size c.args.at (Err fault)) (sym c.no_item.ensures)
    (refl, inr (not_told c.args.version c.args.text.now c.args.key c.args.size c.tells_of.result c.tells_of.ensures (λ yes. never_true (sym c.if-not-tells_of.true ∙ yes)), refl, refl))
