use Rattle.std.proofs.Common.{List, ℕ, subst, sym}
use Rattle.std.specs.Prelude.{IfSome}
use Rattle.meta_log.specs.LogText.{HasText, IsAllowed}
use Rattle.meta_log.proofs.opening.open_stem.Goals as goal

pub returns-in-Log-clause-kept : goal.returns-in-Log-clause-kept
returns-in-Log-clause-kept g c =
    subst (λ s. (payloads : List (List ℕ)) → IfSome (g.D.Disk.files c.args.disk.now) (λ files. HasText (IsAllowed s) c.args.stem files payloads) → IfSome (g.D.Disk.files c.open_first.new.disk) (λ files. HasText (IsAllowed s) c.args.stem files payloads))
    (sym c.in-Log.is) c.open_first.ensures.kept

pub returns-in-Marks-clause-kept : goal.returns-in-Marks-clause-kept
returns-in-Marks-clause-kept g c =
    subst (λ s. (payloads : List (List ℕ)) → IfSome (g.D.Disk.files c.args.disk.now) (λ files. HasText (IsAllowed s) c.args.stem files payloads) → IfSome (g.D.Disk.files c.open_first-in-Marks.new.disk) (λ files. HasText (IsAllowed s) c.args.stem files payloads))
    (sym c.in-Marks.is) c.open_first-in-Marks.ensures.kept
