use Rattle.std.proofs.Common.{sym, subst, ap, ◌∙◌, Err, length, rules}
use Rattle.std.specs.Prelude.{IfSome}
use Rattle.std.proofs.lemmas.Result.{err_from_is_err_and}
use Rattle.volume.specs.Deletes.{DeletesFrom}
use Rattle.volume.proofs.Deleted.{told_deleted, told_refused}
use Rattle.volume.proofs.held.Volume.delete_held.Goals as goal

pub returns-in_err-needle-clause-from : goal.returns-in_err-needle-clause-from
returns-in_err-needle-clause-from g c =
    let p = err_from_is_err_and c.from_residual.result c.from_residual.ensures.1 in
    let told = g.D.Disk.files c.args.disk.now in
    subst (λ r. IfSome told (DeletesFrom c.args.self.now c.args.key c.args.cookie r)) (sym (p.1 ∙ ap Err p.2))
    (told_refused told c.args.self.now c.args.key c.args.cookie c.in_err-needle.field-0.0 c.in_err-needle.ensures.answer c.in_err-needle.ensures.contents)

pub returns-clause-from : goal.returns-clause-from
returns-clause-from g c =
    told_deleted (g.D.Disk.files c.args.disk.now) c.args.self.now c.args.key c.args.cookie _ c.in_ok-needle.needle (search rules) (ap length c.as_slice.ensures) c.in_ok-needle.ensures.contents
