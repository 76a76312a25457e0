use Rattle.std.proofs.Common.{ap, ◌∙◌, Err}
use Rattle.std.proofs.lemmas.Result.{err_from_is_err_and}
use Rattle.volume.proofs.Unread.{told_unread}
use Rattle.volume.proofs.standing.stand_on.Goals as goal

pub returns-in_err-block-clause-unread : goal.returns-in_err-block-clause-unread
returns-in_err-block-clause-unread g c =
    let p = err_from_is_err_and c.from_residual-in_err-block.result c.from_residual-in_err-block.ensures.1 in
    told_unread (g.D.Disk.files c.args.disk.now) (g.D.Disk.files c.is_there.new.disk) c.args.id c.file_name-name.result c.from_residual-in_err-block.result c.in_err-block.field-0.0 c.in_ok-is_there.field-0
    (p.1 ∙ ap Err p.2) c.file_name-name.ensures c.in_ok-is_there.ensures.looks.files c.if-not-branch.false c.in_ok-is_there.ensures.there c.in_err-block.ensures.fault
