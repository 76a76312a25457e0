use Rattle.std.proofs.Common.{◌≡◌, None}
use Rattle.std.proofs.lemmas.Result.{err_from_is_err_and}
use Rattle.meta_log.proofs.Faulted.{IfDamaged-weaker}
use Rattle.meta_log.specs.Making.{LeavesOthers}
use Rattle.meta_log.specs.declared.stem.Stem.TheVariants.{Log}
use Rattle.weed_command.proofs.FilerLemmas.{filed_from, held_from}
use Rattle.weed_command.proofs.SettlingLemmas.{keeps_fewer}
use Rattle.weed_command.proofs.SurvivalLemmas.{opened_and_read, stays_told, undamaged}
use Rattle.weed_command.proofs.plain_filer.PlainFiler.open.Goals as goal

pub returns-in_err-names-clause-atomic : goal.returns-in_err-names-clause-atomic
returns-in_err-names-clause-atomic g c files told =
    let disk = g.D.Disk in
    opened_and_read disk.tick disk.images disk.image_since c.args.disk.now c.open.new.disk c.replay.new.disk (c.open.ensures.atomic files told) c.replay.ensures.looks.still

pub returns-in_err-names-clause-own : goal.returns-in_err-names-clause-own
returns-in_err-names-clause-own g c files told own =
    let p = err_from_is_err_and c.from_residual-in_err-names.result c.from_residual-in_err-names.ensures.1 in
    let disk = g.D.Disk in
    rw (p.1, p.2) (undamaged (disk.files c.open.new.disk ≡ None) c.in_err-names.field-0.0
    (IfDamaged-weaker _ _ c.in_err-names.field-0.0 (λ file at told_none. told_none c.in_ok-log.ensures.held) c.in_err-names.ensures.damaged)
    (stays_told (LeavesOthers Log) (disk.files c.args.disk.now) (disk.files c.open.new.disk) files told c.open.ensures.others))

pub returns-clause-opened : goal.returns-clause-opened
returns-clause-opened g c = rw c.replay.ensures.looks.files
    (filed_from (g.D.Disk.files c.args.disk.now) (g.D.Disk.files c.open.new.disk) _ c.open.ensures.others c.in_ok-log.ensures.opened
    (rw c.replay.ensures.looks.files at c.in_ok-names.ensures.names))

pub returns-clause-held : goal.returns-clause-held
returns-clause-held g c = rw c.replay.ensures.looks.files
    (held_from (g.D.Disk.files c.args.disk.now) (g.D.Disk.files c.open.new.disk) _ c.open.ensures.others c.in_ok-log.ensures.opened
    (rw c.replay.ensures.looks.files at c.in_ok-names.ensures.names))

pub returns-clause-atomic : goal.returns-clause-atomic
returns-clause-atomic g c files told =
    let disk = g.D.Disk in
    opened_and_read disk.tick disk.images disk.image_since c.args.disk.now c.open.new.disk c.replay.new.disk (c.open.ensures.atomic files told) c.replay.ensures.looks.still

pub returns-clause-settled : goal.returns-clause-settled
returns-clause-settled g c files records told log =
    keeps_fewer (g.D.Disk.images c.open.new.disk) (g.D.Disk.images c.replay.new.disk) records (c.in_ok-log.ensures.settled files records told log) c.replay.ensures.looks.still.now
