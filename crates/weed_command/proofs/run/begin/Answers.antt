use Rattle.std.proofs.Common.{◌∙◌}
use Rattle.std.proofs.lemmas.Result.{err_from_is_err_and}
use Rattle.weed_base.proofs.ImageLemmas.{leaves_nothing, reads_leaves}
use Rattle.meta_log.specs.Images.{HasLogOf}
use Rattle.weed_command.proofs.SurvivalLemmas.{read_and_opened, own_fewer}
use Rattle.weed_command.proofs.RunLemmas.{exit_is_sound}
use Rattle.weed_command.proofs.run.begin.Goals as goal

pub returns-in_err-inbox-clause-atomic : goal.returns-in_err-inbox-clause-atomic
returns-in_err-inbox-clause-atomic g c files told =
    let disk = g.H.Disk in
    let host = c.args.host.now in
    leaves_nothing disk.tick disk.image_since host (HasLogOf (disk.images host))

pub returns-in_err-ready-clause-atomic : goal.returns-in_err-ready-clause-atomic
returns-in_err-ready-clause-atomic g c files told =
    let disk = g.H.Disk in
    let host = c.args.host.now in
    leaves_nothing disk.tick disk.image_since host (HasLogOf (disk.images host))

pub returns-in_err-attach-clause-atomic : goal.returns-in_err-attach-clause-atomic
returns-in_err-attach-clause-atomic g c files told =
    let disk = g.H.Disk in
    let host = c.args.host.now in
    reads_leaves disk.tick disk.images disk.image_since host c.attach.new.host (HasLogOf (disk.images host)) c.attach.ensures.still

pub returns-in_err-filer-clause-atomic : goal.returns-in_err-filer-clause-atomic
returns-in_err-filer-clause-atomic g c files told =
    let disk = g.H.Disk in
    read_and_opened disk.tick disk.images disk.image_since c.args.host.now c.attach.new.host c.open.new.disk c.attach.ensures.still (c.open.ensures.atomic files (c.attach.ensures.files ∙ told))

pub returns-in_err-filer-clause-own : goal.returns-in_err-filer-clause-own
returns-in_err-filer-clause-own g c files told own =
    let p = err_from_is_err_and c.from_residual-in_err-filer.result c.from_residual-in_err-filer.ensures.1 in
    let disk = g.H.Disk in
    rw (p.1, p.2) (exit_is_sound c.in_err-filer.field-0.0
    (c.in_err-filer.ensures.own files (c.attach.ensures.files ∙ told) (own_fewer (disk.images c.args.host.now) (disk.images c.attach.new.host) own c.attach.ensures.still.now)))

pub returns-clause-atomic : goal.returns-clause-atomic
returns-clause-atomic g c files told =
    let disk = g.H.Disk in
    read_and_opened disk.tick disk.images disk.image_since c.args.host.now c.attach.new.host c.open.new.disk c.attach.ensures.still (c.open.ensures.atomic files (c.attach.ensures.files ∙ told))

pub returns-clause-settled : goal.returns-clause-settled
returns-clause-settled g c files records told log = c.in_ok-filer.ensures.settled files records (c.attach.ensures.files ∙ told) log
