use Rattle.std.proofs.Common.{◌∙◌, ap, refl}
use Rattle.std.proofs.lemmas.Result.{err_from_is_err_and}
use Rattle.name_core.specs.Namespace.{after_changes}
use Rattle.weed_command.proofs.FilerLemmas.{reads_back, failed, recorded, holds_more}
use Rattle.weed_command.proofs.GrowthLemmas.{grows_appended, grows_or_not}
use Rattle.weed_command.proofs.SettlingLemmas.{settles_appended}
use Rattle.weed_command.proofs.plain_filer.PlainFiler.append.Goals as goal

pub returns-in_err-append-clause-made : goal.returns-in_err-append-clause-made
returns-in_err-append-clause-made g c =
    let p = err_from_is_err_and c.from_residual-in_err-append.result c.from_residual-in_err-append.ensures.1 in
    rw (p.1, p.2) (failed (g.D.Disk.files c.args.disk.now) (g.D.Disk.files c.append.new.disk) c.args.self.now c.args.self.now c.args.planned c.in_ok-ready.ready
    c.in_err-append.ensures.others c.in_err-append.ensures.failed (reads_back c.args.planned c.in_ok-ready.ready _ (c.in_ok-ready.ensures ∙ c.as_slice.ensures) c.in_ok-text.ensures.read_back))

pub returns-in_err-append-clause-images : goal.returns-in_err-append-clause-images
returns-in_err-append-clause-images g c files records told filed =
    let p = err_from_is_err_and c.from_residual-in_err-append.result c.from_residual-in_err-append.ensures.1 in
    rw (p.1, p.2) (λ keep. c.in_err-append.ensures.atomic files records c.args.planned told filed.log (reads_back c.args.planned c.in_ok-ready.ready _ (c.in_ok-ready.ensures ∙ c.as_slice.ensures) c.in_ok-text.ensures.read_back) refl keep)

pub returns-clause-made : goal.returns-clause-made
returns-clause-made g c =
    recorded (g.D.Disk.files c.args.disk.now) (g.D.Disk.files c.append.new.disk) c.args.self.now _ c.args.planned c.in_ok-ready.ready
    c.in_ok-append.ensures.others c.in_ok-append.ensures.appended (reads_back c.args.planned c.in_ok-ready.ready _ (c.in_ok-ready.ensures ∙ c.as_slice.ensures) c.in_ok-text.ensures.read_back)
    (c.commit.ensures ∙ ap (after_changes c.args.planned.changes) c.in_ok-reserve.ensures.names)

pub returns-clause-images : goal.returns-clause-images
returns-clause-images g c files records told filed =
    let reads = reads_back c.args.planned c.in_ok-ready.ready _ (c.in_ok-ready.ensures ∙ c.as_slice.ensures) c.in_ok-text.ensures.read_back in
    settles_appended g.D.Disk.tick g.D.Disk.images g.D.Disk.image_since c.args.disk.now c.append.new.disk records c.args.planned
    (c.in_ok-append.ensures.atomic files records c.args.planned told filed.log reads refl)
    (c.in_ok-append.ensures.settled files records c.args.planned told filed.log reads refl)

pub returns-clause-held : goal.returns-clause-held
returns-clause-held g c = λ _.
    holds_more (g.D.Disk.files c.args.disk.now) (g.D.Disk.files c.append.new.disk) c.args.self.now _ c.args.planned c.in_ok-ready.ready
    c.in_ok-append.ensures.others c.in_ok-append.ensures.appended (reads_back c.args.planned c.in_ok-ready.ready _ (c.in_ok-ready.ensures ∙ c.as_slice.ensures) c.in_ok-text.ensures.read_back)
    (c.commit.ensures ∙ ap (after_changes c.args.planned.changes) c.in_ok-reserve.ensures.names) c.requires.held

pub returns-in_err-append-clause-grows : goal.returns-in_err-append-clause-grows
returns-in_err-append-clause-grows g c =
    grows_or_not (g.D.Disk.files c.args.disk.now) (g.D.Disk.files c.append.new.disk) c.args.planned c.in_ok-ready.ready (c.in_ok-ready.ensures ∙ c.as_slice.ensures ∙ c.in_ok-text.ensures.text)
    c.in_err-append.ensures.others c.in_err-append.ensures.text_failed

pub returns-clause-grows : goal.returns-clause-grows
returns-clause-grows g c =
    grows_appended (g.D.Disk.files c.args.disk.now) (g.D.Disk.files c.append.new.disk) c.args.planned c.in_ok-ready.ready (c.in_ok-ready.ensures ∙ c.as_slice.ensures ∙ c.in_ok-text.ensures.text)
    c.in_ok-append.ensures.others c.in_ok-append.ensures.text_appended
