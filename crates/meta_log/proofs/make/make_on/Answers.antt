use Rattle.std.proofs.Common.{inl, inr, sym, subst, ◌∙◌}
use Rattle.std.proofs.lemmas.Result.{err_from_is_err_and}
use Rattle.weed_base.specs.Files.{made, BothTold}
use Rattle.meta_log.specs.LogText.{ChangesOnly}
use Rattle.meta_log.specs.Making.{IsPrepared, IsFresh, IsFreshOrEmpty}
use Rattle.meta_log.proofs.Told.{told_done, told_failed, both_done, both_failed, on_ok_always, on_err_always}
use Rattle.meta_log.proofs.Made.{on_made, made_others, unchanged}
use Rattle.std.specs.Prelude.{OnOk}
use Rattle.weed_base.specs.Images.{Only}
use Rattle.weed_base.proofs.ImageLemmas.{leaves_both, leaves_call}
use Rattle.meta_log.proofs.OpenCrashes.{on_taken}
use Rattle.meta_log.proofs.make.make_on.Goals as goal

pub returns-in_err-make-clause-failed : goal.returns-in_err-make-clause-failed
returns-in_err-make-clause-failed g c =
    let p = err_from_is_err_and c.from_residual.result c.from_residual.ensures.1 in
    rw p.1 (told_failed (IsPrepared c.args.stem) (IsFreshOrEmpty c.args.stem) (made c.first_on.result) _ _ c.in_err-make.ensures.files
    (λ files ready. inl ready.none) (λ files ready. inr (on_made c.args.stem _ c.first_on.ensures files ready)) c.requires.prepared)

pub returns-in_err-make-clause-others : goal.returns-in_err-make-clause-others
returns-in_err-make-clause-others g c =
    subst (λ name. BothTold (ChangesOnly name) (g.D.Disk.files c.args.disk.now) (g.D.Disk.files c.make.new.self)) c.first_on.ensures
    (both_failed (ChangesOnly c.first_on.result) (made c.first_on.result) _ _ c.in_err-make.ensures.files (unchanged _) (made_others _))

pub returns-clause-made : goal.returns-clause-made
returns-clause-made g c =
    on_ok_always c.sync.result
    (told_done (IsPrepared c.args.stem) (IsFresh c.args.stem) (made c.first_on.result) _ _ (c.sync.ensures.files ∙ c.in_ok-make.ensures.files)
    (on_made c.args.stem _ c.first_on.ensures) c.requires.prepared)

pub returns-clause-failed : goal.returns-clause-failed
returns-clause-failed g c =
    on_err_always c.sync.result
    (told_done (IsPrepared c.args.stem) (IsFreshOrEmpty c.args.stem) (made c.first_on.result) _ _ (c.sync.ensures.files ∙ c.in_ok-make.ensures.files)
    (λ files ready. inr (on_made c.args.stem _ c.first_on.ensures files ready)) c.requires.prepared)

pub returns-clause-others : goal.returns-clause-others
returns-clause-others g c =
    subst (λ name. BothTold (ChangesOnly name) (g.D.Disk.files c.args.disk.now) (g.D.Disk.files c.sync.new.self)) c.first_on.ensures
    (both_done (ChangesOnly c.first_on.result) (made c.first_on.result) _ _ (c.sync.ensures.files ∙ c.in_ok-make.ensures.files) (made_others _))

-- what a crash leaves
pub returns-in_err-make-clause-atomic : goal.returns-in_err-make-clause-atomic
returns-in_err-make-clause-atomic g c prepared =
    leaves_call g.D.Disk.tick g.D.Disk.image_since g.D.Disk.images c.args.disk.now c.make.new.self (IsFreshOrEmpty c.args.stem) c.make.ensures.time
    (on_taken c.args.stem c.first_on.result c.first_on.ensures (g.D.Disk.images c.args.disk.now) (g.D.Disk.images c.make.new.self) c.make.ensures.images prepared)

pub returns-clause-atomic : goal.returns-clause-atomic
returns-clause-atomic g c prepared =
    let P = IsFreshOrEmpty c.args.stem in
    let taken = on_taken c.args.stem c.first_on.result c.first_on.ensures (g.D.Disk.images c.args.disk.now) (g.D.Disk.images c.make.new.self) c.make.ensures.images prepared in
    leaves_both g.D.Disk.tick g.D.Disk.image_since c.args.disk.now c.make.new.self c.sync.new.self P
    (leaves_call g.D.Disk.tick g.D.Disk.image_since g.D.Disk.images c.args.disk.now c.make.new.self P c.make.ensures.time taken)
    (leaves_call g.D.Disk.tick g.D.Disk.image_since g.D.Disk.images c.make.new.self c.sync.new.self P c.sync.ensures.time (λ image left. taken image (c.sync.ensures.images image left)))

pub returns-clause-settled : goal.returns-clause-settled
returns-clause-settled g c = subst (λ told. OnOk c.sync.result (Only told (g.D.Disk.images c.sync.new.self))) (sym c.sync.ensures.files) c.sync.ensures.settled
