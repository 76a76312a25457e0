use Rattle.std.proofs.Common.{[], ◌∷◌, subst}
use Rattle.std.proofs.lemmas.Result.{err_from_is_err_and}
use Rattle.weed_base.specs.Files.{made, written, MayWrite, IsWithin, BothTold}
use Rattle.meta_log.specs.LogText.{NoneFrom, ChangesOnly}
use Rattle.meta_log.specs.Making.{IsPrepared}
use Rattle.meta_log.proofs.Told.{told_done, done_twice, told_failed, told_related, both_done, both_failed, both_twice, on_ok, on_err}
use Rattle.meta_log.proofs.Made.{segment_named, segment_torn, segment_prepared, segment_within, made_others, unchanged, joined}
use Rattle.weed_base.specs.Images.{Tears}
use Rattle.weed_base.proofs.ImageLemmas.{leaves_both, leaves_call, leaves_weaker}
use Rattle.meta_log.specs.Images.{ComesBy}
use Rattle.meta_log.proofs.Crashes.{none_torn}
use Rattle.meta_log.proofs.OpenCrashes.{none_taken}
use Rattle.meta_log.proofs.make.make_segment.Goals as goal

pub returns-in_err-make-clause-failed : goal.returns-in_err-make-clause-failed
returns-in_err-make-clause-failed g c =
    let p = err_from_is_err_and c.from_residual.result c.from_residual.ensures.1 in
    rw p.1 (told_failed (NoneFrom c.args.stem 1) (NoneFrom c.args.stem 1) (made c.first_segment-segment.result) _ _ c.in_err-make.ensures.files
    (λ files none. none) (segment_named c.args.stem _ c.first_segment-segment.ensures) c.requires.none)

pub returns-in_err-make-clause-others : goal.returns-in_err-make-clause-others
returns-in_err-make-clause-others g c =
    subst (λ name. BothTold (ChangesOnly name) (g.D.Disk.files c.args.disk.now) (g.D.Disk.files c.make.new.self)) c.first_segment-segment.ensures
    (both_failed (ChangesOnly c.first_segment-segment.result) (made c.first_segment-segment.result) _ _ c.in_err-make.ensures.files (unchanged _) (made_others _))

pub write_settled-requires : goal.write_settled-requires
write_settled-requires g c =
    told_done (NoneFrom c.args.stem 1) (IsWithin c.first_segment-segment.result 0) (made c.first_segment-segment.result) _ _ c.in_ok-make.ensures.files
    (λ files none. segment_within c.args.stem _ c.first_segment-segment.ensures files) c.requires.none

pub returns-clause-made : goal.returns-clause-made
returns-clause-made g c =
    on_ok _ _ c.write_settled.result c.write_settled.ensures.files
    (λ is. told_done (NoneFrom c.args.stem 1) (IsPrepared c.args.stem) (λ files. written c.first_segment-segment.result 0 (0 ∷ []) (made c.first_segment-segment.result files))
    (g.D.Disk.files c.args.disk.now) _ (done_twice (made c.first_segment-segment.result) (written c.first_segment-segment.result 0 (0 ∷ [])) _ _ _ c.in_ok-make.ensures.files is) (segment_prepared c.args.stem _ c.first_segment-segment.ensures) c.requires.none)

pub returns-clause-failed : goal.returns-clause-failed
returns-clause-failed g c =
    on_err _ _ c.write_settled.result c.write_settled.ensures.files
    (λ may. told_related (NoneFrom c.args.stem 1) (NoneFrom c.args.stem 1) (MayWrite c.first_segment-segment.result 0 (0 ∷ [])) (g.D.Disk.files c.make.new.self) _ may
    (segment_torn c.args.stem _ c.first_segment-segment.ensures)
    (told_done (NoneFrom c.args.stem 1) (NoneFrom c.args.stem 1) (made c.first_segment-segment.result) _ _ c.in_ok-make.ensures.files
    (segment_named c.args.stem _ c.first_segment-segment.ensures) c.requires.none))

pub returns-clause-others : goal.returns-clause-others
returns-clause-others g c =
    let name = c.first_segment-segment.result in
    subst (λ name. BothTold (ChangesOnly name) (g.D.Disk.files c.args.disk.now) (g.D.Disk.files c.write_settled.new.disk)) c.first_segment-segment.ensures
    (both_twice (ChangesOnly name) (ChangesOnly name) (ChangesOnly name) _ (g.D.Disk.files c.make.new.self) _
    (both_done (ChangesOnly name) (made name) _ _ c.in_ok-make.ensures.files (made_others name)) c.write_settled.ensures.others (joined name))

-- what a crash leaves
pub returns-in_err-make-clause-atomic : goal.returns-in_err-make-clause-atomic
returns-in_err-make-clause-atomic g c none =
    leaves_call g.D.Disk.tick g.D.Disk.image_since g.D.Disk.images c.args.disk.now c.make.new.self (NoneFrom c.args.stem 1) c.make.ensures.time
    (none_taken c.args.stem c.first_segment-segment.result c.first_segment-segment.ensures _ (g.D.Disk.images c.make.new.self) c.make.ensures.images none)

pub returns-clause-atomic : goal.returns-clause-atomic
returns-clause-atomic g c none =
    let file = c.first_segment-segment.result in
    let made_none = none_taken c.args.stem file c.first_segment-segment.ensures (g.D.Disk.images c.args.disk.now) (g.D.Disk.images c.make.new.self) c.make.ensures.images none in
    leaves_both g.D.Disk.tick g.D.Disk.image_since c.args.disk.now c.make.new.self c.write_settled.new.disk (NoneFrom c.args.stem 1)
    (leaves_call g.D.Disk.tick g.D.Disk.image_since g.D.Disk.images c.args.disk.now c.make.new.self (NoneFrom c.args.stem 1) c.make.ensures.time made_none)
    (leaves_weaker g.D.Disk.tick g.D.Disk.image_since c.make.new.self c.write_settled.new.disk (ComesBy (Tears file 0 1) (g.D.Disk.images c.make.new.self)) (NoneFrom c.args.stem 1)
    (λ image from. none_torn c.args.stem 0 1 from.0 image (made_none from.0 from.1) (subst (λ name. Tears name 0 1 from.0 image) c.first_segment-segment.ensures from.2))
    c.write_settled.ensures.atomic)
