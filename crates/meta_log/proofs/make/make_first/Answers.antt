use Rattle.std.proofs.Common.{inl}
use Rattle.weed_base.proofs.ImageLemmas.{leaves_both, leaves_weaker}
use Rattle.meta_log.specs.LogText.{NoneFrom}
use Rattle.meta_log.specs.Making.{IsPrepared, IsFreshOrEmpty}
use Rattle.meta_log.proofs.Made.{others_both}
use Rattle.meta_log.proofs.OpenCrashes.{each_settled}
use Rattle.meta_log.proofs.make.make_first.Goals as goal

pub returns-in_err-make_segment-clause-atomic : goal.returns-in_err-make_segment-clause-atomic
returns-in_err-make_segment-clause-atomic g c none =
    leaves_weaker g.D.Disk.tick g.D.Disk.image_since c.args.disk.now c.make_segment.new.disk (NoneFrom c.args.stem 1) (IsFreshOrEmpty c.args.stem) (λ image still. inl still) (c.make_segment.ensures.atomic none)

pub returns-clause-atomic : goal.returns-clause-atomic
returns-clause-atomic g c none =
    leaves_both g.D.Disk.tick g.D.Disk.image_since c.args.disk.now c.make_segment.new.disk c.make_on.new.disk (IsFreshOrEmpty c.args.stem)
    (leaves_weaker g.D.Disk.tick g.D.Disk.image_since c.args.disk.now c.make_segment.new.disk (NoneFrom c.args.stem 1) (IsFreshOrEmpty c.args.stem) (λ image still. inl still) (c.make_segment.ensures.atomic none))
    (c.make_on.ensures.atomic (each_settled (IsPrepared c.args.stem) (g.D.Disk.files c.make_segment.new.disk) (g.D.Disk.images c.make_segment.new.disk) c.in_ok-make_segment.ensures.settled c.in_ok-make_segment.ensures.made))

pub returns-clause-others : goal.returns-clause-others
returns-clause-others g c =
    others_both c.args.stem (g.D.Disk.files c.args.disk.now) (g.D.Disk.files c.make_segment.new.disk) (g.D.Disk.files c.make_on.new.disk)
    c.make_segment.ensures.others c.make_on.ensures.others
