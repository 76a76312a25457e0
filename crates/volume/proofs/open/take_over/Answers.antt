use Rattle.std.proofs.Common.{rules, ◌∙◌, ap}
use Rattle.std.specs.Option.{option_map}
use Rattle.volume.specs.Opening.{mended}
use Rattle.volume_items.proofs.Told.{moved}
use Rattle.volume.proofs.MendedFiles.{some_where, told_opened}
use Rattle.volume.proofs.open.take_over.Goals as goal

pub returns-clause-opened : goal.returns-clause-opened
returns-clause-opened g c =
    told_opened (g.D.Disk.files c.args.disk.now) (g.D.Disk.files c.mend.new.disk) c.args.volume c.in_ok-plan.plan _ c.in_ok-was_cut.was_cut _ (search rules) c.requires.read c.in_ok-plan.ensures.planned
    (c.in_ok-was_cut.ensures.mended ∙ ap (option_map (mended c.args.volume.id c.args.volume.end c.in_ok-plan.plan.text)) c.in_ok-plan.ensures.looks.files) (moved _ c.in_ok-plan.ensures.looks.files c.in_ok-was_cut.ensures.was) (some_where c.in_ok-was_cut.was_cut c.args.volume.end c.then_some.result c.then_some.ensures) c.is_some.ensures
