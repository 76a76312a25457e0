use Rattle.std.proofs.Common.{rules}
use Rattle.needle.specs.declared.item.Item.TheVariants.{Live}
use Rattle.volume.proofs.Kept.{told_kept}
use Rattle.volume.proofs.held.Volume.write.Goals as goal

pub returns-in_default-2-clause-kept : goal.returns-in_default-2-clause-kept
returns-in_default-2-clause-kept g c =
    told_kept c.args.self.now c.write_sized.new.self (Live c.args.needle.now) c.args.moment _ _ c.write_sized.result c.in_ok-refuse_closed.ensures.0 c.requires.held
    c.write_sized.ensures.holds c.write_sized.ensures.stays (search rules)
