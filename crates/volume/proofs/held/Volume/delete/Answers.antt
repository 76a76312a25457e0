use Rattle.std.proofs.Common.{rules}
use Rattle.needle.specs.declared.item.Item.TheVariants.{Gone}
use Rattle.volume.proofs.Kept.{told_kept}
use Rattle.volume.proofs.held.Volume.delete.Goals as goal

pub returns-in_default-2-clause-kept : goal.returns-in_default-2-clause-kept
returns-in_default-2-clause-kept g c =
    told_kept c.args.self.now c.delete_held.new.self (Gone c.args.cookie c.args.key) c.args.moment _ _ c.delete_held.result c.in_ok-refuse_closed.ensures.0 c.requires
    c.delete_held.ensures.holds c.delete_held.ensures.stays (search rules)
