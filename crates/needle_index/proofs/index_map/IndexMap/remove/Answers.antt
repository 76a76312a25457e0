use Rattle.needle.specs.declared.version.Version.TheVariants.{V2, V3}
use Rattle.needle_index.proofs.Sums.{kept_in_remove}
use Rattle.needle_index.proofs.index_map.IndexMap.remove.Goals as goal

pub invariant_of-self : goal.invariant_of-self
invariant_of-self c =
    let step = c.remove-former.ensures in (
      kept_in_remove V2 c.self.inside.slots.spots _ c.args.key c.remove-former.result _ _ step.spots step.former
          c.self.invariant.0 c.changed-self-inside.type_inv c.changed-self-inside.ensures,
      kept_in_remove V3 c.self.inside.slots.spots _ c.args.key c.remove-former.result _ _ step.spots step.former
          c.self.invariant.1 c.changed-self-inside-2.type_inv c.changed-self-inside-2.ensures,
    )
