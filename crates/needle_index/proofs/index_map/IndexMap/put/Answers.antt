use Rattle.needle.specs.declared.version.Version.TheVariants.{V2, V3}
use Rattle.needle_index.proofs.Sums.{kept_in_put}
use Rattle.needle_index.proofs.index_map.IndexMap.put.Goals as goal

pub invariant_of-self-2 : goal.invariant_of-self-2
invariant_of-self-2 c =
    let step = c.in_ok-former.ensures in (
      kept_in_put V2 c.self.inside.slots.spots _ c.args.key c.args.spot c.in_ok-former.former _ _ step.ok step.former
          c.self.invariant.0 c.changed-self-inside.type_inv c.changed-self-inside.ensures,
      kept_in_put V3 c.self.inside.slots.spots _ c.args.key c.args.spot c.in_ok-former.former _ _ step.ok step.former
          c.self.invariant.1 c.changed-self-inside-2.type_inv c.changed-self-inside-2.ensures,
    )
