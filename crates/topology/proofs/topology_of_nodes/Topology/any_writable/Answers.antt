use Rattle.std.proofs.Common.{sym, ap, ◌∙◌, subst}
use Rattle.std.proofs.lemmas.Result.{IfOk-weaker}
use Rattle.std.specs.FinMap.{values}
use Rattle.topology.specs.Writable.{IsWritableAt}
use Rattle.topology.proofs.Places.{values_nodes}
use Rattle.topology.proofs.topology_of_nodes.Topology.any_writable.Goals as goal

pub returns : goal.returns
returns c =
    let members = c.deref.ensures.value ∙ sym (values_nodes c.self.inside.members.items c.self.invariant.0) ∙ ap values c.self.view_is in
    IfOk-weaker c.writable_volume.result _ _ (λ found is. subst (λ members. IsWritableAt c.args.placement c.args.ttl c.args.limit members found) members is) c.writable_volume.ensures
