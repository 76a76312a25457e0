use Rattle.std.proofs.Common.{sym, ap, ◌∙◌}
use Rattle.std.proofs.lemmas.Result.{IfOk-weaker}
use Rattle.std.specs.FinMap.{values}
use Rattle.topology.specs.Told.{locations_in}
use Rattle.topology.proofs.Places.{values_nodes}
use Rattle.topology.proofs.topology_of_nodes.Topology.locations.Goals as goal

pub returns : goal.returns
returns c =
    let same = ap (locations_in c.args.volume) (c.deref.ensures.value ∙ sym (values_nodes c.self.inside.members.items c.self.invariant.0) ∙ ap values c.self.view_is) in
    IfOk-weaker c.locations_in.result _ _ (λ locations is. is ∙ same) c.locations_in.ensures
