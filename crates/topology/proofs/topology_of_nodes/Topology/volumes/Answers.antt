use Rattle.std.proofs.Common.{sym, ap, ◌∙◌}
use Rattle.std.proofs.lemmas.Iterator.{items_from_collect}
use Rattle.std.proofs.lemmas.Iterator.Consumers.{YieldsList-from_rest, YieldsList-from_copied, YieldsList-at}
use Rattle.std.proofs.lemmas.Result.{IfOk-weaker}
use Rattle.std.specs.FinMap.{values}
use Rattle.topology.specs.Told.{first_report}
use Rattle.topology.proofs.Places.{values_nodes}
use Rattle.topology.proofs.topology_of_nodes.Topology.volumes.Goals as goal

pub returns : goal.returns
returns c =
    let reports = c.in_ok-reports.reports in
    let members = c.deref.ensures.value ∙ sym (values_nodes c.self.inside.members.items c.self.invariant.0) ∙ ap values c.self.view_is in
    let collected = items_from_collect c.collect.result c.collect.ensures.ran (YieldsList-from_copied (YieldsList-at c.copied.ensures.source (YieldsList-from_rest (values reports) c.values.ensures))) in
    IfOk-weaker c.collect.result _ _ (λ volumes is. (reports, (λ volume. c.in_ok-reports.ensures volume ∙ ap (first_report volume) members), is)) collected
