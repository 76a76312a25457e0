use Rattle.std.proofs.Common.{sym, ap, ◌∙◌}
use Rattle.std.specs.FinMap.{insert}
use Rattle.topology.specs.Nodes.{Nodes, nodes_of}
use Rattle.topology.specs.Changes.{with_report}
use Rattle.topology.specs.declared.member.Member.{Member}
use Rattle.topology.proofs.Places.{few_set, place_in, told_anew, at_member}
use Rattle.topology.proofs.topology_of_nodes.Topology.add.Goals as goal

pub invariant_of-self-2 : goal.invariant_of-self-2
invariant_of-self-2 c =
    let place = place_in c.args.id.now _ c.self.inside.members.items _ c.in-Taken.at c.as_slice.ensures c.deref.ensures.value c.in-Taken.ensures in (
      (told_anew c.self.inside.members.items c.in-Taken.at c.args.id.now c.index_mut-member.result.now c.index_mut-member.result.now.heard c.insert.new.self c.self.invariant.0 place c.index_mut-member.ensures.value).0,
      few_set c.self.inside.members.items c.in-Taken.at _ c.self.invariant.1,
    )

pub returns-clause-ok : goal.returns-clause-ok
returns-clause-ok c =
    let place = place_in c.args.id.now _ c.self.inside.members.items _ c.in-Taken.at c.as_slice.ensures c.deref.ensures.value c.in-Taken.ensures in
    let x = c.index_mut-member.result.now in
    let items = c.self.inside.members.items in
    let step : Member → Nodes = λ member. insert (nodes_of items) c.args.id.now (record { node = member.node; heard = member.heard; reports = insert member.reports c.args.report.volume c.args.report }) in
    (told_anew items c.in-Taken.at c.args.id.now x x.heard c.insert.new.self c.self.invariant.0 place c.index_mut-member.ensures.value).1
    ∙ ap (λ reports. insert (nodes_of items) c.args.id.now (record { node = x.node; heard = x.heard; reports = reports })) c.in_ok-insert.ensures.ok
    ∙ sym (at_member step items c.in-Taken.at c.args.id.now x place c.index_mut-member.ensures.value)
    ∙ ap (with_report c.args.id.now c.args.report) c.self.view_is
