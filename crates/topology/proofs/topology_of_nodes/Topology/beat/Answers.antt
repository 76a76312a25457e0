use Rattle.std.proofs.Common.{rules, sym, ap, ◌∙◌, subst, IsSome}
use Rattle.std.specs.FinMap.{get, insert}
use Rattle.topology.specs.Nodes.{Nodes, nodes_of}
use Rattle.topology.specs.Changes.{beaten, reports_of}
use Rattle.topology.specs.declared.member.Member.{Member}
use Rattle.topology.proofs.Places.{few_set, place_in, told_anew, at_member, present, match_some}
use Rattle.topology.proofs.topology_of_nodes.Topology.beat.Goals as goal

pub returns-in_err-reports-clause-answer : goal.returns-in_err-reports-clause-answer
returns-in_err-reports-clause-answer c =
    let place = place_in c.args.id.now _ c.self.inside.members.items _ c.in-Taken.at c.as_slice.ensures c.deref.ensures.value c.in-Taken.ensures in
    match_some _ _ _ (subst (λ nodes. IsSome (get nodes c.args.id.now)) c.self.view_is (present c.args.id.now c.self.inside.members.items c.in-Taken.at place)) (search rules)

pub invariant_of-self : goal.invariant_of-self
invariant_of-self c =
    let place = place_in c.args.id.now _ c.self.inside.members.items _ c.in-Taken.at c.as_slice.ensures c.deref.ensures.value c.in-Taken.ensures in (
      (told_anew c.self.inside.members.items c.in-Taken.at c.args.id.now c.index_mut-member.result.now c.args.now c.in_ok-reports.reports c.self.invariant.0 place c.index_mut-member.ensures.value).0,
      few_set c.self.inside.members.items c.in-Taken.at _ c.self.invariant.1,
    )

pub returns-clause-ok : goal.returns-clause-ok
returns-clause-ok c =
    let place = place_in c.args.id.now _ c.self.inside.members.items _ c.in-Taken.at c.as_slice.ensures c.deref.ensures.value c.in-Taken.ensures in
    let x = c.index_mut-member.result.now in
    let items = c.self.inside.members.items in
    let step : Member → Nodes = λ member. insert (nodes_of items) c.args.id.now (record { node = member.node; heard = c.args.now; reports = reports_of c.args.volumes.now }) in
    (told_anew items c.in-Taken.at c.args.id.now x c.args.now c.in_ok-reports.reports c.self.invariant.0 place c.index_mut-member.ensures.value).1
    ∙ ap (λ reports. insert (nodes_of items) c.args.id.now (record { node = x.node; heard = c.args.now; reports = reports })) c.in_ok-reports.ensures
    ∙ sym (at_member step items c.in-Taken.at c.args.id.now x place c.index_mut-member.ensures.value)
    ∙ ap (beaten c.args.id.now c.args.volumes.now c.args.now) c.self.view_is
