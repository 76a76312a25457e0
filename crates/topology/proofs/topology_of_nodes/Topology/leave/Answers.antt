use Rattle.std.proofs.Common.{rules, not, sym, ap, ◌∙◌, subst, refl, IsSome}
use Rattle.std.proofs.lemmas.Fn.{filter_same}
use Rattle.std.specs.FinMap.{get, remove}
use Rattle.topology.specs.Nodes.{nodes_of, has_id}
use Rattle.topology.specs.declared.member.Member.{Member}
use Rattle.topology.proofs.Places.{few_filter, gap_in, place_in, remove_none, left_nodes, filter_in_order, present, match_some}
use Rattle.topology.proofs.topology_of_nodes.Topology.leave.Goals as goal

pub returns-in_default-clause-after : goal.returns-in_default-clause-after
returns-in_default-clause-after c =
    let gap = gap_in c.args.id.now _ c.self.inside.members.items _ c.in_default.field-0 c.as_slice.ensures c.deref.ensures.value c.in_default.ensures in
    remove_none c.args.self.now c.args.id.now (ap (λ nodes. get nodes c.args.id.now) (sym c.self.view_is) ∙ gap.none)

pub invariant_of-self : goal.invariant_of-self
invariant_of-self c =
    rw (filter_same _ (λ (member : Member). not (has_id c.args.id.now member)) _ (λ x b f' k. search rules) _ _ c.retain.ensures.filtered)
    (filter_in_order (λ member. not (has_id c.args.id.now member)) c.self.inside.members.items c.self.invariant.0, few_filter _ c.self.inside.members.items c.self.invariant.1)

pub returns-clause-after : goal.returns-clause-after
returns-clause-after c =
    ap nodes_of (filter_same _ (λ (member : Member). not (has_id c.args.id.now member)) _ (λ x b f' k. search rules) _ _ c.retain.ensures.filtered)
    ∙ left_nodes c.args.id.now c.self.inside.members.items c.self.invariant.0 ∙ ap (λ nodes. remove nodes c.args.id.now) c.self.view_is

pub returns-clause-answer : goal.returns-clause-answer
returns-clause-answer c =
    let place = place_in c.args.id.now _ c.self.inside.members.items _ c.in-Taken.field-0 c.as_slice.ensures c.deref.ensures.value c.in-Taken.ensures in
    match_some _ _ _ (subst (λ nodes. IsSome (get nodes c.args.id.now)) c.self.view_is (present c.args.id.now c.self.inside.members.items c.in-Taken.field-0 place)) refl
