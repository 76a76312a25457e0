use Rattle.std.proofs.Common.{rules, ap, ◌∙◌}
use Rattle.std.proofs.lemmas.Fn.{filter_same}
use Rattle.std.specs.Option.{option_and_then}
use Rattle.std.specs.FinMap.{get}
use Rattle.topology.specs.Nodes.{nodes_of}
use Rattle.topology.specs.Changes.{is_heard}
use Rattle.topology.specs.declared.member.Member.{Member}
use Rattle.topology.proofs.Places.{few_filter, get_filter, filter_in_order, kept_if}
use Rattle.topology.proofs.topology_of_nodes.Topology.expire.Goals as goal

pub invariant_of-self : goal.invariant_of-self
invariant_of-self c =
    rw (filter_same _ (λ (member : Member). is_heard c.args.now member) _ (λ x b f' k. search rules) _ _ c.retain.ensures.filtered)
    (filter_in_order (is_heard c.args.now) c.self.inside.members.items c.self.invariant.0, few_filter _ c.self.inside.members.items c.self.invariant.1)

pub returns : goal.returns
returns c id =
    ap (λ members. get (nodes_of members) id) (filter_same _ (λ (member : Member). is_heard c.args.now member) _ (λ x b f' k. search rules) _ _ c.retain.ensures.filtered)
    ∙ get_filter (is_heard c.args.now) c.self.inside.members.items id c.self.invariant.0
    ∙ ap (λ nodes. option_and_then (kept_if (is_heard c.args.now)) (get nodes id)) c.self.view_is
