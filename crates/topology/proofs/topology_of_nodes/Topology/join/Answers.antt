use Rattle.std.proofs.Common.{sym, ap, ◌∙◌, arith, length}
use Rattle.std.specs.FinMap.{get, len}
use Rattle.std.specs.List.{insert}
use Rattle.topology.specs.Nodes.{nodes_of}
use Rattle.topology.specs.Changes.{joined}
use Rattle.topology.proofs.Places.{few_set, few_insert, place_in, gap_in, joins_again, joins_first, len_nodes}
use Rattle.topology.proofs.topology_of_nodes.Topology.join.Goals as goal

pub invariant_of-self : goal.invariant_of-self
invariant_of-self c =
    let place = place_in c.args.node.id _ c.self.inside.members.items _ c.in-Taken.at c.as_slice.ensures c.deref.ensures.value c.in-Taken.ensures in (
      (joins_again c.args.node c.args.now c.self.inside.members.items c.in-Taken.at c.index_mut-member.result.now c.self.invariant.0 place c.index_mut-member.ensures.value).0,
      few_set c.self.inside.members.items c.in-Taken.at _ c.self.invariant.1,
    )

pub returns-in-Taken-clause-ok : goal.returns-in-Taken-clause-ok
returns-in-Taken-clause-ok c =
    let place = place_in c.args.node.id _ c.self.inside.members.items _ c.in-Taken.at c.as_slice.ensures c.deref.ensures.value c.in-Taken.ensures in
    (joins_again c.args.node c.args.now c.self.inside.members.items c.in-Taken.at c.index_mut-member.result.now c.self.invariant.0 place c.index_mut-member.ensures.value).1
    ∙ ap (joined c.args.node c.args.now) c.self.view_is

pub returns-then-len-ge-MOST_NODES-clause-cause : goal.returns-then-len-ge-MOST_NODES-clause-cause
returns-then-len-ge-MOST_NODES-clause-cause c =
    let gap = gap_in c.args.node.id _ c.self.inside.members.items _ c.in-Free.at c.as_slice.ensures c.deref.ensures.value c.in-Free.ensures in (
      ap (λ nodes. get nodes c.args.node.id) (sym c.self.view_is) ∙ gap.none,
      (let e = len_nodes c.self.inside.members.items c.self.invariant.0 in let f = ap len c.self.view_is in let g = ap length c.deref.ensures.value in omega (arith, e, f, g)),
    )

pub invariant_of-self-in-Continue-1 : goal.invariant_of-self-in-Continue-1
invariant_of-self-in-Continue-1 c =
    let gap = gap_in c.args.node.id _ c.self.inside.members.items _ c.in-Free.at c.as_slice.ensures c.deref.ensures.value c.in-Free.ensures in
    let both = joins_first c.args.node c.args.now c.self.inside.members.items c.in-Free.at c.self.invariant.0 gap in
    let few = few_insert c.self.inside.members.items c.in-Free.at _ gap.within (let g = ap length c.deref.ensures.value in omega (arith, g)) in
    rw (c.in_ok-insert-in-Free.ensures.items, c.new.ensures) (both.0, few)

pub returns-in_err-insert-in-Free-clause-full : goal.returns-in_err-insert-in-Free-clause-full
returns-in_err-insert-in-Free-clause-full c none many =
    let e = len_nodes c.self.inside.members.items c.self.invariant.0 in let f = ap len c.self.view_is in let g = ap length c.deref.ensures.value in
    absurd (omega (arith, e, f, g))

pub returns-in_ok-insert-in-Free-clause-ok : goal.returns-in_ok-insert-in-Free-clause-ok
returns-in_ok-insert-in-Free-clause-ok c =
    let gap = gap_in c.args.node.id _ c.self.inside.members.items _ c.in-Free.at c.as_slice.ensures c.deref.ensures.value c.in-Free.ensures in
    let both = joins_first c.args.node c.args.now c.self.inside.members.items c.in-Free.at c.self.invariant.0 gap in
    ap nodes_of c.in_ok-insert-in-Free.ensures.items
    ∙ ap (λ reports. nodes_of (insert c.self.inside.members.items c.in-Free.at (record { node = c.args.node; heard = c.args.now; reports = reports }))) c.new.ensures
    ∙ both.1 ∙ ap (joined c.args.node c.args.now) c.self.view_is

pub returns-in_ok-insert-in-Free-clause-full : goal.returns-in_ok-insert-in-Free-clause-full
returns-in_ok-insert-in-Free-clause-full c none many =
    let e = len_nodes c.self.inside.members.items c.self.invariant.0 in let f = ap len c.self.view_is in let g = ap length c.deref.ensures.value in
    absurd (omega (arith, e, f, g))
