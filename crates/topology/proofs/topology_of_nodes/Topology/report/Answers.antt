use Rattle.std.proofs.Common.{◌≡◌, None, sym, ap, ◌∙◌, arith, length, subst}
use Rattle.std.specs.FinMap.{get, len}
use Rattle.std.specs.FinMap as fin
use Rattle.topology.specs.Nodes.{nodes_of, AreKept}
use Rattle.topology.specs.Changes.{member_of}
use Rattle.topology.proofs.Places.{few_set, few_insert, place_in, gap_in, changed, added, len_nodes}
use Rattle.topology.proofs.topology_of_nodes.Topology.report.Goals as goal

pub returns-in_err-member-in-Taken-clause-full : goal.returns-in_err-member-in-Taken-clause-full
returns-in_err-member-in-Taken-clause-full c none many =
    let place = place_in c.args.node.now.id _ c.self.inside.members.items _ c.in-Taken.at c.as_slice.ensures c.deref.ensures.value c.in-Taken.ensures in
    let found = place.found (member_of c.args.node.now c.args.volumes.now c.args.now) in
    let gone : get (nodes_of c.self.inside.members.items) c.args.node.now.id ≡ None = ap (λ nodes. get nodes c.args.node.now.id) c.self.view_is ∙ none in
    cc

pub invariant_of-self : goal.invariant_of-self
invariant_of-self c =
    let place = place_in c.args.node.now.id _ c.self.inside.members.items _ c.in-Taken.at c.as_slice.ensures c.deref.ensures.value c.in-Taken.ensures in (
      (changed c.self.inside.members.items c.in-Taken.at c.args.node.now.id c.in_ok-member-in-Taken.member c.self.invariant.0 place (ap (λ member. member.node.id) c.in_ok-member-in-Taken.ensures)).0,
      few_set c.self.inside.members.items c.in-Taken.at _ c.self.invariant.1,
    )

pub returns-then-len-ge-MOST_NODES-clause-cause : goal.returns-then-len-ge-MOST_NODES-clause-cause
returns-then-len-ge-MOST_NODES-clause-cause c =
    let gap = gap_in c.args.node.now.id _ c.self.inside.members.items _ c.in-Free.at c.as_slice.ensures c.deref.ensures.value c.in-Free.ensures in (
      ap (λ nodes. get nodes c.args.node.now.id) (sym c.self.view_is) ∙ gap.none,
      (let e = len_nodes c.self.inside.members.items c.self.invariant.0 in let f = ap len c.self.view_is in let g = ap length c.deref.ensures.value in omega (arith, e, f, g)),
    )

pub returns-in_err-member-in-Free-clause-full : goal.returns-in_err-member-in-Free-clause-full
returns-in_err-member-in-Free-clause-full c none many =
    let e = len_nodes c.self.inside.members.items c.self.invariant.0 in let f = ap len c.self.view_is in let g = ap length c.deref.ensures.value in
    absurd (omega (arith, e, f, g))

pub invariant_of-self-in-Continue-branch-3 : goal.invariant_of-self-in-Continue-branch-3
invariant_of-self-in-Continue-branch-3 c =
    let gap = gap_in c.args.node.now.id _ c.self.inside.members.items _ c.in-Free.at c.as_slice.ensures c.deref.ensures.value c.in-Free.ensures in
    let both = added c.self.inside.members.items c.in-Free.at c.args.node.now.id c.in_ok-member-in-Free.member c.self.invariant.0 gap (ap (λ member. member.node.id) c.in_ok-member-in-Free.ensures) in
    let few = few_insert c.self.inside.members.items c.in-Free.at c.in_ok-member-in-Free.member gap.within (let g = ap length c.deref.ensures.value in omega (arith, g)) in
    subst AreKept (sym c.in_ok-insert-in-Free.ensures.items) (both.0, few)

pub returns-in_err-insert-in-Free-clause-full : goal.returns-in_err-insert-in-Free-clause-full
returns-in_err-insert-in-Free-clause-full c none many =
    let e = len_nodes c.self.inside.members.items c.self.invariant.0 in let f = ap len c.self.view_is in let g = ap length c.deref.ensures.value in
    absurd (omega (arith, e, f, g))

pub returns-in_ok-member-in-Taken-clause-ok : goal.returns-in_ok-member-in-Taken-clause-ok
returns-in_ok-member-in-Taken-clause-ok c =
    let place = place_in c.args.node.now.id _ c.self.inside.members.items _ c.in-Taken.at c.as_slice.ensures c.deref.ensures.value c.in-Taken.ensures in
    (changed c.self.inside.members.items c.in-Taken.at c.args.node.now.id c.in_ok-member-in-Taken.member c.self.invariant.0 place (ap (λ member. member.node.id) c.in_ok-member-in-Taken.ensures)).1
    ∙ ap (λ nodes. fin.insert nodes c.args.node.now.id c.in_ok-member-in-Taken.member) c.self.view_is
    ∙ ap (fin.insert c.args.self.now c.args.node.now.id) c.in_ok-member-in-Taken.ensures

pub returns-in_ok-insert-in-Free-clause-ok : goal.returns-in_ok-insert-in-Free-clause-ok
returns-in_ok-insert-in-Free-clause-ok c =
    let gap = gap_in c.args.node.now.id _ c.self.inside.members.items _ c.in-Free.at c.as_slice.ensures c.deref.ensures.value c.in-Free.ensures in
    ap nodes_of c.in_ok-insert-in-Free.ensures.items
    ∙ (added c.self.inside.members.items c.in-Free.at c.args.node.now.id c.in_ok-member-in-Free.member c.self.invariant.0 gap (ap (λ member. member.node.id) c.in_ok-member-in-Free.ensures)).1
    ∙ ap (λ nodes. fin.insert nodes c.args.node.now.id c.in_ok-member-in-Free.member) c.self.view_is
    ∙ ap (fin.insert c.args.self.now c.args.node.now.id) c.in_ok-member-in-Free.ensures

pub returns-in_ok-insert-in-Free-clause-full : goal.returns-in_ok-insert-in-Free-clause-full
returns-in_ok-insert-in-Free-clause-full c none many =
    let e = len_nodes c.self.inside.members.items c.self.invariant.0 in let f = ap len c.self.view_is in let g = ap length c.deref.ensures.value in
    absurd (omega (arith, e, f, g))
