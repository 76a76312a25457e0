use Rattle.std.proofs.Common.{◌≡◌, ◌≤◌, map, Vec, Global, Bor, List, length, filter, sym, ap, ◌∙◌, subst, arith}
use Rattle.std.specs.FinMap.{values}
use Rattle.std.specs.List.Sorted.{IsPermutation}
use Rattle.std.proofs.lemmas.Option.{MatchOption-at_some, MatchOption-at_none}
use Rattle.std.proofs.lemmas.List.{length-map}
use Rattle.std.proofs.lemmas.List.Sorted.{length_permutation}
use Rattle.topology.specs.declared.member.Member.{Member}
use Rattle.topology.specs.Choices.{has_room, id_of}
use Rattle.topology.specs.Picks.{shown, AreAroundOne, NoneAroundAny}
use Rattle.topology.proofs.Places.{values_nodes, few_filter}
use Rattle.topology.proofs.ChoiceOfAll.{are_choice, no_choice, free_count}
use Rattle.topology.proofs.topology_of_nodes.Topology.place.Goals as goal

pub returns-in-Some-clause-ok : goal.returns-in-Some-clause-ok
returns-in-Some-clause-ok c =
    let members : List Member = c.self.inside.members.items in
    let all : values c.args.self.now ≡ members = sym (ap values c.self.view_is) ∙ values_nodes members c.self.invariant.0 in
    let free : List Member = shown c.in_ok-free.free.items in
    let moved : IsPermutation (filter has_room members) free = subst (λ l. IsPermutation (filter has_room l) free) c.deref.ensures.value c.in_ok-free.ensures in
    let around = subst (λ l. AreAroundOne c.args.placement l (shown c.in-Some.chosen.items)) (ap shown c.deref-2.ensures.value)
    (MatchOption-at_some (NoneAroundAny c.args.placement (shown c.deref-2.result.now)) (λ (chosen : Vec (Bor Member) Global). AreAroundOne c.args.placement (shown c.deref-2.result.now) (shown chosen.items)) c.in-Some.chosen c.in-Some.is c.in_ok-chosen.ensures) in
    are_choice c.args.placement c.args.self.now members free (shown c.in-Some.chosen.items) _ all c.self.invariant.0 moved around
    (c.in_ok-ids_of-in-Some.ensures ∙ ap (λ l. map id_of (shown l)) c.deref-in-Some.ensures.value)

pub overflow_cast-result : goal.overflow_cast-result
overflow_cast-result c =
    let members : List Member = c.self.inside.members.items in
    let all : values c.args.self.now ≡ members = sym (ap values c.self.view_is) ∙ values_nodes members c.self.invariant.0 in
    let free : List Member = shown c.in_ok-free.free.items in
    let moved : IsPermutation (filter has_room members) free = subst (λ l. IsPermutation (filter has_room l) free) c.deref.ensures.value c.in_ok-free.ensures in
    let few : length (filter has_room members) ≤ 1024 = few_filter has_room members c.self.invariant.1 in
    let e = length_permutation (filter has_room members) free moved in
    let f = length-map c.in_ok-free.free.items (λ (m : Bor Member). m.now) in
    omega (arith, few, e, f)

pub returns-clause-cause : goal.returns-clause-cause
returns-clause-cause c =
    let members : List Member = c.self.inside.members.items in
    let all : values c.args.self.now ≡ members = sym (ap values c.self.view_is) ∙ values_nodes members c.self.invariant.0 in
    let free : List Member = shown c.in_ok-free.free.items in
    let moved : IsPermutation (filter has_room members) free = subst (λ l. IsPermutation (filter has_room l) free) c.deref.ensures.value c.in_ok-free.ensures in
    let none = subst (NoneAroundAny c.args.placement) (ap shown c.deref-2.ensures.value)
    (MatchOption-at_none (NoneAroundAny c.args.placement (shown c.deref-2.result.now)) (λ (chosen : Vec (Bor Member) Global). AreAroundOne c.args.placement (shown c.deref-2.result.now) (shown chosen.items)) c.in-None.is c.in_ok-chosen.ensures) in
    let f = length-map c.in_ok-free.free.items (λ (m : Bor Member). m.now) in (
      no_choice c.args.placement c.args.self.now members free all moved none,
      omega (arith, c.from.ensures),
      (let e : c.len.result ≡ length free = omega (arith, f) in e) ∙ free_count c.args.self.now members free all moved,
    )
