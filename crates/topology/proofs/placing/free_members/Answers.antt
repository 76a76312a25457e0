use Rattle.std.proofs.Common.{◌≡◌, filter, ap, ◌∙◌, subst, arith}
use Rattle.std.specs.List.Sorted.{IsPermutation}
use Rattle.std.proofs.lemmas.List.Sorted.{IsPermutation-map}
use Rattle.topology.specs.Choices.{has_room}
use Rattle.topology.specs.Picks.{shown}
use Rattle.std.proofs.lemmas.List.{take_all}
use Rattle.topology.proofs.placing.free_members.Goals as goal

pub returns : goal.returns
returns c =
    let moved = IsPermutation-map (λ m. m.now) c.loop-member.free.items c.sort_by.new.self.items c.in_ok-sort_by.ensures.permutation in
    let all : shown c.loop-member.free.items ≡ filter has_room c.args.members.now =
    c.loop-member.invariant ∙ ap (filter has_room) (take_all c.loop-member.member-index c.args.members.now (omega (arith, c.loop-member-test.false))) in
    subst (λ l. IsPermutation l (shown c.sort_by.new.self.items)) all moved
