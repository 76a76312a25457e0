use Rattle.std.proofs.Common.{is_some, sym, ap, ◌∙◌, arith}
use Rattle.topology.proofs.Places.{is_place, is_gap, past_end}
use Rattle.topology.specs.Nodes.{has_id}
use Rattle.topology.proofs.member.find_seat.Goals as goal

pub returns-in-Some : goal.returns-in-Some
returns-in-Some c =
    let found = c.in-Some.ensures.lookup in
    is_place c.args.id.now c.args.members.now c.seat_of-at.result c.in-Some.member.now c.requires c.seat_of-at.ensures.before found.3.0
    (λ d. sym (found.4 (omega arith) d)) (sym c.has_id.ensures ∙ c.if-has_id.true)

pub returns-in_default : goal.returns-in_default
returns-in_default c =
    let found = c.in-Some.ensures.lookup in
    is_gap c.args.id.now c.args.members.now c.seat_of-at.result c.requires c.seat_of-at.ensures.before c.seat_of-at.ensures.within
    (λ d lt. (c.seat_of-at.ensures.here d lt, ap (has_id c.args.id.now) (sym (found.4 (omega arith) d)) ∙ sym c.has_id.ensures ∙ c.if-has_id.false))

pub returns-in_default-2 : goal.returns-in_default-2
returns-in_default-2 c =
    is_gap c.args.id.now c.args.members.now c.seat_of-at.result c.requires c.seat_of-at.ensures.before c.seat_of-at.ensures.within
    (λ d lt. absurd (past_end _ _ (ap is_some (sym c.in_default.is) ∙ c.get.ensures.lookup.0) lt))
