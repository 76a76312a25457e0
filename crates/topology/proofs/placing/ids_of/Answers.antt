use Rattle.std.proofs.Common.{◌++◌, ◌∷◌, [], map, take, ap, sym, ◌∙◌}
use Rattle.topology.specs.Choices.{id_of}
use Rattle.topology.specs.Picks.{shown}
use Rattle.topology.proofs.Picking.{ids_more}
use Rattle.topology.proofs.placing.ids_of.Goals as goal

pub loop-member-preserved : goal.loop-member-preserved
loop-member-preserved c =
    c.in_ok-push.ensures.items
    ∙ ap (λ ids. ids ++ c.in_ok-copy.field-0 ∷ []) c.loop-member.invariant
    ∙ ap (λ id. map id_of (take c.loop-member.member-index (shown c.args.members.now)) ++ id ∷ []) c.in_ok-copy.ensures
    ∙ sym (ids_more c.args.members.now c.loop-member.member-index c.member-item.result c.loop-member-test.true c.member-item.is)
