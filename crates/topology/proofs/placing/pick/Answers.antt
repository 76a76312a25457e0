use Rattle.std.proofs.Common.{◌≡◌, ◌<◌, ◌+◌, length, take, get_or, List, [], ◌∷◌, ◌++◌, ap, sym, ◌∙◌, subst, arith}
use Rattle.std.proofs.lemmas.List.{get_or-map, length-map}
use Rattle.topology.specs.declared.member.Member.{Member}
use Rattle.topology.specs.Picks.{shown, wants, IsPick}
use Rattle.topology.proofs.Picking.{none_picked, pick_more, pass_more, shown-push}
use Rattle.topology.proofs.placing.pick.Goals.{then-wants+in_ok-push, else-wants}
use Rattle.topology.proofs.placing.pick.Goals as goal

pub loop-member-init : goal.loop-member-init
loop-member-init c = none_picked _ _ _ _ (ap shown c.new-picked.ensures.items)

pub loop-member-preserved : goal.loop-member-preserved
loop-member-preserved c =
    let free : List Member = shown c.args.free.now in
    let k = c.loop-member.member-index in
    let x : Member = c.member-item.result.now in
    let lt : k < length free = omega (arith, length-map c.args.free.now (λ m. m.now)) in
    let at : x ≡ get_or free k x = ap (λ m. m.now) c.member-item.is ∙ sym (get_or-map (λ m. m.now) c.args.free.now k c.member-item.result x (omega arith)) in
    let before = shown c.loop-member.picked.items in
    let told : c.wants.result ≡ wants c.args.part c.args.main.now c.args.count before x = c.wants.ensures ∙ ap (λ l. wants c.args.part c.args.main.now c.args.count (shown l) x) c.deref.ensures.value in
    elim c.if-wants.branch [
      | then-wants+in_ok-push w ↦
          let after : shown c.if-wants.picked.items ≡ before ++ x ∷ [] = ap (λ v. shown v.items) w.picked-is ∙ ap shown w.in_ok-push.ensures.items ∙ shown-push c.loop-member.picked.items c.member-item.result in
          subst (λ l. IsPick c.args.part c.args.main.now c.args.count (take (k + 1) free) l) (sym after) (pick_more _ _ _ free before k x lt at c.loop-member.invariant (sym told ∙ w.if-wants.true))
      | else-wants w ↦
          let after : shown c.if-wants.picked.items ≡ before = ap (λ v. shown v.items) w.picked-is in
          subst (λ l. IsPick c.args.part c.args.main.now c.args.count (take (k + 1) free) l) (sym after) (pass_more _ _ _ free before k x lt at c.loop-member.invariant (sym told ∙ w.if-wants.false))
    ]
