use Rattle.std.proofs.Common.{◌≡◌, ◌+◌, ◌++◌, ◌∷◌, [], List, take, get_or, inl, inr, Vec, Global, Bor, ap, sym, ◌∙◌, subst, arith}
use Rattle.std.specs.List.{Contains}
use Rattle.std.proofs.lemmas.List.{get_or-map, length-map, take_more, take_all}
use Rattle.std.proofs.lemmas.List.Elements.{Contains-push_cases}
use Rattle.topology.specs.declared.member.Member.{Member}
use Rattle.topology.specs.Picks.{shown, AreAround, NoneAround}
use Rattle.std.proofs.lemmas.Option.{MatchOption-at_some, MatchOption-at_none}
use Rattle.topology.proofs.placing.choose_any.Goals as goal

pub returns-in-Some : goal.returns-in-Some
returns-in-Some c = (c.main-item.result.now, MatchOption-at_some (NoneAround c.args.placement c.main-item.result.now (shown c.args.free.now)) (λ (chosen : Vec (Bor Member) Global). AreAround c.args.placement c.main-item.result.now (shown c.args.free.now) (shown chosen.items)) c.in-Some.chosen c.in-Some.is c.in_ok-chosen.ensures)

pub loop-main-preserved : goal.loop-main-preserved
loop-main-preserved c main has =
    let free : List Member = shown c.args.free.now in
    let k = c.loop-main.main-index in
    let x : Member = c.main-item.result.now in
    let at : x ≡ get_or free k x = ap (λ m. m.now) c.main-item.is ∙ sym (get_or-map (λ m. m.now) c.args.free.now k c.main-item.result x (omega arith)) in
    let more : take (k + 1) free ≡ take k free ++ x ∷ [] = take_more free k x (omega (arith, length-map c.args.free.now (λ m. m.now))) ∙ ap (λ y. take k free ++ y ∷ []) (sym at) in
    elim (Contains-push_cases (take k free) x main (subst (λ l. Contains l main) more has)) [
      | inl before ↦ c.loop-main.invariant main before
      | inr e ↦ subst (λ m. NoneAround c.args.placement m free) e (MatchOption-at_none (NoneAround c.args.placement c.main-item.result.now free) (λ (chosen : Vec (Bor Member) Global). AreAround c.args.placement c.main-item.result.now free (shown chosen.items)) c.in-None.is c.in_ok-chosen.ensures)
    ]

pub returns : goal.returns
returns c main has =
    c.loop-main.invariant main (subst (λ l. Contains l main) (sym (take_all c.loop-main.main-index (shown c.args.free.now) (omega (arith, c.loop-main-test.false, length-map c.args.free.now (λ m. m.now))))) has)
