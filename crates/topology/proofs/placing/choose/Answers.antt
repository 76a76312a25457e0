use Rattle.std.proofs.Common.{◌≡◌, ◌+◌, ◌++◌, length, ap, sym, ◌∙◌, subst, arith}
use Rattle.std.proofs.lemmas.List.{length-map, map-append}
use Rattle.topology.specs.declared.placing.Part.TheVariants.{Main, Beside, Away}
use Rattle.topology.specs.Picks.{shown, IsPick, AreAround}
use Rattle.topology.proofs.Choosing.{short_main, short_beside, short_away, around}
use Rattle.topology.proofs.placing.choose.Goals as goal

pub returns-then-len-from : goal.returns-then-len-from
returns-then-len-from c =
    let free = shown c.args.free.now in
    let mains = shown c.in_ok-chosen.chosen.items in
    let a = length-map c.in_ok-chosen.chosen.items (λ m. m.now) in
    short_main c.args.placement c.args.main.now free mains (subst (λ n. IsPick Main c.args.main.now (n + 1) free mains) c.from.ensures c.in_ok-chosen.ensures) (omega (arith, a))

pub returns-then-len-from-2 : goal.returns-then-len-from-2
returns-then-len-from-2 c =
    let free = shown c.args.free.now in
    let beside = shown c.in_ok-beside.beside.items in
    let b = length-map c.in_ok-beside.beside.items (λ m. m.now) in
    short_beside c.args.placement c.args.main.now free beside (subst (λ n. IsPick Beside c.args.main.now n free beside) c.from-3.ensures c.in_ok-beside.ensures) (omega (arith, b))

pub returns-then-len-from-3 : goal.returns-then-len-from-3
returns-then-len-from-3 c =
    let free = shown c.args.free.now in
    let away = shown c.in_ok-away.away.items in
    let d = length-map c.in_ok-away.away.items (λ m. m.now) in
    short_away c.args.placement c.args.main.now free away (subst (λ n. IsPick Away c.args.main.now n free away) c.from-5.ensures c.in_ok-away.ensures) (omega (arith, d))

pub returns : goal.returns
returns c =
    let free = shown c.args.free.now in
    let mains = shown c.in_ok-chosen.chosen.items in
    let beside = shown c.in_ok-beside.beside.items in
    let away = shown c.in_ok-away.away.items in
    let a = length-map c.in_ok-chosen.chosen.items (λ m. m.now) in
    let b = length-map c.in_ok-beside.beside.items (λ m. m.now) in
    let d = length-map c.in_ok-away.away.items (λ m. m.now) in
    let all : shown c.append-2.new.self.items ≡ (mains ++ beside) ++ away =
    ap shown c.in_ok-append-2.ensures.items ∙ map-append (λ m. m.now) c.append.new.self.items c.in_ok-away.away.items
    ∙ ap (λ l. l ++ away) (ap shown c.in_ok-append.ensures.items ∙ map-append (λ m. m.now) c.in_ok-chosen.chosen.items c.in_ok-beside.beside.items) in
    subst (λ l. AreAround c.args.placement c.args.main.now free l) (sym all) (around c.args.placement c.args.main.now free mains beside away
    (subst (λ n. IsPick Main c.args.main.now (n + 1) free mains) c.from.ensures c.in_ok-chosen.ensures)
    (subst (λ n. IsPick Beside c.args.main.now n free beside) c.from-3.ensures c.in_ok-beside.ensures)
    (subst (λ n. IsPick Away c.args.main.now n free away) c.from-5.ensures c.in_ok-away.ensures)
    (omega (arith, a)) (omega (arith, b)) (omega (arith, d)))
