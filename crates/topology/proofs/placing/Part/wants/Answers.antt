use Rattle.std.proofs.Common.{◌≡◌, nat_eq, nat_lt, length, true, ap, sym, ◌∙◌, arith}
use Rattle.std.specs.List.{list_any}
use Rattle.std.specs.Cmp.Lexicographic.{pointwise}
use Rattle.std.proofs.lemmas.List.{length-map}
use Rattle.std.proofs.lemmas.Bool.Decides.{nat_tests}
use Rattle.topology.specs.Picks.{shown, mark_of}
use Rattle.topology.proofs.Picking.{any_shown, wants_is}
use Rattle.topology.proofs.placing.Part.wants.Goals as goal

pub returns-then-takes : goal.returns-then-takes
returns-then-takes c =
    let short : nat_lt (length (shown c.args.picked.now)) c.args.count ≡ true = let e = length-map c.args.picked.now (λ m. m.now) in grind (arith, nat_tests) in
    wants_is _ _ _ _ short (sym c.if-takes.ensures) (c.has_mark.ensures ∙ ap (λ mark. list_any (λ member. pointwise nat_eq mark (mark_of c.args.self member.now)) c.args.picked.now) c.mark.ensures ∙ any_shown c.args.self _ c.args.picked.now)
