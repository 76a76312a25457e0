use Rattle.std.proofs.Common.{◌≡◌, refl, rules, tests, ◌∙◌, ◌==◌}
use Rattle.std.specs.List.{slice_split}
use Rattle.std.specs.Ordering.{nat_cmp}
use Rattle.std.specs.Cmp.Lexicographic.{slice_cmp}
use Rattle.std.proofs.lemmas.Iterator.Splits.{YieldsList-from_slice_split}
use Rattle.std.proofs.lemmas.Iterator.Search.{cmp_from_yields_List}
use Rattle.mem_keeper.proofs.OrderLemmas.{cut_order}
use Rattle.mem_keeper.proofs.path_order.order.Goals as goal

pub returns : goal.returns
returns c =
    cmp_from_yields_List (λ x y. y ≡ x) _ (slice_cmp nat_cmp) _ c.cmp.ensures.ran
    (YieldsList-from_slice_split _ (λ b. b == 47) c.text.result.now (cc) (cc) (cc) (λ x b q k. search (rules, tests)))
    (λ it e. YieldsList-from_slice_split _ (λ b. b == 47) c.text-2.result.now (cc) (cc) (cc) (λ x b q k. search (rules, tests)))
    (λ x y. refl)
    ∙ (λ i. slice_cmp (slice_cmp nat_cmp) (slice_split (λ b. b == 47) (c.text.ensures.text i)) (slice_split (λ b. b == 47) (c.text-2.ensures.text i)))
    ∙ cut_order c.args.path.now c.args.other.now c.text.ensures.valid c.text-2.ensures.valid
