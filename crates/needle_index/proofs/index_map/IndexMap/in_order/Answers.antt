use Rattle.std.proofs.Common.{rules}
use Rattle.std.proofs.lemmas.List.Sorted.{IsNonDecreasingBy-from_sort_by_key, IsPermutation-trans}
use Rattle.needle_index.proofs.index_map.IndexMap.in_order.Goals as goal

pub returns-clause-entries : goal.returns-clause-entries
returns-clause-entries c =
    let are = c.in_ok-entries.ensures in
    rw (← c.self.view_is) (record {
      pairs = are.pairs;
      are = are.are;
      apart = are.apart;
      all = IsPermutation-trans _ _ _ are.all c.sort_by_key.ensures.permutation;
    })

pub returns-clause-order : goal.returns-clause-order
returns-clause-order c = IsNonDecreasingBy-from_sort_by_key (λ entry. entry.offset) _ c.in_ok-sort_by_key.ensures.sorted (λ a r q k. search rules)
