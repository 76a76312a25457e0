use Rattle.std.proofs.Common.{List, map, refl, subst, sym}
use Rattle.std.specs.List.Sorted.{IsPermutation}
use Rattle.std.proofs.lemmas.List.Sorted.{IsPermutation-refl}
use Rattle.std.proofs.lemmas.Result.{IfOk-weaker}
use Rattle.needle_index.specs.Order.{entry_with}
use Rattle.needle_index.specs.declared.entry.IndexEntry.{IndexEntry}
use Rattle.needle_index.proofs.slots.Slots.entries.Goals as goal

pub returns : goal.returns
returns c =
    let pairs = c.self.inside.map.entries in
    rw (← c.self.view_is) (IfOk-weaker c.entries_in.result _ _ (λ entries is. record {
      pairs = pairs;
      are = refl;
      apart = c.entries_in.ensures.apart;
      all = subst (λ (l : List IndexEntry). IsPermutation (map entry_with pairs) l) (sym is) (IsPermutation-refl (map entry_with pairs));
    }) c.entries_in.ensures.entries)
