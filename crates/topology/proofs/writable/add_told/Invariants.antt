use Rattle.std.proofs.Common.{◌≡◌, ℕ}
use lib.Dec.{T}
use Rattle.std.specs.Ordering.{nat_cmp}
use Rattle.std.specs.FinMap.{get}
use Rattle.std.specs.FinMap.Entries.{find, is_sorted}
use Rattle.topology.specs.Tallies.{told, tally_at}
use Rattle.topology.proofs.writable.add_told.Given as goal

abbrev pub invariant-loop-volume : goal.invariant-loop-volume
invariant-loop-volume l = record {
  sorted : T (is_sorted nat_cmp l.volume-iterator);
  same : (q : ℕ) → told l.kind (tally_at l.kind l.tallies q) (find nat_cmp q l.volume-iterator) ≡ told l.kind (tally_at l.kind l.fn.tallies q) (get l.reports q);
}
