use Rattle.std.proofs.Common.{◌≡◌, ℕ}
use Rattle.std.specs.Option.{option_or}
use Rattle.std.specs.Ordering.{nat_cmp}
use Rattle.std.specs.FinMap.{get}
use Rattle.std.specs.FinMap.Entries.{find}
use Rattle.topology.proofs.volumes.add_missing.Given as goal

abbrev pub invariant-loop-volume : goal.invariant-loop-volume
invariant-loop-volume l = (q : ℕ) → option_or (get l.reports q) (find nat_cmp q l.volume-iterator) ≡ option_or (get l.fn.reports q) (get l.told q)
