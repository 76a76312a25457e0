use Rattle.std.proofs.Common.{◌≡◌, ◌++◌, map}
use Rattle.needle_index.specs.Order.{entry_with}
use Rattle.needle_index.proofs.slots.entries_in.Given as goal

-- the entries so far and those of what is left are those of all
abbrev pub invariant-loop-key : goal.invariant-loop-key
invariant-loop-key l = l.entries.items ++ map entry_with l.key-iterator ≡ map entry_with l.spots.entries
