use Rattle.std.proofs.Common.{◌≡◌, ◌++◌}
use Rattle.std.specs.FinMap.{entries}
use Rattle.topology.specs.Tallies.{met_in}
use Rattle.topology.proofs.writable.met_volumes.Given as goal

abbrev pub invariant-loop-volume : goal.invariant-loop-volume
invariant-loop-volume l = l.volumes.items ++ met_in l.volume-iterator ≡ met_in (entries l.tallies)
