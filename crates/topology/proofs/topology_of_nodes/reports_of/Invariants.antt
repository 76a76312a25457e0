use Rattle.std.proofs.Common.{◌≡◌, take}
use Rattle.topology.specs.Changes.{reports_of}
use Rattle.topology.proofs.topology_of_nodes.reports_of.Given as goal

abbrev pub invariant-loop-report : goal.invariant-loop-report
invariant-loop-report l = l.reports ≡ reports_of (take l.report-index l.volumes)
