use Rattle.std.proofs.Common.{◌≡◌, ℕ, take}
use Rattle.std.specs.FinMap.{get}
use Rattle.topology.specs.Told.{first_report}
use Rattle.topology.proofs.volumes.first_reports.Given as goal

abbrev pub invariant-loop-member : goal.invariant-loop-member
invariant-loop-member l = (volume : ℕ) → get l.reports volume ≡ first_report volume (take l.member-index l.members)
