use Rattle.std.proofs.Common.{◌≡◌, drop}
use Rattle.http_head.specs.Target.{is_well_escaped}
use Rattle.http_head.proofs.target.is_well_escaped.Given as goal

abbrev pub invariant-loop-place : goal.invariant-loop-place
invariant-loop-place l = is_well_escaped (drop l.place l.target) ≡ is_well_escaped l.target
