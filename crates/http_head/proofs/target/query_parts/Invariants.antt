use Rattle.std.proofs.Common.{◌≡◌}
use Rattle.std.specs.Prelude.{map}
use Rattle.http_head.specs.Target.{query_part}
use Rattle.http_head.proofs.target.query_parts.Given as goal

abbrev pub invariant-loop-part : goal.invariant-loop-part
invariant-loop-part l = l.parts.items ≡ map query_part (map (λ part. part.now) l.yielded)
