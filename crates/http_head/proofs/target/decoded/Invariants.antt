use Rattle.std.proofs.Common.{◌≡◌, take}
use Rattle.std.specs.Prelude.{map}
use Rattle.http_head.specs.Target.{with_blank}
use Rattle.http_head.proofs.target.decoded.Given as goal

abbrev pub invariant-loop-byte : goal.invariant-loop-byte
invariant-loop-byte l = l.spaced.items ≡ map with_blank (take l.byte-index l.text)
