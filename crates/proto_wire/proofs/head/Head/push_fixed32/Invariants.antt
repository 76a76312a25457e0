use Rattle.std.proofs.Common.{◌≡◌, ◌++◌, take}
use Rattle.proto_wire.proofs.head.Head.push_fixed32.Given as goal

abbrev pub invariant-loop-byte : goal.invariant-loop-byte
invariant-loop-byte l = l.self ≡ l.fn.self ++ take l.byte-index l.byte-items
