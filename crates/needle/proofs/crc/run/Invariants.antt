use Rattle.std.proofs.Common.{◌≡◌, take}
use Rattle.std.specs.Prelude.{fold}
use Rattle.needle.specs.Crc.{byte_step}
use Rattle.needle.proofs.crc.run.Given as goal

abbrev pub invariant-loop-byte : goal.invariant-loop-byte
invariant-loop-byte l = l.remainder ≡ fold byte_step l.fn.remainder (take l.byte-index l.bytes)
