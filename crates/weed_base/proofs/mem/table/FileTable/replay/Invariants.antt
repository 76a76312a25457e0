use Rattle.std.proofs.Common.{◌≡◌, drop}
use Rattle.weed_base.specs.History.{replayed}
use Rattle.weed_base.proofs.mem.table.FileTable.replay.Given as goal

abbrev pub invariant-loop-call : goal.invariant-loop-call
invariant-loop-call l = replayed l.pick l.self (drop l.call-index l.calls) ≡ replayed l.pick l.fn.self l.calls
