use Rattle.std.proofs.Common.{◌≡◌, ◌++◌, map}
use Rattle.weed_base.proofs.mem.table.copied_entries.Given as goal

abbrev pub invariant-loop-name : goal.invariant-loop-name
invariant-loop-name l = map (λ file. (file.name, file.bytes)) l.copied.items ++ l.name-iterator ≡ l.files.entries
