use Rattle.std.proofs.Common.{◌≡◌, take}
use Rattle.std.specs.List.{fold}
use Rattle.needle_index.specs.Text.{entered, entry_of}
use Rattle.needle_index.proofs.index_map.IndexMap.enter_all.Given as goal

abbrev pub invariant-loop-bytes : goal.invariant-loop-bytes
invariant-loop-bytes l = l.self.spots ≡ fold (λ spots bytes. entered spots (entry_of bytes)) l.fn.self.spots (take l.bytes-index l.entries)
