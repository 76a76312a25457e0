use Rattle.std.proofs.Common.{◌≡◌, max, take}
use Rattle.entry.specs.Entry.{greatest_end}
use Rattle.entry.proofs.entry.Entry.length.Given as goal

abbrev pub invariant-loop-chunk : goal.invariant-loop-chunk
invariant-loop-chunk l = l.length ≡ max l.self.attributes.file_size (greatest_end (take l.chunk-index l.chunk-items))
