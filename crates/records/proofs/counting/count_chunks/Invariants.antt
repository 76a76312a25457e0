use Rattle.std.proofs.Common.{ℕ, List, ◌++◌, take}
use Rattle.entry.specs.EntryWriting.{chunks_text}
use Rattle.records.specs.Lengths.{Measures}
use Rattle.records.proofs.counting.count_chunks.Given as goal

-- The chunks so far are counted
abbrev pub invariant-loop-chunk : goal.invariant-loop-chunk
invariant-loop-chunk l = (front : List ℕ) → Measures l.initial.text.size front → Measures l.text.size (front ++ chunks_text (take l.chunk-index l.chunks))
