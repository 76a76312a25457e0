use Rattle.std.proofs.Common.{◌≡◌, ◌++◌, take, All}
use Rattle.entry.specs.EntryWriting.{chunks_text, FitsChunk}
use Rattle.entry.proofs.entry_writing.EntryBuffers.write_chunks.Given as goal

-- The chunks so far are written, and fit their types
abbrev pub invariant-loop-chunk : goal.invariant-loop-chunk
invariant-loop-chunk l = record {
  text : l.into ≡ l.initial.into ++ chunks_text (take l.chunk-index l.chunks);
  fits : All FitsChunk (take l.chunk-index l.chunks);
  stays : l.self.attributes ≡ l.initial.self.attributes;
}
