use Rattle.std.proofs.Common.{subst, get_or}
use Rattle.entry.proofs.Lengths.{no_chunk}
use Rattle.entry.proofs.WrittenChunks.{chunk_more}
use Rattle.entry.specs.EntryWriting.{chunk_text}
use Rattle.records.specs.Lengths.{Measures}
use Rattle.records.proofs.counting.count_chunks.Goals as goal

pub loop-chunk-preserved : goal.loop-chunk-preserved
loop-chunk-preserved c = λ front is.
    subst (Measures c.message.new.self.size) (chunk_more front c.args.chunks.now c.loop-chunk.chunk-index no_chunk c.loop-chunk-test.true)
    (c.message.ensures _ (chunk_text (get_or c.args.chunks.now c.loop-chunk.chunk-index no_chunk)) (c.loop-chunk.invariant front is) c.chunk_size.ensures)
