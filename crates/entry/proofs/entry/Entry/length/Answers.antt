use Rattle.std.proofs.Common.{◌∙◌, max, ap, get_or}
use Rattle.entry.specs.Entry.{end_of}
use Rattle.entry.proofs.Lengths.{no_chunk, length_more}
use Rattle.entry.proofs.entry.Entry.length.Goals as goal

pub loop-chunk-preserved : goal.loop-chunk-preserved
loop-chunk-preserved c =
    c.max-length.ensures
    ∙ ap (λ n. max n (end_of (get_or c.as_slice-chunk-items.result.now c.loop-chunk.chunk-index no_chunk))) c.loop-chunk.invariant
    ∙ length_more c.args.self.now.attributes.file_size c.loop-chunk.chunk-index c.as_slice-chunk-items.result.now no_chunk c.loop-chunk-test.true
