use Rattle.std.proofs.Common.{◌++◌, ap, ◌∙◌, get_or}
use Rattle.std.proofs.lemmas.List.Elements.{All-more}
use Rattle.proto_wire.specs.Text.{message_field}
use Rattle.entry.specs.EntryWriting.{chunk_text, FitsChunk}
use Rattle.entry.proofs.Lengths.{no_chunk}
use Rattle.entry.proofs.WrittenChunks.{chunk_more}
use Rattle.entry.proofs.entry_writing.EntryBuffers.write_chunks.Goals as goal

pub loop-chunk-preserved : goal.loop-chunk-preserved
loop-chunk-preserved c = record {
  text = c.in_ok-message.ensures.ok
      ∙ ap (λ chunk. c.loop-chunk.into ++ message_field 3 chunk) (c.as_slice.ensures ∙ c.in_ok-set_chunk.ensures.text)
      ∙ ap (λ text. text ++ message_field 3 (chunk_text (get_or c.args.chunks.now c.loop-chunk.chunk-index no_chunk))) c.loop-chunk.invariant.text
      ∙ chunk_more _ c.args.chunks.now c.loop-chunk.chunk-index no_chunk c.loop-chunk-test.true;
  fits = All-more FitsChunk c.args.chunks.now c.loop-chunk.chunk-index no_chunk c.loop-chunk-test.true c.loop-chunk.invariant.fits c.in_ok-set_chunk.ensures.fits;
  stays = c.in_ok-set_chunk.ensures.stays ∙ c.loop-chunk.invariant.stays;
}
