-- The chunks of an entry, written one after another.
use Rattle.std.proofs.Common.{◌≡◌, ℕ, ◌+◌, ◌<◌, List, ◌++◌, take, length, sym, ap, ◌∙◌, get_or}
use Rattle.std.proofs.lemmas.List.{take_more, flat_map_more}
use Rattle.proto_wire.specs.Text.{message_field}
use Rattle.entry.specs.declared.chunk.Chunk.{Chunk}
use Rattle.entry.specs.EntryWriting.{chunk_text, chunks_text}

-- The text with one chunk more
pub chunk_more : (front : List ℕ) (chunks : List Chunk) (i : ℕ) (d : Chunk) → i < length chunks
    → (front ++ chunks_text (take i chunks)) ++ message_field 3 (chunk_text (get_or chunks i d)) ≡ front ++ chunks_text (take (i + 1) chunks)
chunk_more front chunks i d within =
    flat_map_more (λ c. message_field 3 (chunk_text c)) front (take i chunks) (get_or chunks i d)
    ∙ ap (λ cs. front ++ chunks_text cs) (sym (take_more chunks i d within))
