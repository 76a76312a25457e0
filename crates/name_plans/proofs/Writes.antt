-- The file that a write leaves is valid.
use Rattle.std.proofs.Common.{◌≡◌, ◌⊎◌, inl, inr, cond, ℕ, ◌+◌, ◌≤◌, max, true, false, List, [], ◌∷◌, ◌++◌, length, map, Option, Some, None, refl, sym, subst, arith}
use Rattle.std.specs.Prelude.{All, IfSome, is_some}
use Rattle.std.proofs.lemmas.List.Elements.{All-nil, All-cons, All-head, All-tail, All-append}
use Rattle.entry.specs.declared.chunk.Chunk.{Chunk}
use Rattle.entry.specs.declared.entry.Entry.{Entry}
use Rattle.entry.specs.declared.entry.Kind.TheVariants.{Directory, File}
use Rattle.entry.specs.Entry.{IsValid, IsValidChunk, end_of, greatest_end}
use Rattle.name_plans.specs.declared.command.Piece.{Piece}
use Rattle.name_plans.specs.Writing.{Written, Follow, IsWrite, start_of, end_of_write, chunk_at, chunks_after, old_chunks, length_before, file_after, mime_at}

follow_rises : (pieces : List Piece) (from to : ℕ) → Follow pieces from to → from ≤ to
follow_rises [] from to is = omega (arith, is)
follow_rises (piece ∷ pieces) from to is = omega (arith, follow_rises pieces (from + piece.size) to is.2)

-- Pieces that follow each other up to a place lie below it.
pieces_valid : (time : ℕ) (pieces : List Piece) (from to : ℕ) → Follow pieces from to → to ≤ 274877906944 → All IsValidChunk (map (chunk_at time) pieces)
pieces_valid time [] from to is within = All-nil IsValidChunk
pieces_valid time (piece ∷ pieces) from to is within =
    let rises = follow_rises pieces (from + piece.size) to is.2 in
    let begins = is.0 in
    All-cons IsValidChunk (chunk_at time piece) (map (chunk_at time) pieces)
    (record { filled = is.1; within = omega arith })
    (pieces_valid time pieces (from + piece.size) to is.2 within)

chunk_end : (chunk : Chunk) → IsValidChunk chunk → end_of chunk ≤ 274877906944
chunk_end chunk valid = valid.within

ends_within : (chunks : List Chunk) → All IsValidChunk chunks → greatest_end chunks ≤ 274877906944
ends_within [] each = omega arith
ends_within (chunk ∷ chunks) each =
    omega (arith, chunk_end chunk (All-head IsValidChunk chunk chunks each), ends_within chunks (All-tail IsValidChunk chunk chunks each))

length_within : (old : Option Entry) → IfSome old IsValid → length_before old ≤ 274877906944
length_within None valid = omega arith
length_within (Some old) valid =
    let size = valid.file_size in
    omega (arith, ends_within old.chunks valid.chunks)

old_valid : (old : Option Entry) → IfSome old IsValid → All IsValidChunk (old_chunks old)
old_valid None valid = All-nil IsValidChunk
old_valid (Some old) valid = valid.chunks

old_mime : (old : Option Entry) (mime : List ℕ) → IfSome old IsValid → length mime ≤ 255 → length (mime_at old mime) ≤ 255
old_mime None mime valid short = short
old_mime (Some old) mime valid short = valid.mime

at_or_whole : (at : Option ℕ) → (is_some at ≡ false) ⊎ (is_some at ≡ true)
at_or_whole None = inl refl
at_or_whole (Some at) = inr refl

pub file_is_valid : (time : ℕ) (old : Option Entry) (w : Written) → IsWrite w → IfSome old IsValid → end_of_write w ≤ 274877906944
    → length (chunks_after time old w) ≤ 65536 → IsValid (file_after time old w)
file_is_valid time old w write valid within few =
    elim (at_or_whole w.at) [
      | inl whole ↦ record {
        bare = λ (is : File ≡ Directory). cc;
        chunks = subst (λ b. All IsValidChunk (cond b (old_chunks old ++ map (chunk_at time) w.pieces) (map (chunk_at time) w.pieces))) (sym whole)
            (pieces_valid time w.pieces (start_of w) (end_of_write w) write.pieces within);
        few = few;
        file_size = subst (λ b. cond b (max (length_before old) (end_of_write w)) w.size ≤ 274877906944) (sym whole) (omega arith);
        mime = subst (λ b. length (cond b (mime_at old w.mime) w.mime) ≤ 255) (sym whole) write.mime;
      }
      | inr at ↦ record {
        bare = λ (is : File ≡ Directory). cc;
        chunks = subst (λ b. All IsValidChunk (cond b (old_chunks old ++ map (chunk_at time) w.pieces) (map (chunk_at time) w.pieces))) (sym at)
            (All-append IsValidChunk (old_chunks old) (map (chunk_at time) w.pieces) (old_valid old valid) (pieces_valid time w.pieces (start_of w) (end_of_write w) write.pieces within));
        few = few;
        file_size = subst (λ b. cond b (max (length_before old) (end_of_write w)) w.size ≤ 274877906944) (sym at) (omega (arith, length_within old valid));
        mime = subst (λ b. length (cond b (mime_at old w.mime) w.mime) ≤ 255) (sym at) (old_mime old w.mime valid write.mime);
      }
    ]
