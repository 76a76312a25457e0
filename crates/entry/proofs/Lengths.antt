-- The length of a file, one chunk after another.
use Rattle.std.proofs.Common.{◌≡◌, ℕ, ◌+◌, ◌<◌, max, false, List, [], ◌∷◌, ◌++◌, length, take, sym, ap, ◌∙◌, arith, get_or}
use Rattle.std.proofs.lemmas.List.{take_more}
use Rattle.entry.specs.declared.chunk.Chunk.{Chunk}
use Rattle.entry.specs.Entry.{end_of, greatest_end}

-- What stands for a chunk where there is none
abbrev pub no_chunk : Chunk
no_chunk = record { fid = record { volume = 0; key = 0; cookie = 0 }; offset = 0; size = 0; modified = 0; compressed = false; ciphered = false; manifest = false }

max_assoc : (a b c : ℕ) → max (max a b) c ≡ max a (max b c)
max_assoc a b c = omega arith

max_zero : (a : ℕ) → max a 0 ≡ max 0 a
max_zero a = omega arith

greatest_end-more : (chunks : List Chunk) (chunk : Chunk) → greatest_end (chunks ++ chunk ∷ []) ≡ max (greatest_end chunks) (end_of chunk)
greatest_end-more [] chunk = max_zero (end_of chunk)
greatest_end-more (first ∷ chunks) chunk =
    ap (λ n. max (end_of first) n) (greatest_end-more chunks chunk) ∙ sym (max_assoc (end_of first) (greatest_end chunks) (end_of chunk))

pub length_more : (size i : ℕ) (chunks : List Chunk) (d : Chunk) → i < length chunks
    → max (max size (greatest_end (take i chunks))) (end_of (get_or chunks i d)) ≡ max size (greatest_end (take (i + 1) chunks))
length_more size i chunks d within =
    max_assoc size (greatest_end (take i chunks)) (end_of (get_or chunks i d))
    ∙ ap (λ n. max size n) (sym (greatest_end-more (take i chunks) (get_or chunks i d)))
    ∙ ap (λ cs. max size (greatest_end cs)) (sym (take_more chunks i d within))
