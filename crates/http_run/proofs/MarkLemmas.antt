-- At most one mark stands in front of some bytes.
use Rattle.std.proofs.Common.{◌≡◌, ℕ, ◌<◌, List, ◌++◌, length, take, drop, codes, refl, sym, ap, ◌∙◌, arith, append-nil, ⊎_elim}
use Rattle.std.proofs.lemmas.Bool.{cases_lt}
use Rattle.std.proofs.lemmas.List.{drop_at}
use Rattle.httparse.specs.Grammar.{ChunkLine, ReadsChunkLine, chunk_size, print_chunk_line}
use Rattle.httparse.proofs.ChunkLemmas.{chunk_line_unique}
use Rattle.http_bodies.specs.Mark.{IsChunkLine, IsLine, IsEndAt}
use Rattle.http_bodies.proofs.LineLemmas.{end_on}

-- a chunk's line in front of some bytes
reads_line : (bytes text rest : List ℕ) (size : ℕ) → IsChunkLine size text → bytes ≡ text ++ rest → (l : ChunkLine) × ReadsChunkLine bytes l rest × (chunk_size l ≡ size)
reads_line bytes text rest size (l, (valid, printed), sized, short) split =
    (l, (valid, split ∙ ap (λ xs. xs ++ rest) (printed ∙ append-nil (print_chunk_line l))), sized)

-- it is the only one
pub line_once : (bytes one two rest other : List ℕ) (size count : ℕ) → IsChunkLine size one → bytes ≡ one ++ rest → IsChunkLine count two → bytes ≡ two ++ other → (size ≡ count) × (rest ≡ other)
line_once bytes one two rest other size count first split second parted =
    let a = reads_line bytes one rest size first split in
    let b = reads_line bytes two other count second parted in
    let same = chunk_line_unique bytes a.0 b.0 rest other a.1 b.1 in
    (sym a.2 ∙ ap chunk_size same.0 ∙ b.2, same.1)

-- where the first end of a line stands
first_end : (bytes text rest : List ℕ) (count : ℕ) → IsLine text count → bytes ≡ text ++ rest → IsEndAt bytes count × ((place : ℕ) → place < count → ¬ IsEndAt bytes place)
first_end bytes text rest count line split = (
  ap (λ xs. take 2 (drop count xs)) split ∙ end_on text rest count (omega (arith, line.ends)) ∙ line.stands,
  λ place early stands. line.first place early (sym (end_on text rest place (omega (arith, line.ends, early))) ∙ sym (ap (λ xs. take 2 (drop place xs)) split) ∙ stands),
)

-- a line in front of some bytes is the only one
pub end_once : (bytes one two rest other : List ℕ) (count size : ℕ) → IsLine one count → bytes ≡ one ++ rest → IsLine two size → bytes ≡ two ++ other → (count ≡ size) × (rest ≡ other)
end_once bytes one two rest other count size first split second parted =
    let a = first_end bytes one rest count first split in
    let b = first_end bytes two other size second parted in
    let same : count ≡ size =
    ⊎_elim
    (λ less. absurd (b.1 count less a.0))
    (λ more. ⊎_elim (λ less. absurd (a.1 size less b.0)) (λ least. omega (arith, more, least)) (cases_lt size count))
    (cases_lt count size)
    in
    let long : length one ≡ length two = omega (arith, first.ends, second.ends, same) in
    (same, sym (drop_at one rest (length one) refl) ∙ ap (drop (length one)) (sym split ∙ parted) ∙ drop_at two other (length one) (sym long))

-- a line end by itself
pub bare_end : IsLine (codes "\r\n") 0
bare_end = record { ends = refl; stands = refl; first = λ place early stands. absurd (omega (arith, early)) }
