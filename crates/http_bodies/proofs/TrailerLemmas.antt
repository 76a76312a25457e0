-- Trailer lines, as a search for a line end finds them.
use Rattle.std.proofs.Common.{◌≡◌, ℕ, ◌+◌, ◌-◌, ◌<◌, ◌≤◌, max, Bool, true, false, get_or, Ok, Err, Some, None, List, [], ◌∷◌, ◌++◌, length, take, drop, codes, refl, sym, ap, subst, ◌∙◌, arith, append_assoc, append-nil, length-append, inl, inr, ◌⊎◌, ⊎_elim}
use Rattle.std.specs.Prelude.{nat_eq, if◌then◌else◌}
use Rattle.std.specs.List.{ends_with}
use Rattle.std.proofs.lemmas.Bool.{cases_lt}
use Rattle.std.proofs.lemmas.Bool.Decides.{Decides-eqb}
use Rattle.std.proofs.lemmas.Slice.Eq.{ends_is}
use Rattle.std.proofs.lemmas.List.{length-drop, length-take-le, take-append-drop, drop-append-le, drop_at}
use Rattle.std.proofs.lemmas.List.Prefix.{at_from_reads, at_reads}
use Rattle.memchr.specs.Find.{OccursAt, Nowhere, NoneBefore, FindsNeedle}
use Rattle.http_bodies.specs.declared.stage.Stage.TheVariants.{Length, Trailers}
use Rattle.http_bodies.specs.Mark.{IsEndAt, IsLine, BeginsWithMark, IsNever}
use Rattle.http_bodies.specs.Body.{Leads, last, trailer, bad}
use Rattle.http_bodies.specs.declared.fault.BodyFault.TheVariants.{BadChunk}
use Rattle.http_bodies.specs.Found.{least_line, FindsMark}
use Rattle.http_bodies.proofs.LineLemmas.{never_on, end_within, end_on, least_reached}

-- what the search finds is the end of a line
pub end-from_occurs : (bytes : List ℕ) (place : ℕ) → OccursAt bytes (codes "\r\n") place → IsEndAt bytes place
end-from_occurs bytes place occurs =
    ap (take 2) (at_from_reads 0 bytes (codes "\r\n") place occurs.fits occurs.reads)

pub occurs-from_end : (bytes : List ℕ) (place : ℕ) → IsEndAt bytes place → OccursAt bytes (codes "\r\n") place
occurs-from_end bytes place stands =
    let rest = drop place bytes in
    let reads : rest ≡ codes "\r\n" ++ drop 2 rest = sym (take-append-drop 2 rest) ∙ ap (λ xs. xs ++ drop 2 rest) stands in
    record {
      fits = end_within bytes place stands;
      reads = at_reads 0 bytes (codes "\r\n") place (drop 2 rest) reads;
    }

-- no line ends in the bytes
abbrev pub HasNoEnd : List ℕ → Type 0
HasNoEnd bytes = (place : ℕ) → ¬ IsEndAt bytes place

pub no_end : (bytes : List ℕ) → Nowhere (OccursAt bytes (codes "\r\n")) 0 (length bytes + 1) → HasNoEnd bytes
no_end bytes nowhere place stands = nowhere place (omega arith) (omega (arith, end_within bytes place stands)) (occurs-from_end bytes place stands)

pub none_before : (bytes : List ℕ) (limit found : ℕ) → NoneBefore (OccursAt bytes (codes "\r\n")) 0 limit found → (place : ℕ) → place < found → ¬ IsEndAt bytes place
none_before bytes limit found first place early stands = first.before place (omega arith) early (occurs-from_end bytes place stands)

-- a line in front of some bytes ends in them
line_ends : (bytes text rest : List ℕ) (count : ℕ) → bytes ≡ text ++ rest → IsLine text count → IsEndAt bytes count
line_ends bytes text rest count whole line =
    ap (λ xs. take 2 (drop count xs)) whole ∙ end_on text rest count (omega (arith, line.ends)) ∙ line.stands

-- the first end in some bytes ends a line
pub line_found : (bytes : List ℕ) (found : ℕ) → IsEndAt bytes found → ((place : ℕ) → place < found → ¬ IsEndAt bytes place) → IsLine (take (found + 2) bytes) found
line_found bytes found stands first =
    let text = take (found + 2) bytes in
    let rest = drop (found + 2) bytes in
    let size : length text ≡ found + 2 = length-take-le (found + 2) bytes (end_within bytes found stands) in
    let same = λ (place : ℕ) (within : place + 2 ≤ length text). sym (end_on text rest place within) ∙ ap (λ xs. take 2 (drop place xs)) (take-append-drop (found + 2) bytes) in
    record {
      ends = size;
      stands = same found (omega (arith, size)) ∙ stands;
      first = λ place early here. first place early (sym (same place (omega (arith, size, early))) ∙ here);
    }

pub empty_found : (bytes : List ℕ) (room : ℕ) → IsEndAt bytes 0 → Leads (Trailers room) (take 2 bytes) (Length 0)
empty_found bytes room stands = subst (λ text. Leads (Trailers room) text (Length 0)) (sym stands) (last room)

pub trailer_found : (bytes : List ℕ) (room found : ℕ) → 0 < found → found + 2 ≤ room → IsEndAt bytes found → ((place : ℕ) → place < found → ¬ IsEndAt bytes place)
    → Leads (Trailers room) (take (found + 2) bytes) (Trailers (room - (found + 2)))
trailer_found bytes room found some fits stands first =
    let line = line_found bytes found stands first in
    subst (λ (n : ℕ). Leads (Trailers room) (take (found + 2) bytes) (Trailers (room - n))) line.ends
    (trailer room found (take (found + 2) bytes) line some (omega (arith, line.ends, fits)))

-- a line that has its end past the room never is one
pub trailer_too_long : (bytes : List ℕ) (room found : ℕ) → 0 < found → room < found + 2 → IsEndAt bytes found → ((place : ℕ) → place < found → ¬ IsEndAt bytes place)
    → IsNever (Trailers room) bytes
trailer_too_long bytes room found some past stands first more (text, rest, (count, line, small), whole) =
    let ends = line_ends (bytes ++ more) text rest count whole line in
    ⊎_elim
    (λ early. first count early (sym (end_on bytes more count (omega (arith, early, end_within bytes found stands))) ∙ ends))
    (λ late. ⊎_elim
    (λ later. line.first found later (sym (end_on text rest found (omega (arith, later, line.ends))) ∙ ap (λ xs. take 2 (drop found xs)) (sym whole) ∙ end_on bytes more found (end_within bytes found stands) ∙ stands))
    (λ same. ⊎_elim (λ none. omega (arith, none, some, same, late)) (λ fits. omega (arith, fits, past, line.ends, late, same)) small)
    (cases_lt found count))
    (cases_lt count found)

-- a line that has no end yet, and has no room left for one
pub trailer_crowded : (bytes : List ℕ) (room : ℕ) → HasNoEnd bytes → max room 2 < least_line bytes → IsNever (Trailers room) bytes
trailer_crowded bytes room none crowded more (text, rest, (count, line, small), whole) =
    let ends = line_ends (bytes ++ more) text rest count whole line in
    ⊎_elim
    (λ past. let least = least_reached bytes more count past ends in
    ⊎_elim (λ empty. omega (arith, empty, least, crowded)) (λ fits. omega (arith, fits, least, crowded, line.ends)) small)
    (λ within. none count (sym (end_on bytes more count within) ∙ ends))
    (cases_lt (length bytes) (count + 2))

-- no byte and CR LF are a line end behind it
not_across : (last : List ℕ) → length last ≡ 1 → take 2 (last ++ codes "\r\n") ≡ codes "\r\n" → ⊥
not_across [] size whole = omega arith
not_across (a ∷ []) size whole = omega (arith, ap (λ xs. get_or xs 1 0) whole)
not_across (a ∷ b ∷ rest) size whole = omega arith

-- bytes without an end, and CR LF, are a line
ended : (bytes : List ℕ) → HasNoEnd bytes → IsLine (bytes ++ codes "\r\n") (length bytes)
ended bytes none = record {
  ends = length-append bytes (codes "\r\n");
  stands = ap (take 2) (drop_at bytes (codes "\r\n") (length bytes) refl);
  first = λ place early stands. ⊎_elim
      (λ across. not_across (drop place bytes) (omega (arith, early, across, length-drop place bytes)) (sym (ap (take 2) (drop-append-le place bytes (codes "\r\n") (omega (arith, early)))) ∙ stands))
      (λ within. none place (sym (end_on bytes (codes "\r\n") place within) ∙ stands))
      (cases_lt (length bytes) (place + 2));
}

-- bytes without an end but a CR at their end, and LF, are a line
ended_by_lf : (bytes front : List ℕ) → HasNoEnd bytes → bytes ≡ front ++ codes "\r" → IsLine (bytes ++ codes "\n") (length front)
ended_by_lf bytes front none whole =
    let size : length bytes ≡ length front + 1 = ap length whole ∙ length-append front (codes "\r") in
    let same : bytes ++ codes "\n" ≡ front ++ codes "\r\n" = ap (λ xs. xs ++ codes "\n") whole ∙ append_assoc front (codes "\r") (codes "\n") in
    record {
      ends = omega (arith, size, length-append bytes (codes "\n"));
      stands = ap (λ xs. take 2 (drop (length front) xs)) same ∙ ap (take 2) (drop_at front (codes "\r\n") (length front) refl);
      first = λ place early stands. none place (sym (end_on bytes (codes "\n") place (omega (arith, early, size))) ∙ stands);
    }

small_enough : (count size room : ℕ) → size ≡ count + 2 → size ≤ max room 2 → (count ≡ 0) ⊎ (size ≤ room)
small_enough count size room is fits =
    ⊎_elim (λ large. inl (omega (arith, large, is, fits))) (λ small. inr small) (cases_lt room size)

abbrev least : Bool → ℕ → ℕ
least b size = if b then size + 1 else size + 2

completed : (bytes : List ℕ) (room : ℕ) (b : Bool) → ends_with nat_eq bytes (codes "\r") ≡ b → HasNoEnd bytes → least b (length bytes) ≤ max room 2
    → (more : List ℕ) × BeginsWithMark (Trailers room) (bytes ++ more)
completed bytes room true is none fits =
    let whole = (ends_is Decides-eqb bytes (codes "\r") true (sym is)).0 refl in
    let front = take (length bytes - 1) bytes in
    let line = ended_by_lf bytes front none whole in
    (codes "\n", (bytes ++ codes "\n", [], (length front, line, small_enough (length front) (length (bytes ++ codes "\n")) room line.ends (omega (arith, fits, length-append bytes (codes "\n")))), sym (append-nil (bytes ++ codes "\n"))))
completed bytes room false is none fits =
    let line = ended bytes none in
    (codes "\r\n", (bytes ++ codes "\r\n", [], (length bytes, line, small_enough (length bytes) (length (bytes ++ codes "\r\n")) room line.ends (omega (arith, fits, line.ends))), sym (append-nil (bytes ++ codes "\r\n"))))

-- ---- what the search tells

pub finds_empty : (bytes : List ℕ) (room : ℕ) → FindsNeedle bytes (codes "\r\n") 0 (Some 0) → FindsMark (Trailers room) bytes (Ok (Some (record { len = 2; next = Length 0 })))
finds_empty bytes room found =
    let stands = end-from_occurs bytes 0 found.1 in
    (end_within bytes 0 stands, tt, empty_found bytes room stands, omega arith)

pub finds_trailer : (bytes : List ℕ) (room place : ℕ) → FindsNeedle bytes (codes "\r\n") 0 (Some place) → 0 < place → place + 2 ≤ room → room ≤ 16384
    → FindsMark (Trailers room) bytes (Ok (Some (record { len = place + 2; next = Trailers (room - (place + 2)) })))
finds_trailer bytes room place found some fits sound =
    let stands = end-from_occurs bytes place found.1 in
    let first = none_before bytes (length bytes + 1) place found.0 in
    (end_within bytes place stands, omega (arith, sound), trailer_found bytes room place some fits stands first, omega (arith, fits))

bad_trailer : (bytes : List ℕ) (room : ℕ) → IsNever (Trailers room) bytes → FindsMark (Trailers room) bytes (Err BadChunk)
bad_trailer bytes room never = (λ same. cc, λ more. bad (Trailers room) (bytes ++ more) (never_on (Trailers room) bytes more never))

pub finds_too_long : (bytes : List ℕ) (room place : ℕ) → FindsNeedle bytes (codes "\r\n") 0 (Some place) → 0 < place → room < place + 2 → FindsMark (Trailers room) bytes (Err BadChunk)
finds_too_long bytes room place found some past =
    bad_trailer bytes room (trailer_too_long bytes room place some past (end-from_occurs bytes place found.1) (none_before bytes (length bytes + 1) place found.0))

pub finds_crowded : (bytes : List ℕ) (room : ℕ) → FindsNeedle bytes (codes "\r\n") 0 None → max room 2 < least_line bytes → FindsMark (Trailers room) bytes (Err BadChunk)
finds_crowded bytes room found crowded = bad_trailer bytes room (trailer_crowded bytes room (no_end bytes found) crowded)

pub finds_open : (bytes : List ℕ) (room : ℕ) → FindsNeedle bytes (codes "\r\n") 0 None → least_line bytes ≤ max room 2 → room ≤ 16384 → FindsMark (Trailers room) bytes (Ok None)
finds_open bytes room found fits sound =
    let none = no_end bytes found in (
      (
        λ (text, rest, (count, line, small), whole). none count (line_ends bytes text rest count whole line),
        completed bytes room (ends_with nat_eq bytes (codes "\r")) refl none fits,
      ),
      short (ends_with nat_eq bytes (codes "\r")) (length bytes) fits,
    )
  where
    short : (b : Bool) (size : ℕ) → least b size ≤ max room 2 → size < 32768
    short true size fits = omega (arith, fits, sound)
    short false size fits = omega (arith, fits, sound)
