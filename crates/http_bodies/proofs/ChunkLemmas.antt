-- Lines of chunks, as `httparse` reads them from the first 1,024 bytes.
use Rattle.std.proofs.Common.{◌≡◌, ◌≢◌, ℕ, zero, suc, ◌+◌, ◌-◌, ◌<◌, ◌≤◌, Bool, true, false, get_or, List, [], ◌∷◌, ◌++◌, length, take, drop, codes, Ok, Err, Option, Some, None, refl, sym, ap, subst, ◌∙◌, arith, append_assoc, append-nil, length-append, ⊎_elim}
use Rattle.std.specs.Prelude.{nat_eq, if◌then◌else◌, All, IsTrue}
use Rattle.std.specs.List.{ends_with}
use Rattle.std.proofs.lemmas.Bool.{cases_lt}
use Rattle.std.proofs.lemmas.Bool.Decides.{Decides-eqb, nat_tests}
use Rattle.std.proofs.lemmas.Slice.Eq.{ends_is}
use Rattle.std.proofs.lemmas.List.{length-take, take-append-drop, take-append-le, take_at, drop_at, take_all, nil_from_length}
use Rattle.std.proofs.lemmas.List.Elements.{All-nil, All-cons, All-take, All-append, All-weaker, All-get_or}
use Rattle.std.proofs.Math.Seq.{take-append-add, get_or-append_seam}
use Rattle.std.specs.Char.{is_ascii_hexdigit}
use Rattle.httparse.specs.Grammar.{is_ows, is_extension_byte, print_extension, ChunkLine, chunk_size, print_chunk_line, IsChunkLine, IsExtension, HasNoChunkLine, NeverHasChunkLine, MayBecomeChunkLine}
use Rattle.httparse.specs.Spans.{IsChunkLineAt}
use Rattle.http_bodies.specs.declared.stage.Stage.TheVariants.{Line}
use Rattle.http_bodies.specs.declared.fault.BodyFault.TheVariants.{BadChunk, TooLong}
use Rattle.http_bodies.specs.Stage.{IsSound, turns, behind_line}
use Rattle.http_bodies.specs.Mark.{IsEndAt, BeginsWithMark, IsNever, IsChunkLine as IsShortLine}
use Rattle.http_bodies.specs.Body.{line, bad, over}
use Rattle.http_bodies.specs.Found.{FindsMark, least_line}
use Rattle.http_bodies.proofs.LineLemmas.{never_on, end_on, least_reached}

-- a line without its end
abbrev stem : ChunkLine → List ℕ
stem l = l.digits ++ (l.pad ++ print_extension l.extension)

print_is : (l : ChunkLine) → print_chunk_line l ≡ stem l ++ codes "\r\n"
unfolding print_chunk_line
print_is l = simp append_assoc

-- the first 1,024 bytes, and the others
window_whole : (bytes more : List ℕ) → bytes ++ more ≡ take 1024 bytes ++ (drop 1024 bytes ++ more)
window_whole bytes more =
    ap (λ xs. xs ++ more) (sym (take-append-drop 1024 bytes)) ∙ append_assoc (take 1024 bytes) (drop 1024 bytes) more

-- a line in front of the first bytes is one of all
line_at : (bytes : List ℕ) (len size : ℕ) (l : ChunkLine) → IsChunkLineAt (take 1024 bytes) len size l → IsShortLine size (take len bytes) × (len ≤ length bytes)
line_at bytes len size l held =
    let window = take 1024 bytes in
    let text = print_chunk_line l in
    let rest = drop len window in
    let whole : bytes ≡ text ++ (rest ++ drop 1024 bytes) =
    sym (take-append-drop 1024 bytes) ∙ ap (λ xs. xs ++ drop 1024 bytes) held.reads.1 ∙ append_assoc text rest (drop 1024 bytes) in
    let front : take len bytes ≡ text = ap (take len) whole ∙ take_at text (rest ++ drop 1024 bytes) len (sym held.len_is) in
    let fits : len ≤ 1024 = omega (arith, held.len_is, ap length held.reads.1, length-append text rest, length-take 1024 bytes) in (
      (l, (held.reads.0, front ∙ sym (append-nil text)), sym held.size_is, omega (arith, fits, length-take len bytes)),
      omega (arith, held.len_is, ap length whole, length-append text (rest ++ drop 1024 bytes)),
    )

behind_sound : (size allowed : ℕ) → IsSound (behind_line size allowed)
behind_sound zero allowed = omega arith
behind_sound (suc size) allowed = tt

behind_turns : (size allowed : ℕ) → turns (behind_line size allowed) < 16386
behind_turns zero allowed = omega arith
behind_turns (suc size) allowed = omega arith

pub finds_line : (bytes : List ℕ) (allowed len size : ℕ) (l : ChunkLine) → IsChunkLineAt (take 1024 bytes) len size l → size ≤ allowed
    → FindsMark (Line allowed) bytes (Ok (Some (record { len = len; next = behind_line size allowed })))
finds_line bytes allowed len size l held small =
    let found = line_at bytes len size l held in
    (found.1, behind_sound size allowed, line size allowed (take len bytes) found.0 small, behind_turns size allowed)

pub finds_over : (bytes : List ℕ) (allowed len size : ℕ) (l : ChunkLine) → IsChunkLineAt (take 1024 bytes) len size l → allowed < size
    → FindsMark (Line allowed) bytes (Err TooLong)
finds_over bytes allowed len size l held large =
    let found = line_at bytes len size l held in (
      λ same. cc,
      λ more. over (Line allowed) (bytes ++ more) (size, take len bytes, drop len bytes ++ more, found.0, large, ap (λ xs. xs ++ more) (sym (take-append-drop len bytes)) ∙ append_assoc (take len bytes) (drop len bytes) more),
    )

bad_line : (bytes : List ℕ) (allowed : ℕ) → IsNever (Line allowed) bytes → FindsMark (Line allowed) bytes (Err BadChunk)
bad_line bytes allowed never = (λ same. cc, λ more. bad (Line allowed) (bytes ++ more) (never_on (Line allowed) bytes more never))

pub finds_no_line : (bytes : List ℕ) (allowed : ℕ) → NeverHasChunkLine (take 1024 bytes) → FindsMark (Line allowed) bytes (Err BadChunk)
finds_no_line bytes allowed never = bad_line bytes allowed
    (λ more (text, rest, (size, (l, reads, size_is, short)), whole).
    never (drop 1024 bytes ++ more) l rest (reads.0, sym (window_whole bytes more) ∙ whole ∙ ap (λ xs. xs ++ rest) (reads.1 ∙ append-nil (print_chunk_line l))))

pub finds_long_line : (bytes : List ℕ) (allowed : ℕ) → HasNoChunkLine (take 1024 bytes) → 1024 < least_line (take 1024 bytes) → FindsMark (Line allowed) bytes (Err BadChunk)
finds_long_line bytes allowed none crowded = bad_line bytes allowed
    (λ more (text, rest, (size, (l, reads, size_is, short)), whole).
    let window = take 1024 bytes in
    let front : text ≡ print_chunk_line l = reads.1 ∙ append-nil (print_chunk_line l) in
    let same : window ++ (drop 1024 bytes ++ more) ≡ text ++ rest = sym (window_whole bytes more) ∙ whole in
    let count = length (stem l) in
    let counted : length text ≡ count + 2 = ap length (front ∙ print_is l) ∙ length-append (stem l) (codes "\r\n") in
    let ends : IsEndAt text count = ap (λ xs. take 2 (drop count xs)) (front ∙ print_is l) ∙ ap (take 2) (drop_at (stem l) (codes "\r\n") count refl) in
    ⊎_elim
    (λ past. omega (arith, counted, short, crowded, least_reached window (drop 1024 bytes ++ more) count past (ap (λ xs. take 2 (drop count xs)) same ∙ end_on text rest count (omega (arith, counted)) ∙ ends)))
    (λ within.
    let cut : take (length text) window ≡ text = sym (take-append-le (length text) window (drop 1024 bytes ++ more) (omega (arith, within, counted))) ∙ ap (take (length text)) same ∙ take_at text rest (length text) refl in
    none l (drop (length text) window) (reads.0, sym (take-append-drop (length text) window) ∙ ap (λ xs. xs ++ drop (length text) window) (cut ∙ front)))
    (cases_lt (length window) (count + 2)))

-- ---- a line that is cut may become a short one

-- a front of an extension
cut_extension : (e : Option (List ℕ)) (n : ℕ) → IsExtension e → (k : Option (List ℕ)) × IsExtension k × (print_extension k ≡ take n (print_extension e))
cut_extension None n valid = (None, tt, sym (take_all n [] (omega arith)))
cut_extension (Some text) zero valid = (None, tt, refl)
cut_extension (Some text) (suc n) valid = (Some (take n text), All-take (λ x. IsTrue (is_extension_byte x)) n text valid, refl)

-- a front of a line without its end
cut_stem : (l : ChunkLine) (n : ℕ) → IsChunkLine l → 0 < n → (k : ChunkLine) × IsChunkLine k × (stem k ≡ take n (stem l))
cut_stem l n valid some =
    ⊎_elim
    (λ few. (
      record { digits = take n l.digits; pad = []; extension = None },
      record {
        digits = (omega (arith, few, some, length-take n l.digits), omega (arith, valid.digits.1, length-take n l.digits), All-take (λ x. IsTrue (is_ascii_hexdigit x)) n l.digits valid.digits.2);
        pad = All-nil (λ x. IsTrue (is_ows x));
        extension = tt;
      },
      append-nil (take n l.digits) ∙ sym (take-append-le n l.digits (l.pad ++ print_extension l.extension) (omega (arith, few))),
    ))
    (λ all.
    let more = n - length l.digits in
    let size : n ≡ length l.digits + more = omega (arith, all) in
    let first : take n (stem l) ≡ l.digits ++ take more (l.pad ++ print_extension l.extension) =
    ap (λ k. take k (stem l)) size ∙ take-append-add l.digits (l.pad ++ print_extension l.extension) more in
    ⊎_elim
    (λ few. (
      record { digits = l.digits; pad = take more l.pad; extension = None },
      record { digits = valid.digits; pad = All-take (λ x. IsTrue (is_ows x)) more l.pad valid.pad; extension = tt },
      ap (λ xs. l.digits ++ xs) (append-nil (take more l.pad) ∙ sym (take-append-le more l.pad (print_extension l.extension) (omega (arith, few)))) ∙ sym first,
    ))
    (λ whole.
    let last = more - length l.pad in
    let length_is : more ≡ length l.pad + last = omega (arith, whole) in
    let cut = cut_extension l.extension last valid.extension in (
      record { digits = l.digits; pad = l.pad; extension = cut.0 },
      record { digits = valid.digits; pad = valid.pad; extension = cut.1 },
      ap (λ xs. l.digits ++ xs) (ap (λ xs. l.pad ++ xs) cut.2 ∙ sym (ap (λ k. take k (l.pad ++ print_extension l.extension)) length_is ∙ take-append-add l.pad (print_extension l.extension) last)) ∙ sym first,
    ))
    (cases_lt more (length l.pad)))
    (cases_lt n (length l.digits))

abbrev NoCr : ℕ → Type 0
NoCr b = b ≢ 13

digit_is : (b : ℕ) → is_ascii_hexdigit b ≡ true → b ≢ 13
digit_is b digit same = grind (arith, nat_tests)

blank_is : (b : ℕ) → is_ows b ≡ true → b ≢ 13
blank_is b blank same = grind (arith, nat_tests)

text_is : (b : ℕ) → is_extension_byte b ≡ true → b ≢ 13
text_is b text same = grind (arith, nat_tests)

no_cr_extension : (e : Option (List ℕ)) → IsExtension e → All NoCr (print_extension e)
no_cr_extension None valid = All-nil NoCr
no_cr_extension (Some text) valid = All-cons NoCr 59 text (λ same. omega (arith, same)) (All-weaker (λ x. IsTrue (is_extension_byte x)) NoCr text_is text valid)

no_cr : (l : ChunkLine) → IsChunkLine l → All NoCr (stem l)
no_cr l valid =
    All-append NoCr l.digits (l.pad ++ print_extension l.extension) (All-weaker (λ x. IsTrue (is_ascii_hexdigit x)) NoCr digit_is l.digits valid.digits.2)
    (All-append NoCr l.pad (print_extension l.extension) (All-weaker (λ x. IsTrue (is_ows x)) NoCr blank_is l.pad valid.pad) (no_cr_extension l.extension valid.extension))

abbrev least : Bool → ℕ → ℕ
least b size = if b then size + 1 else size + 2

-- such bytes don't end in CR
long_least : (bytes : List ℕ) (b : Bool) → ends_with nat_eq bytes (codes "\r") ≡ b → All NoCr bytes → least b (length bytes) ≤ 1024 → length bytes + 2 ≤ 1024
long_least bytes true is none fits =
    let whole = (ends_is Decides-eqb bytes (codes "\r") true (sym is)).0 refl in
    let front = take (length bytes - 1) bytes in
    let size : length bytes ≡ length front + 1 = ap length whole ∙ length-append front (codes "\r") in
    absurd (All-get_or NoCr bytes (length front) 0 (omega (arith, size)) none (ap (λ xs. get_or xs (length front) 0) whole ∙ get_or-append_seam front 13 [] 0))
long_least bytes false is none fits = fits

least_more : (b : Bool) (size : ℕ) → least b size ≤ 1024 → size + 1 ≤ 1024
least_more true size fits = fits
least_more false size fits = omega (arith, fits)

shown : (allowed : ℕ) (bytes more : List ℕ) (l : ChunkLine) → IsChunkLine l → bytes ++ more ≡ print_chunk_line l → length bytes + length more ≤ 1024
    → (rest : List ℕ) × BeginsWithMark (Line allowed) (bytes ++ rest)
shown allowed bytes more l valid whole short =
    (more, (bytes ++ more, [], (chunk_size l, (l, (valid, whole ∙ sym (append-nil (print_chunk_line l))), refl, omega (arith, short, length-append bytes more))), sym (append-nil (bytes ++ more))))

abbrev zero_line : ChunkLine
zero_line = record { digits = 48 ∷ []; pad = []; extension = None }

empty_line : (allowed : ℕ) (bytes : List ℕ) → bytes ≡ [] → (rest : List ℕ) × BeginsWithMark (Line allowed) (bytes ++ rest)
empty_line allowed bytes nothing = shown allowed bytes (codes "0\r\n") zero_line
    (record { digits = (omega arith, omega arith, All-cons (λ x. IsTrue (is_ascii_hexdigit x)) 48 [] refl (All-nil (λ x. IsTrue (is_ascii_hexdigit x)))); pad = All-nil (λ x. IsTrue (is_ows x)); extension = tt })
    (ap (λ xs. xs ++ codes "0\r\n") nothing ∙ sym (print_is zero_line)) (omega (arith, ap length nothing))

may_become : (allowed : ℕ) (bytes : List ℕ) → HasNoChunkLine bytes → MayBecomeChunkLine bytes → least (ends_with nat_eq bytes (codes "\r")) (length bytes) ≤ 1024
    → (rest : List ℕ) × BeginsWithMark (Line allowed) (bytes ++ rest)
may_become allowed bytes none (more, l, (valid, reads)) fits =
    let whole : bytes ++ more ≡ stem l ++ codes "\r\n" = reads ∙ append-nil (print_chunk_line l) ∙ print_is l in
    let size : length bytes + length more ≡ length (stem l) + 2 = sym (length-append bytes more) ∙ ap length whole ∙ length-append (stem l) (codes "\r\n") in
    ⊎_elim
    (λ inside.
    ⊎_elim
    (λ empty. empty_line allowed bytes (nil_from_length bytes (omega (arith, empty))))
    (λ some.
    let cut = cut_stem l (length bytes) valid (omega (arith, some)) in
    let same : bytes ≡ stem cut.0 = sym (take_at bytes more (length bytes) refl) ∙ ap (take (length bytes)) whole ∙ take-append-le (length bytes) (stem l) (codes "\r\n") (omega (arith, inside)) ∙ sym cut.2 in
    shown allowed bytes (codes "\r\n") cut.0 cut.1 (ap (λ xs. xs ++ codes "\r\n") same ∙ sym (print_is cut.0))
    (long_least bytes (ends_with nat_eq bytes (codes "\r")) refl (subst (All NoCr) (sym same) (no_cr cut.0 cut.1)) fits))
    (cases_lt (length bytes) 1))
    (λ past.
    ⊎_elim
    (λ one. shown allowed bytes more l valid (reads ∙ append-nil (print_chunk_line l)) (omega (arith, size, past, one, least_more (ends_with nat_eq bytes (codes "\r")) (length bytes) fits)))
    (λ all.
    let nothing : more ≡ [] = nil_from_length more (omega (arith, size, all)) in
    absurd (none l [] (valid, sym (append-nil bytes) ∙ ap (λ xs. bytes ++ xs) (sym nothing) ∙ reads)))
    (cases_lt (length bytes) (length (stem l) + 2)))
    (cases_lt (length bytes) (length (stem l) + 1))

pub finds_open_line : (bytes : List ℕ) (allowed : ℕ) → HasNoChunkLine (take 1024 bytes) → MayBecomeChunkLine (take 1024 bytes) → least_line (take 1024 bytes) ≤ 1024
    → FindsMark (Line allowed) bytes (Ok None)
finds_open_line bytes allowed none may fits =
    let few = least_more (ends_with nat_eq (take 1024 bytes) (codes "\r")) (length (take 1024 bytes)) fits in
    let short : length bytes ≤ 1023 = omega (arith, few, length-take 1024 bytes) in
    let all : take 1024 bytes ≡ bytes = take_all 1024 bytes (omega (arith, short)) in
    let no_line = subst HasNoChunkLine all none in (
      (
        λ (text, rest, (size, (l, reads, size_is, small)), whole). no_line l rest (reads.0, whole ∙ ap (λ xs. xs ++ rest) (reads.1 ∙ append-nil (print_chunk_line l))),
        may_become allowed bytes no_line (subst MayBecomeChunkLine all may) (subst (λ xs. least (ends_with nat_eq xs (codes "\r")) (length xs) ≤ 1024) all fits),
      ),
      omega (arith, short),
    )
