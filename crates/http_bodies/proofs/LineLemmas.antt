-- Line ends, and marks that never come.
use Rattle.std.proofs.Common.{◌≡◌, ℕ, ◌+◌, ◌<◌, ◌≤◌, Bool, true, false, List, [], ◌∷◌, ◌++◌, length, take, drop, codes, refl, sym, ap, subst, ◌∙◌, arith, append_assoc, ⊎_elim}
use Rattle.std.specs.Prelude.{nat_eq, if◌then◌else◌}
use Rattle.std.specs.List.{ends_with}
use Rattle.std.proofs.lemmas.Bool.{cases_lt, false≢true}
use Rattle.std.proofs.lemmas.Bool.Decides.{Decides-eqb}
use Rattle.std.proofs.lemmas.Slice.Eq.{ends_is}
use Rattle.std.proofs.lemmas.List.{length-drop, length-take, take-append-drop, take-append-le, drop-append-le}
use Rattle.http_bodies.specs.declared.stage.Stage.{Stage}
use Rattle.http_bodies.specs.Mark.{IsEndAt, BeginsWithMark, IsNever}
use Rattle.http_bodies.specs.Found.{least_line}

-- what never comes doesn't come behind more bytes either
pub never_on : (stage : Stage) (bytes more : List ℕ) → IsNever stage bytes → IsNever stage (bytes ++ more)
never_on stage bytes more never rest begun = never (more ++ rest) (subst (BeginsWithMark stage) (append_assoc bytes more rest) begun)

-- an end of a line lies within
pub end_within : (bytes : List ℕ) (place : ℕ) → IsEndAt bytes place → place + 2 ≤ length bytes
end_within bytes place stands = omega (arith, ap length stands, length-take 2 (drop place bytes), length-drop place bytes)

-- bytes behind it don't matter
pub end_on : (bytes more : List ℕ) (place : ℕ) → place + 2 ≤ length bytes → take 2 (drop place (bytes ++ more)) ≡ take 2 (drop place bytes)
end_on bytes more place within =
    ap (take 2) (drop-append-le place bytes more (omega (arith, within)))
    ∙ take-append-le 2 (drop place bytes) more (omega (arith, within, length-drop place bytes))

-- a first byte before line ends
first_of : (last more : List ℕ) → length last ≡ 1 → take 2 (last ++ more) ≡ codes "\r\n" → last ≡ codes "\r"
first_of [] more size whole = absurd (omega arith)
first_of (a ∷ []) [] size whole = absurd (omega (arith, ap length whole))
first_of (a ∷ []) (b ∷ more) size whole = cc
first_of (a ∷ b ∷ rest) more size whole = absurd (omega arith)

-- bytes of which the last one is the first of a line end
ends_in_cr : (bytes more : List ℕ) (count : ℕ) → count + 1 ≡ length bytes → IsEndAt (bytes ++ more) count → ends_with nat_eq bytes (codes "\r") ≡ true
ends_in_cr bytes more count place stands =
    let last = drop count bytes in
    let size : length last ≡ 1 = omega (arith, place, length-drop count bytes) in
    let whole : take 2 (last ++ more) ≡ codes "\r\n" = sym (ap (take 2) (drop-append-le count bytes more (omega (arith, place)))) ∙ stands in
    let first : last ≡ codes "\r" = first_of last more size whole in
    (ends_is Decides-eqb bytes (codes "\r") (ends_with nat_eq bytes (codes "\r")) refl).1 (take count bytes) (sym (take-append-drop count bytes) ∙ ap (λ xs. take count bytes ++ xs) first)

abbrev least : Bool → ℕ → ℕ
least b size = if b then size + 1 else size + 2

least_at : (b : Bool) (size count : ℕ) → size < count + 2 → (count + 1 ≡ size → b ≡ true) → least b size ≤ count + 2
least_at true size count past ends = omega (arith, past)
least_at false size count past ends =
    ⊎_elim
    (λ short. absurd (false≢true (ends (omega (arith, short, past)))))
    (λ long. long)
    (cases_lt (count + 2) (size + 2))

-- a line that begins with bytes without an end has so many bytes at least
pub least_reached : (bytes more : List ℕ) (count : ℕ) → length bytes < count + 2 → IsEndAt (bytes ++ more) count → least_line bytes ≤ count + 2
least_reached bytes more count past stands =
    least_at (ends_with nat_eq bytes (codes "\r")) (length bytes) count past (λ place. ends_in_cr bytes more count place stands)
