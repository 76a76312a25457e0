-- The line end behind a chunk.
use Rattle.std.proofs.Common.{◌≡◌, ℕ, Bool, true, false, List, [], ◌∷◌, ◌++◌, length, take, drop, codes, Ok, Err, Some, None, refl, sym, ap, subst, ◌∙◌, arith, append-nil, length-append, inl, inr, ◌⊎◌, ⊎_elim}
use Rattle.std.specs.Prelude.{nat_eq}
use Rattle.std.specs.List.{starts_with}
use Rattle.std.proofs.lemmas.Bool.{false≢true}
use Rattle.std.proofs.lemmas.Bool.Decides.{Decides-eqb}
use Rattle.std.proofs.lemmas.Slice.Eq.{starts_is}
use Rattle.std.proofs.lemmas.List.{take_at}
use Rattle.http_bodies.specs.declared.stage.Stage.TheVariants.{Chunk, Line}
use Rattle.http_bodies.specs.declared.fault.BodyFault.TheVariants.{BadChunk}
use Rattle.http_bodies.specs.Mark.{BeginsWithMark, IsNever}
use Rattle.http_bodies.specs.Body.{Leads, chunk_end, bad}
use Rattle.http_bodies.specs.Found.{FindsMark}
use Rattle.http_bodies.proofs.LineLemmas.{never_on}

pub end_taken : (bytes : List ℕ) (allowed : ℕ) (r : Bool) → r ≡ starts_with nat_eq bytes (codes "\r\n") → r ≡ true
    → FindsMark (Chunk 0 allowed) bytes (Ok (Some (record { len = 2; next = Line allowed })))
end_taken bytes allowed r is yes_it_is =
    let whole = (starts_is Decides-eqb bytes (codes "\r\n") r is).0 yes_it_is in (
      omega (arith, ap length whole),
      tt,
      subst (λ text. Leads (Chunk 0 allowed) text (Line allowed)) (sym (ap (take 2) whole ∙ take_at (codes "\r\n") (drop 2 bytes) 2 refl)) (chunk_end allowed),
      omega arith,
    )

not_yet : (bytes : List ℕ) (allowed : ℕ) (r : Bool) → r ≡ starts_with nat_eq bytes (codes "\r\n") → r ≡ false → ¬ BeginsWithMark (Chunk 0 allowed) bytes
not_yet bytes allowed r is no_it_isnt (text, rest, same, whole) =
    false≢true (sym no_it_isnt ∙ (starts_is Decides-eqb bytes (codes "\r\n") r is).1 rest (whole ∙ ap (λ xs. xs ++ rest) same))

pub end_open : (bytes : List ℕ) (allowed : ℕ) (r : Bool) → r ≡ starts_with nat_eq bytes (codes "\r\n") → r ≡ false
    → (q : Bool) → q ≡ starts_with nat_eq (codes "\r\n") bytes → q ≡ true → FindsMark (Chunk 0 allowed) bytes (Ok None)
end_open bytes allowed r is missing q front yes_it_is =
    let whole = (starts_is Decides-eqb (codes "\r\n") bytes q front).0 yes_it_is in (
      (
        not_yet bytes allowed r is missing,
        (drop (length bytes) (codes "\r\n"), (codes "\r\n", [], refl, sym whole ∙ sym (append-nil (codes "\r\n")))),
      ),
      omega (arith, ap length whole, length-append bytes (drop (length bytes) (codes "\r\n"))),
    )

-- bytes that are no front of CR LF, and don't begin with it
apart : (bytes more rest : List ℕ) → bytes ++ more ≡ codes "\r\n" ++ rest → (((tail : List ℕ) × (bytes ≡ codes "\r\n" ++ tail)) ⊎ ((tail : List ℕ) × (codes "\r\n" ≡ bytes ++ tail)))
apart [] more rest whole = inr (codes "\r\n", refl)
apart (a ∷ []) more rest whole = inr (10 ∷ [], cc)
apart (a ∷ b ∷ bytes) more rest whole = inl (bytes, cc)

pub end_never : (bytes : List ℕ) (allowed : ℕ) (r : Bool) → r ≡ starts_with nat_eq bytes (codes "\r\n") → r ≡ false
    → (q : Bool) → q ≡ starts_with nat_eq (codes "\r\n") bytes → q ≡ false → FindsMark (Chunk 0 allowed) bytes (Err BadChunk)
end_never bytes allowed r is missing q front other =
    let never : IsNever (Chunk 0 allowed) bytes = λ more begun.
    ⊎_elim
    (λ (long : (tail : List ℕ) × (bytes ≡ codes "\r\n" ++ tail)). not_yet bytes allowed r is missing (codes "\r\n", long.0, refl, long.1))
    (λ (short : (tail : List ℕ) × (codes "\r\n" ≡ bytes ++ tail)). false≢true (sym other ∙ (starts_is Decides-eqb (codes "\r\n") bytes q front).1 short.0 short.1))
    (apart bytes more begun.1 (begun.3 ∙ ap (λ xs. xs ++ begun.1) begun.2)) in (
      λ same. cc,
      λ more. bad (Chunk 0 allowed) (bytes ++ more) (never_on (Chunk 0 allowed) bytes more never),
    )
