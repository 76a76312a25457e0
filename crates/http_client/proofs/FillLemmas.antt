-- A room that is filled from the inbox, and then from the source.
use Rattle.std.proofs.Common.{◌≡◌, ℕ, ◌+◌, ◌<◌, min, List, [], ◌∷◌, ◌++◌, length, take, drop, Option, None, Some, refl, sym, ap, subst, ◌∙◌, arith, append_assoc, append-nil}
use Rattle.std.specs.Option.{option_map}
use Rattle.std.proofs.lemmas.List.{take-append-drop, length-drop, length-take, nil_from_length}
use Rattle.weed_base.specs.Told.{Consumes, IsAtEnd}
use Rattle.weed_base.proofs.ReadLemmas.{take-add}
use Rattle.http_wire.specs.Inbox.{left_of}

-- one of the two parts in the middle is empty
middle : (front next rest bytes : List ℕ) → (0 < length next → length rest ≡ 0) → (front ++ rest) ++ (next ++ bytes) ≡ (front ++ next) ++ (rest ++ bytes)
middle front [] rest bytes none = append_assoc front rest bytes ∙ ap (λ f. f ++ (rest ++ bytes)) (sym (append-nil front))
middle front (b ∷ next) [] bytes none = ap (λ f. f ++ ((b ∷ next) ++ bytes)) (append-nil front) ∙ sym (append_assoc front (b ∷ next) bytes)
middle front (b ∷ next) (d ∷ rest) bytes none = absurd (omega (arith, none (omega arith)))

pub consumes_both : (pending room : List ℕ) (first count : ℕ) (left later : Option (List ℕ)) → first ≡ min (length room) (length pending) → take first room ≡ take first pending
    → Consumes left later (take count (drop first room)) → Consumes (left_of pending left) (left_of (drop first pending) later) (take (first + count) room)
consumes_both pending room first count left later is same consumed =
    ap (left_of pending) consumed ∙ moved later
  where
    next : List ℕ
    next = take count (drop first room)

    moved : (later : Option (List ℕ)) → left_of pending (option_map (λ bytes. next ++ bytes) later) ≡ option_map (λ bytes. take (first + count) room ++ bytes) (left_of (drop first pending) later)
    moved None = refl
    moved (Some bytes) =
        let whole = ap (λ p. p ++ (next ++ bytes)) (sym (take-append-drop first pending)) in
        let both = middle (take first pending) next (drop first pending) bytes (λ some. omega (arith, some, is, length-take count (drop first room), length-drop first room, length-drop first pending)) in
        let front : take first pending ++ next ≡ take (first + count) room = sym (take-add first count room ∙ ap (λ f. f ++ next) same) in
        ap Some (whole ∙ both ∙ ap (λ f. f ++ (drop first pending ++ bytes)) front)

pub both_ended : (pending room : List ℕ) (first : ℕ) (later : Option (List ℕ)) → first ≡ min (length room) (length pending) → first < length room → IsAtEnd later → IsAtEnd (left_of (drop first pending) later)
both_ended pending room first later is less ended =
    let none : drop first pending ≡ [] = nil_from_length (drop first pending) (omega (arith, is, less, length-drop first pending)) in
    subst (λ p. IsAtEnd (left_of p later)) (sym none) (nothing later ended)
  where
    nothing : (rest : Option (List ℕ)) → IsAtEnd rest → IsAtEnd (left_of [] rest)
    nothing None ended = refl
    nothing (Some rest) ended = ended
