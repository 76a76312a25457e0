-- An outlet that is handed the end of texts.
use Rattle.std.proofs.Common.{◌≡◌, ℕ, ◌+◌, ◌-◌, ◌≤◌, List, ◌++◌, length, take, drop, sym, ap, ◌∙◌, subst, arith, append_assoc, take-append-drop, length-append}
use Rattle.std.proofs.Math.Seq.{take-length}
use Rattle.std.proofs.lemmas.List.{length-drop}

-- A slice from an index on is the rest.
rest_is : (texts : List (List ℕ)) (skipped : ℕ) → take (length texts - skipped) (drop skipped texts) ≡ drop skipped texts
rest_is texts skipped = subst (λ (n : ℕ). take n (drop skipped texts) ≡ drop skipped texts) (length-drop skipped texts) (take-length (drop skipped texts))

-- An outlet that stands for all that ends with the rest, stands for all that ends with the texts.
pub stands_longer : (Stands : List (List ℕ) → Type 0) (texts : List (List ℕ)) (skipped count : ℕ) → skipped ≤ length texts → length texts ≤ count
    → ((ahead : List (List ℕ)) → length ahead ≡ count - length (take (length texts - skipped) (drop skipped texts)) → Stands (ahead ++ take (length texts - skipped) (drop skipped texts)))
    → (ahead : List (List ℕ)) → length ahead + length texts ≡ count → Stands (ahead ++ texts)
stands_longer Stands texts skipped count within few stands ahead whole =
    let handed = take (length texts - skipped) (drop skipped texts) in
    let cut : take skipped texts ++ handed ≡ texts = ap (λ (l : List (List ℕ)). take skipped texts ++ l) (rest_is texts skipped) ∙ take-append-drop skipped texts in
    let long : length (take skipped texts) + length handed ≡ length texts = sym (length-append (take skipped texts) handed) ∙ ap length cut in
    subst Stands (append_assoc ahead (take skipped texts) handed ∙ ap (λ (l : List (List ℕ)). ahead ++ l) cut)
    (stands (ahead ++ take skipped texts) (omega (arith, length-append ahead (take skipped texts), whole, long)))
