-- Lines that were added one after another.
use Rattle.std.proofs.Common.{◌≡◌, List, [], ◌∷◌, ◌++◌, ap, ◌∙◌, append_assoc}

pub two_added : {A : Type 0} (old one two : List A) (x y : A) → one ≡ old ++ x ∷ [] → two ≡ one ++ y ∷ [] → two ≡ old ++ x ∷ y ∷ []
two_added old one two x y first second =
    second ∙ ap (λ lines. lines ++ y ∷ []) first ∙ append_assoc old (x ∷ []) (y ∷ [])

pub three_added : {A : Type 0} (old one two three more : List A) (x y : A) → one ≡ old ++ x ∷ [] → two ≡ one ++ more → three ≡ two ++ y ∷ []
    → three ≡ old ++ x ∷ (more ++ y ∷ [])
three_added old one two three more x y first second third =
    third ∙ ap (λ lines. lines ++ y ∷ []) (second ∙ ap (λ lines. lines ++ more) first)
    ∙ append_assoc (old ++ x ∷ []) more (y ∷ []) ∙ append_assoc old (x ∷ []) (more ++ y ∷ [])
