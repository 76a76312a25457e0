-- Where a link leads: what it opened, and what its opens give to read.
use Rattle.std.specs.Prelude.{◌≡◌, ℕ, List, [], ◌∷◌, ◌++◌, Option, Result, MatchResult}
use Rattle.std.specs.Option.{option_map}
use Rattle.weed_base.specs.Told.{HasCause}

-- The addresses opened, in order, and what each open to come gives to read, where told; and how many opens failed.
pub record Line : Type 0 where
  pub opened : Option (List (List ℕ))
  pub coming : Option (List (List ℕ))
  pub faults : ℕ

-- What the first open to come gives to read: nothing, where the list is empty.
abbrev pub first_text : List (List ℕ) → List ℕ
first_text [] = []
first_text (text ∷ later) = text

-- What the opens after it give.
abbrev pub later_texts : List (List ℕ) → List (List ℕ)
later_texts [] = []
later_texts (text ∷ later) = later

-- An open leads to that address, and gives the first text to read. A failed one changes nothing but the count.
pub record Opens {E : Type 0} (old new : Line) (left_before left_after : Option (List ℕ)) (address : List ℕ) (result : Result Unit E) : Type 0 where
  pub opened : MatchResult result (λ _. new.opened ≡ option_map (λ opened. opened ++ address ∷ []) old.opened) (λ _. new.opened ≡ old.opened)
  pub coming : MatchResult result (λ _. new.coming ≡ option_map later_texts old.coming) (λ _. new.coming ≡ old.coming)
  pub left : MatchResult result (λ _. left_after ≡ option_map first_text old.coming) (λ _. left_after ≡ left_before)
  pub cause : HasCause old.faults new.faults result
