-- The bytes that were read ahead of their use, and all that are left.
use Rattle.std.specs.Prelude.{◌≡◌, ℕ, List, ◌++◌, length, Option}
use Rattle.std.specs.Option.{option_map}
use Rattle.weed_base.specs.Told.{Consumes, IsAtEnd}

-- All bytes left: those read ahead, and those of the source, where they are told.
abbrev pub left_of : List ℕ → Option (List ℕ) → Option (List ℕ)
left_of pending left = option_map (λ bytes. pending ++ bytes) left

-- Bytes of the source were added, none only at its end.
abbrev pub Adds : List ℕ → List ℕ → Option (List ℕ) → Option (List ℕ) → ℕ → Type 0
Adds pending new left new_left count =
    (bytes : List ℕ) × (length bytes ≡ count) × (new ≡ pending ++ bytes) × Consumes left new_left bytes × (count ≡ 0 → IsAtEnd new_left)
