-- Which segments of a disk count.
use Rattle.std.specs.Prelude.{◌≡◌, ℕ, ◌≤◌, List, ◌++◌, codes, length, Bool, true, false, ◌∷◌, ◌==◌, ◌&&◌, not}
use Rattle.std.specs.Char.{is_ascii_digit}
use Rattle.std.specs.List.{list_all}
use Rattle.std.specs.Str.{bytes_eq}
use Rattle.weed_base.specs.Files.{Files}
use Rattle.meta_log.specs.LogText.{stem_text, eight_digits, on_name, Counts, NoneFrom, SomeFrom}
use Rattle.meta_log.specs.declared.stem.Stem.{Stem}
use Rattle.meta_log.specs.declared.standing.Standing.{Standing}
use Rattle.meta_log.specs.declared.standing.Standing.TheVariants.{Empty, First, Gap, Second}

-- The digits are those of a number past the first.
abbrev pub IsLaterNumber : List ℕ → Type 0
IsLaterNumber digits = (number : ℕ) × (2 ≤ number) × (number ≤ 99999999) × (digits ≡ eight_digits number)

-- The test for it: eight digits, and not those of 0 or 1.
abbrev pub is_later_number : List ℕ → Bool
is_later_number digits =
    (length digits == 8) && list_all is_ascii_digit digits && not (bytes_eq digits (eight_digits 0)) && not (bytes_eq digits (eight_digits 1))

-- The name of an `.on` file with these digits.
abbrev pub on_text : Stem → List ℕ → List ℕ
on_text stem digits = (stem_text stem ++ (46 ∷ digits)) ++ codes ".on"

-- By this name a segment past the first counts.
abbrev pub IsLaterOn : Stem → List ℕ → Type 0
IsLaterOn stem name = (number : ℕ) × (2 ≤ number) × (number ≤ 99999999) × (name ≡ on_name stem number)

-- What is found where the first segment counts or doesn't, and a later one does or doesn't.
abbrev pub standing_of : Bool → Bool → Standing
standing_of false false = Empty
standing_of true false = First
standing_of false true = Gap
standing_of true true = Second

-- What is found of the segments.
abbrev pub IsStanding : Stem → Files → Standing → Type 0
IsStanding stem files Empty = NoneFrom stem 1 files
IsStanding stem files First = Counts stem 1 files × NoneFrom stem 2 files
IsStanding stem files Gap = (¬ Counts stem 1 files) × SomeFrom stem 2 files
IsStanding stem files Second = Counts stem 1 files × SomeFrom stem 2 files
