-- The name of a volume's file is one that a disk takes.
use Rattle.std.proofs.Common.{◌≡◌, ℕ, ◌+◌, ◌%◌, ◌^◌, ◌<◌, ◌≤◌, true, ◌&&◌, List, [], ◌∷◌, ◌++◌, length, refl, ap, ◌∙◌, arith, decimal, Option, Some, None}
use Rattle.std.specs.Prelude.{nat_le, IsSome}
use Rattle.std.specs.List.{list_all}
use Rattle.std.specs.Option.{SomeIff}
use Rattle.std.proofs.lemmas.Bool.{le-leb}
use Rattle.std.proofs.lemmas.Bool.Decides.{nat_tests}
use Rattle.std.proofs.lemmas.Fmt.{decimal_by_steps, length-decimal-le}
use Rattle.std.proofs.lemmas.List.{length-append}
use Rattle.std.proofs.lemmas.List.Folds.{list_all-append}
use Rattle.weed_base.specs.FileName.{is_file_byte, is_file_name}
use Rattle.volume_items.specs.declared.file_names.Part.{Part}
use Rattle.volume_items.specs.declared.file_names.Part.TheVariants.{Items, Index, Sign, Copy}
use Rattle.volume_items.specs.FileNames.{ending, name_of}

digit_allowed : (n : ℕ) → n < 10 → is_file_byte (48 + n) ≡ true
digit_allowed n small = grind (arith, nat_tests)

pub digits_allowed : (n : ℕ) → n < 2 ^ 64 → list_all is_file_byte (decimal n) ≡ true
digits_allowed n small = decimal_by_steps (λ _ ds. list_all is_file_byte ds ≡ true) one more n small
  where
    one : (m : ℕ) → m < 10 → list_all is_file_byte ((48 + m) ∷ []) ≡ true
    one m low = ap (λ b. b && true) (digit_allowed m low)

    more : (m : ℕ) (ds : List ℕ) → 10 ≤ m → list_all is_file_byte ds ≡ true → list_all is_file_byte (ds ++ ((48 + m % 10) ∷ [])) ≡ true
    more m ds _ all = list_all-append is_file_byte ds ((48 + m % 10) ∷ []) ∙ ap (λ b. b && list_all is_file_byte ((48 + m % 10) ∷ [])) all ∙ one (m % 10) (omega arith)

ending_allowed : (part : Part) → list_all is_file_byte (ending part) ≡ true
ending_allowed Items = refl
ending_allowed Index = refl
ending_allowed Sign = refl
ending_allowed Copy = refl

ending_length : (part : Part) → length (ending part) ≡ 4
ending_length Items = refl
ending_length Index = refl
ending_length Sign = refl
ending_length Copy = refl

pub name_allowed : (id : ℕ) (part : Part) → id < 2 ^ 32 → is_file_name (name_of id part) ≡ true
name_allowed id part small =
    let len : length (name_of id part) ≡ length (decimal id) + 4 = length-append (decimal id) (ending part) ∙ ap (λ n. length (decimal id) + n) (ending_length part) in
    let short : length (decimal id) ≤ 10 = length-decimal-le 10 id (omega arith) (omega arith) (omega arith) in
    let all : list_all is_file_byte (name_of id part) ≡ true =
    list_all-append is_file_byte (decimal id) (ending part) ∙ ap (λ b. b && list_all is_file_byte (ending part)) (digits_allowed id (omega arith)) ∙ ending_allowed part in
    ap (λ b. b && nat_le (length (name_of id part)) 64 && list_all is_file_byte (name_of id part)) (le-leb 1 (length (name_of id part)) (omega arith))
    ∙ ap (λ b. b && list_all is_file_byte (name_of id part)) (le-leb (length (name_of id part)) 64 (omega arith)) ∙ all

pub some_where : {A : Type 0} (r : Option A) (P : Type 0) (value : A) → SomeIff r P value → P → IsSome r
some_where (Some x) P value iff holds = refl
some_where None P value iff holds = absurd (iff holds)
