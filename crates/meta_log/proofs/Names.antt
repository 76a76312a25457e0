-- The names of a disk's files, and which segments count.
use Rattle.std.proofs.Common.{◌≡◌, ◌≢◌, inl, inr, ℕ, Bool, true, false, List, ◌∷◌, ◌++◌, refl, sym, ◌∙◌, ap, subst, arith, append_assoc, Option, Some, None, Bor}
use Rattle.std.specs.Prelude.{MatchOption, MatchBool, IfSome, IsTrue, codes}
use Rattle.std.proofs.lemmas.List.{append_cancel_left, append_cancel_right}
use Rattle.std.proofs.lemmas.Bool.{cases_eq}
use Rattle.std.specs.List.{Contains, Any}
use Rattle.std.specs.Cmp.{eq_by_cmp_equiv}
use Rattle.std.specs.Cmp.Lexicographic.{nat_list_cmp_total}
use Rattle.std.specs.FinMap.{keys, contains_key-keys, slice_cmp-IsAntisymmetric, nat_cmp-IsAntisymmetric}
use Rattle.std.proofs.lemmas.Map.Views.{tells_apart, list_any-from_Contains, Contains-from_any}
use Rattle.weed_base.specs.Files.{Files, IsThere}
use Rattle.meta_log.specs.LogText.{stem_text, eight_digits, on_name, Counts, SomeFrom, NoneFrom}
use Rattle.meta_log.specs.Standing.{on_text, is_later_number, IsLaterOn, standing_of, IsStanding}
use Rattle.meta_log.specs.declared.stem.Stem.{Stem}
use Rattle.meta_log.proofs.Digits.{later_number, later_number_found}

pub on_text_parts : (stem : Stem) (digits : List ℕ) → on_text stem digits ≡ (stem_text stem ++ codes ".") ++ (digits ++ codes ".on")
on_text_parts stem digits =
    append_assoc (stem_text stem) (46 ∷ digits) (codes ".on") ∙ sym (append_assoc (stem_text stem) (codes ".") (digits ++ codes ".on"))

pub on_text_unique : (stem : Stem) (a b : List ℕ) → on_text stem a ≡ on_text stem b → a ≡ b
on_text_unique stem a b same =
    append_cancel_right a b (codes ".on")
    (append_cancel_left (stem_text stem ++ codes ".") (a ++ codes ".on") (b ++ codes ".on") (sym (on_text_parts stem a) ∙ same ∙ on_text_parts stem b))

-- what is left between both ends
pub stripped : (stem : Stem) (name rest : List ℕ) (r : Option (Bor (List ℕ))) → name ≡ (stem_text stem ++ codes ".") ++ rest
    → MatchOption r ((front : List ℕ) → rest ≢ front ++ codes ".on") (λ x. rest ≡ x.now ++ codes ".on")
    → MatchOption r ((digits : List ℕ) → name ≢ on_text stem digits) (λ digits. name ≡ on_text stem digits.now)
stripped stem name rest None is none = λ digits same.
    none digits (append_cancel_left (stem_text stem ++ codes ".") rest (digits ++ codes ".on") (sym is ∙ same ∙ on_text_parts stem digits))
stripped stem name rest (Some x) is some = is ∙ ap (λ (l : List ℕ). (stem_text stem ++ codes ".") ++ l) some ∙ sym (on_text_parts stem x.now)

pub later_on : (stem : Stem) (name digits : List ℕ) (r : Bool) → name ≡ on_text stem digits → r ≡ is_later_number digits
    → (IsTrue r → IsLaterOn stem name) × (IsLaterOn stem name → IsTrue r)
later_on stem name digits r is tests = (
  λ yes. let later = later_number digits (sym tests ∙ yes) in (later.0, later.1, later.2, is ∙ ap (on_text stem) later.3),
  λ later. tests ∙ later_number_found digits (later.0, later.1, later.2, on_text_unique stem digits (eight_digits later.0) (sym is ∙ later.3)),
)

-- a key is the name of a file that is there
pub there_of_key : (files : Files) (name : List ℕ) → Contains (keys files) name → IsThere name files
there_of_key files name among =
    contains_key-keys files name ∙ list_any-from_Contains (eq_by_cmp_equiv nat_list_cmp_total) name (keys files) among

pub key_of_there : (files : Files) (name : List ℕ) → IsThere name files → Contains (keys files) name
key_of_there files name there =
    Contains-from_any (tells_apart (slice_cmp-IsAntisymmetric nat_cmp-IsAntisymmetric)) name (keys files) (sym (contains_key-keys files name) ∙ there)

some_from_key : (stem : Stem) (files : Files) → Any (IsLaterOn stem) (keys files) → SomeFrom stem 2 files
some_from_key stem files any =
    let later = any.4 in
    (later.0, later.1, later.2, subst (λ (name : List ℕ). IsThere name files) later.3 (there_of_key files any.1 (any.0, any.2, any.3)))

none_from_keys : (stem : Stem) (files : Files) → ¬ Any (IsLaterOn stem) (keys files) → NoneFrom stem 2 files
none_from_keys stem files none = λ number low high counts.
    let among = key_of_there files (on_name stem number) counts in
    none (among.0, on_name stem number, among.1, among.2, (number, low, high, refl))

-- what the names tell
pub later_found : (stem : Stem) (files : Files) (names : List (List ℕ)) (r : Bool) → names ≡ keys files → (IsTrue r → Any (IsLaterOn stem) names) × (Any (IsLaterOn stem) names → IsTrue r)
    → MatchBool r (SomeFrom stem 2 files) (NoneFrom stem 2 files)
later_found stem files names true are tells = some_from_key stem files (subst (λ (l : List (List ℕ)). Any (IsLaterOn stem) l) are (tells.0 refl))
later_found stem files names false are tells =
    none_from_keys stem files (λ any. let yes = tells.1 (subst (λ (l : List (List ℕ)). Any (IsLaterOn stem) l) (sym are) any) in absurd (cc))

pub told_later : (told : Option Files) (stem : Stem) (names : List (List ℕ)) (r : Bool) → IfSome told (λ files. names ≡ keys files) → (IsTrue r → Any (IsLaterOn stem) names) × (Any (IsLaterOn stem) names → IsTrue r)
    → IfSome told (λ files. MatchBool r (SomeFrom stem 2 files) (NoneFrom stem 2 files))
told_later None stem names r are tells = tt
told_later (Some files) stem names r are tells = later_found stem files names r are tells

empty_standing : (stem : Stem) (files : Files) → ¬ Counts stem 1 files → NoneFrom stem 2 files → NoneFrom stem 1 files
empty_standing stem files first later = λ number low high counts.
    elim (cases_eq number 1) [
      | inl is ↦ first (subst (λ (n : ℕ). Counts stem n files) is counts)
      | inr differs ↦ later number (omega (arith, low, differs)) high counts
    ]

stands : (stem : Stem) (files : Files) (first later : Bool) → (IsTrue first → Counts stem 1 files) × (Counts stem 1 files → IsTrue first) → MatchBool later (SomeFrom stem 2 files) (NoneFrom stem 2 files)
    → IsStanding stem files (standing_of first later)
stands stem files true true one two = (one.0 refl, two)
stands stem files true false one two = (one.0 refl, two)
stands stem files false true one two = (λ counts. let yes = one.1 counts in absurd (cc), two)
stands stem files false false one two = empty_standing stem files (λ counts. let yes = one.1 counts in absurd (cc)) two

pub told_standing : (told : Option Files) (stem : Stem) (first later : Bool) → IfSome told (λ files. (IsTrue first → Counts stem 1 files) × (Counts stem 1 files → IsTrue first))
    → IfSome told (λ files. MatchBool later (SomeFrom stem 2 files) (NoneFrom stem 2 files)) → IfSome told (λ files. IsStanding stem files (standing_of first later))
told_standing None stem first later one two = tt
told_standing (Some files) stem first later one two = stands stem files first later one two
