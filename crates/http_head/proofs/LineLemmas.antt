-- Header lines as `httparse` gives them, and as names and values.
use Rattle.std.proofs.Common.{◌≡◌, ℕ, suc, length, Bool, true, false, cond, List, [], ◌∷◌, Option, None, Some, refl, ap, ◌∙◌}
use Rattle.std.specs.Prelude.{map, filter, ◌||◌, option_map}
use Rattle.std.specs.List.{list_any, find}
use Rattle.httparse.specs.declared.borrowed.Header.{Header}
use Rattle.std.specs.Borrow.{Bor}
use Rattle.http_head.specs.Lines.{is_named, first_value}
use Rattle.httparse.specs.Borrowed.{header_parts}

pub any_line : (test : List ℕ × List ℕ → Bool) (lines : List Header) → list_any (λ line. test (header_parts line)) lines ≡ list_any test (map header_parts lines)
any_line test [] = refl
any_line test (line ∷ lines) = ap (λ rest. test (header_parts line) || rest) (any_line test lines)

pub count_lines : (test : List ℕ × List ℕ → Bool) (lines : List Header) → length (filter (λ line. test (header_parts line)) lines) ≡ length (filter test (map header_parts lines))
count_lines test [] = refl
count_lines test (line ∷ lines) =
    elim (test (header_parts line)) as (λ b. length (cond b (line ∷ filter (λ other. test (header_parts other)) lines) (filter (λ other. test (header_parts other)) lines)) ≡ length (cond b (header_parts line ∷ filter test (map header_parts lines)) (filter test (map header_parts lines)))) [
      | true ↦ ap suc (count_lines test lines)
      | false ↦ count_lines test lines
    ]

pub first_line : (test : List ℕ × List ℕ → Bool) (lines : List Header) → option_map header_parts (find (λ line. test (header_parts line)) lines) ≡ find test (map header_parts lines)
first_line test [] = refl
first_line test (line ∷ lines) =
    elim (test (header_parts line)) as (λ b. option_map header_parts (cond b (Some line) (find (λ other. test (header_parts other)) lines)) ≡ cond b (Some (header_parts line)) (find test (map header_parts lines))) [
      | true ↦ refl
      | false ↦ first_line test lines
    ]

pub first_value_is : (name : List ℕ) (lines : List Header) (found : Option (Bor Header))
    → option_map (λ line. line.now) found ≡ find (λ line. is_named name (header_parts line)) lines
    → option_map (λ line. line.now.value.now) found ≡ first_value name (map header_parts lines)
first_value_is name lines None is = ap (λ o. option_map (λ l. l.1) o) (ap (λ o. option_map header_parts o) is ∙ first_line (is_named name) lines)
first_value_is name lines (Some line) is = ap (λ o. option_map (λ l. l.1) o) (ap (λ o. option_map header_parts o) is ∙ first_line (is_named name) lines)
