-- A word in a text, byte by byte.
use Rattle.std.proofs.Common.{◌≡◌, ℕ, ◌+◌, ◌-◌, ◌<◌, Bool, true, false, cond, refl, List, ◌∷◌, length, take, drop, get_or, Some, ap, add-one, drop-cons, ◌∙◌, sym}
use Rattle.std.specs.Prelude.{bytes_eq, nat_eq}
use Rattle.std.specs.Cmp.Lexicographic.{pointwise}
use Rattle.std.proofs.lemmas.Bool.Decides.{same_from_decides, Decides-eqb}
use Rattle.std.proofs.lemmas.Slice.Eq.{bytes_eq-Decides, slice_eq-Decides}
use Rattle.std.proofs.lemmas.List.{take_rest}
use Rattle.filer_requests.specs.Form.{behind}

one_byte_on : (word text : List ℕ) (i : ℕ) → i < length text
    → behind word (drop i text) ≡ cond (bytes_eq (take (length word) (drop i text)) word) (Some (drop (length word) (drop i text))) (behind word (drop (i + 1) text))
one_byte_on word text i within =
    let cut : drop i text ≡ get_or text i 0 ∷ drop (i + 1) text = rw add-one (drop-cons text i 0 within) in
    ap (behind word) cut ∙ ap (λ rest. cond (bytes_eq (take (length word) rest) word) (Some (drop (length word) rest)) (behind word (drop (i + 1) text))) (sym cut)

pub found_here : (word text rest : List ℕ) (i : ℕ) → i < length text → bytes_eq (take (length word) (drop i text)) word ≡ true → rest ≡ drop (length word) (drop i text)
    → behind word (drop i text) ≡ behind word text → Some rest ≡ behind word text
found_here word text rest i within here is so_far =
    ap Some is ∙ sym (one_byte_on word text i within ∙ ap (λ b. cond b (Some (drop (length word) (drop i text))) (behind word (drop (i + 1) text))) here) ∙ so_far

pub not_here : (word text : List ℕ) (i : ℕ) → i < length text → bytes_eq (take (length word) (drop i text)) word ≡ false
    → behind word (drop i text) ≡ behind word text → behind word (drop (i + 1) text) ≡ behind word text
not_here word text i within here so_far =
    sym (one_byte_on word text i within ∙ ap (λ b. cond b (Some (drop (length word) (drop i text))) (behind word (drop (i + 1) text))) here) ∙ so_far

-- Two tests of the same bytes.
as_bytes : (xs ys : List ℕ) → bytes_eq xs ys ≡ pointwise nat_eq xs ys
as_bytes xs ys = same_from_decides _ _ (bytes_eq-Decides xs ys) (slice_eq-Decides Decides-eqb xs ys (pointwise nat_eq xs ys) refl)

-- The text from a place on, as a slice of it, begins so.
pub begins_so : (word text : List ℕ) (i : ℕ) (b : Bool) → pointwise nat_eq (take (length word) (take (length text - i) (drop i text))) word ≡ b → bytes_eq (take (length word) (drop i text)) word ≡ b
begins_so word text i b is = as_bytes (take (length word) (drop i text)) word ∙ ap (λ rest. pointwise nat_eq (take (length word) rest) word) (sym (take_rest text i)) ∙ is

pub rest_so : (word text rest : List ℕ) (i : ℕ) → rest ≡ drop (length word) (take (length text - i) (drop i text)) → rest ≡ drop (length word) (drop i text)
rest_so word text rest i is = is ∙ ap (drop (length word)) (take_rest text i)
