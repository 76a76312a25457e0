-- Escapes, byte by byte.
use Rattle.std.proofs.Common.{◌≡◌, ℕ, ◌+◌, ◌<◌, true, false, List, ◌∷◌, length, drop, get_or, ap, add-one, drop-cons, ◌∙◌, sym}
use Rattle.std.specs.Prelude.{◌&&◌}
use Rattle.http_head.specs.Target.{stands_well, is_well_escaped}

pub one_byte_more : (text : List ℕ) (i : ℕ) → i < length text → is_well_escaped (drop i text) ≡ (stands_well text i && is_well_escaped (drop (i + 1) text))
one_byte_more text i within =
    let cut : drop i text ≡ get_or text i 0 ∷ drop (i + 1) text = rw add-one (drop-cons text i 0 within) in
    ap is_well_escaped cut

pub well_so_far : (text : List ℕ) (i : ℕ) → i < length text → stands_well text i ≡ true → is_well_escaped (drop i text) ≡ is_well_escaped text
    → is_well_escaped (drop (i + 1) text) ≡ is_well_escaped text
well_so_far text i within here so_far =
    sym (one_byte_more text i within ∙ ap (λ b. b && is_well_escaped (drop (i + 1) text)) here) ∙ so_far

pub fails_here : (text : List ℕ) (i : ℕ) → i < length text → stands_well text i ≡ false → is_well_escaped (drop i text) ≡ is_well_escaped text
    → false ≡ is_well_escaped text
fails_here text i within here so_far =
    sym (one_byte_more text i within ∙ ap (λ b. b && is_well_escaped (drop (i + 1) text)) here) ∙ so_far
