-- A part that was found, and what is made of it.
use Rattle.std.proofs.Common.{◌≡◌, List, ℕ, Option, Some, None, sym, ap, ◌∙◌, Bor, option_map}
use Rattle.std.specs.Option.{option_and_then}

pub on_found : {T : Type 0} (next : List ℕ → Option T) (result : Option (Bor (List ℕ))) (value : Bor (List ℕ)) (found : Option (List ℕ)) → option_map (λ v. v.now) result ≡ found → result ≡ Some value
    → next value.now ≡ option_and_then next found
on_found next result value found is held = ap (option_and_then next) (sym (ap (option_map (λ v. v.now)) held) ∙ is)
