-- What a read of a text leaves.
use Rattle.std.proofs.Common.{◌≡◌, ℕ, ◌+◌, ◌-◌, List, length, take, drop, min, Some, Ok, ap, ◌∙◌, arith}
use Rattle.std.proofs.lemmas.List.{length-drop}
use Rattle.weed_base.specs.Told.{Reads}
use Rattle.weed_base.proofs.ReadLemmas.{reads_front}

-- a read of first bytes of what is behind a place
pub reads_text : (E : Type 0) (text room : List ℕ) (at count : ℕ) → count ≡ min (length room) (length (take (length text - at) (drop at text)))
    → take count room ≡ take count (take (length text - at) (drop at text)) → Reads {E = E} (Some (drop at text)) (Some (drop (at + count) text)) (Ok count) room
reads_text E text room at count counted same =
    let all : take (length text - at) (drop at text) ≡ take (min (length (drop at text)) (length text + 1)) (drop at text) =
    ap (λ n. take n (drop at text)) (omega (arith, length-drop at text))
    in reads_front E text room at (length text + 1) count (omega arith) (counted ∙ ap (λ bytes. min (length room) (length bytes)) all) (same ∙ ap (take count) all)
