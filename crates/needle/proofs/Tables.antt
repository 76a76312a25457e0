-- Each entry of the tables is what the definition gives.
use Rattle.std.proofs.Common.{◌≡◌, ℕ, zero, suc, ◌+◌, ◌*◌, ◌/◌, ◌%◌, ◌<◌, List, [], ◌∷◌, length, get_or, map, bit_xor, refl, sym, ap, subst, ◌∙◌, lit<, arith}
use Rattle.std.specs.List.{range_with_len}
use Rattle.std.proofs.Math.Nat.{zero-add}
use Rattle.std.proofs.lemmas.Nat.{xor_of_8}
use Rattle.std.proofs.lemmas.List.{get_or-map, length-map}
use Rattle.std.proofs.lemmas.List.FromFn.{length-range_with_len, get_or-range_with_len}
use Rattle.needle.proofs.Linear.{shifted_by-add, byte_step-is}
use Rattle.needle.specs.Crc.{shifted, shifted_by, byte_step, AreTables}
use Rattle.needle.specs.declared.crc_tables.TheConstants.{TABLES}

-- that many tables, each from the one before it
tables_from : ℕ → List ℕ → List (List ℕ)
tables_from zero previous = []
tables_from (suc n) previous = map (shifted_by 8) previous ∷ tables_from n (map (shifted_by 8) previous)

-- the whole constant, computed from the definition
computed : TABLES ≡ tables_from 16 (range_with_len 0 256)
unfolding tables_from shifted shifted_by
computed = refl

-- an entry of a table further on has eight bits more for each table before it
entry : (n k i : ℕ) (previous : List ℕ) → k < n → i < length previous → get_or (get_or (tables_from n previous) k []) i 0 ≡ shifted_by (8 * (k + 1)) (get_or previous i 0)
unfolding tables_from
entry zero k i previous within inside = absurd (omega arith)
entry (suc n) zero i previous within inside = get_or-map (shifted_by 8) previous i 0 0 inside
entry (suc n) (suc k) i previous within inside =
    let next : List ℕ = map (shifted_by 8) previous in
    let first : get_or next i 0 ≡ shifted_by 8 (get_or previous i 0) = get_or-map (shifted_by 8) previous i 0 0 inside in
    let places : 8 + 8 * (k + 1) ≡ 8 * (suc k + 1) = omega arith in
    entry n k i next (omega arith) (rw length-map inside) ∙ ap (shifted_by (8 * (k + 1))) first
    ∙ sym (shifted_by-add 8 (8 * (k + 1)) (get_or previous i 0)) ∙ ap (λ (m : ℕ). shifted_by m (get_or previous i 0)) places

pub tables_are : AreTables TABLES
tables_are k byte within small =
    ap (λ (tables : List (List ℕ)). get_or (get_or tables k []) byte 0) computed
    ∙ entry 16 k byte (range_with_len 0 256) within (rw length-range_with_len small)
    ∙ ap (shifted_by (8 * (k + 1))) (get_or-range_with_len 0 256 byte 0 small ∙ zero-add byte)

-- a step by one look-up
pub step_by_table : (tables : List (List ℕ)) (remainder byte index : ℕ) → AreTables tables → byte < 256 → index ≡ bit_xor (remainder % 256) byte
    → bit_xor (get_or (get_or tables 0 []) index 0) (remainder / 256) ≡ byte_step remainder byte
step_by_table tables remainder byte index are small is =
    let inside : index < 256 = subst (λ (i : ℕ). i < 256) (sym is) (xor_of_8 (remainder % 256) byte (omega arith) small) in
    ap (λ (x : ℕ). bit_xor x (remainder / 256)) (are 0 index (lit< tt) inside ∙ ap (shifted_by 8) is) ∙ sym (byte_step-is remainder byte)
