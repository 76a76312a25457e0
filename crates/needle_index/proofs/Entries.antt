-- What is written of an entry is read as that entry, and an entry at the end of a text changes the map.
use Rattle.std.proofs.Common.{◌≡◌, ℕ, zero, suc, ◌+◌, ◌*◌, ◌/◌, ◌%◌, ◌^◌, ◌<◌, List, [], ◌∷◌, ◌++◌, length, take, drop, refl, ap, ◌∙◌, arith, zero-add}
use Rattle.std.specs.List.{fold}
use Rattle.std.proofs.lemmas.List.Sums.{fold-append}
use Rattle.std.specs.Simd.{first_chunks}
use Rattle.std.proofs.lemmas.List.{drop-append-le, length-append, length-drop, take-append-le, take_all, nil_from_length}
use Rattle.needle_index.specs.Index.{Spots}
use Rattle.std.proofs.lemmas.Nat.{from_be_bytes-to_be_bytes_8, from_be_bytes-to_be_bytes_4}
use Rattle.needle_index.specs.Text.{entered, entered_all, entry_of, entry_text}
use Rattle.needle_index.specs.declared.entry.IndexEntry.{IndexEntry}

pub entry_again : (entry : IndexEntry) → entry.key < 2 ^ 64 → entry.offset < 2 ^ 32 → entry.size < 2 ^ 32 → entry_of (entry_text entry) ≡ entry
entry_again entry key offset size =
    let a = from_be_bytes-to_be_bytes_8 entry.key key in
    let b = from_be_bytes-to_be_bytes_4 entry.offset offset in
    let c = from_be_bytes-to_be_bytes_4 entry.size size in
    λ i. record { key = a i; offset = b i; size = c i }

abbrev step : Spots → List ℕ → Spots
step spots bytes = entered spots (entry_of bytes)

fold-push : (spots : Spots) (pieces : List (List ℕ)) (last : List ℕ) → fold step spots (pieces ++ last ∷ []) ≡ step (fold step spots pieces) last
fold-push spots [] last = refl
fold-push spots (piece ∷ pieces) last = fold-push (step spots piece) pieces last

-- One piece more at the end.
chunks-push : (n : ℕ) (text last : List ℕ) → length text ≡ 16 * n → length last ≡ 16
    → first_chunks 16 (suc n) (text ++ last) ≡ first_chunks 16 n text ++ last ∷ []
chunks-push zero text last whole full =
    let none : text ≡ [] = nil_from_length text (omega arith) in
    ap (λ t. take 16 (t ++ last) ∷ []) none ∙ ap (λ t. t ∷ []) (take_all 16 last (omega arith))
chunks-push (suc n) text last whole full =
    ap (λ piece. piece ∷ first_chunks 16 (suc n) (drop 16 (text ++ last))) (take-append-le 16 text last (omega arith))
    ∙ ap (λ rest. take 16 text ∷ first_chunks 16 (suc n) rest) (drop-append-le 16 text last (omega arith))
    ∙ ap (λ rest. take 16 text ∷ rest) (chunks-push n (drop 16 text) last (omega (arith, length-drop 16 text)) full)

pub entered_all-push : (spots : Spots) (text : List ℕ) (entry : IndexEntry) → length text % 16 ≡ 0 → entry.key < 2 ^ 64 → entry.offset < 2 ^ 32 → entry.size < 2 ^ 32
    → entered_all spots (text ++ entry_text entry) ≡ entered (entered_all spots text) entry
unfolding entered_all
entered_all-push spots text entry whole key offset size =
    let more : length (text ++ entry_text entry) / 16 ≡ suc (length text / 16) = omega (arith, length-append text (entry_text entry)) in
    ap (λ n. fold step spots (first_chunks 16 n (text ++ entry_text entry))) more
    ∙ ap (fold step spots) (chunks-push (length text / 16) text (entry_text entry) (omega arith) refl)
    ∙ fold-push spots (first_chunks 16 (length text / 16) text) (entry_text entry)
    ∙ ap (entered (entered_all spots text)) (entry_again entry key offset size)

-- Pieces of a text and of one behind it.
chunks-append : (n m : ℕ) (text more : List ℕ) → length text ≡ 16 * n → first_chunks 16 (n + m) (text ++ more) ≡ first_chunks 16 n text ++ first_chunks 16 m more
chunks-append zero m text more whole =
    let none : text ≡ [] = nil_from_length text (omega arith) in
    ap (λ k. first_chunks 16 k (text ++ more)) (zero-add m) ∙ ap (λ t. first_chunks 16 m (t ++ more)) none
chunks-append (suc n) m text more whole =
    let next : suc n + m ≡ suc (n + m) = omega arith in
    ap (λ k. first_chunks 16 k (text ++ more)) next
    ∙ ap (λ piece. piece ∷ first_chunks 16 (n + m) (drop 16 (text ++ more))) (take-append-le 16 text more (omega arith))
    ∙ ap (λ rest. take 16 text ∷ first_chunks 16 (n + m) rest) (drop-append-le 16 text more (omega arith))
    ∙ ap (λ rest. take 16 text ∷ rest) (chunks-append n m (drop 16 text) more (omega (arith, length-drop 16 text)))

pub entered_all-append : (spots : Spots) (text more : List ℕ) → length text % 16 ≡ 0 → entered_all spots (text ++ more) ≡ entered_all (entered_all spots text) more
unfolding entered_all
entered_all-append spots text more whole =
    let count : length (text ++ more) / 16 ≡ length text / 16 + length more / 16 = omega (arith, length-append text more) in
    ap (λ n. fold step spots (first_chunks 16 n (text ++ more))) count
    ∙ ap (fold step spots) (chunks-append (length text / 16) (length more / 16) text more (omega arith))
    ∙ fold-append step spots (first_chunks 16 (length text / 16) text) (first_chunks 16 (length more / 16) more)
