-- What a read leaves of a list.
use Rattle.std.proofs.Common.{◌≡◌, ℕ, zero, suc, zero-add, ◌+◌, ◌-◌, ◌≤◌, ◌<◌, List, [], ◌∷◌, ◌++◌, length, take, drop, min, Option, Some, None, Ok, sym, refl, ap, ◌∙◌, arith}
use Rattle.std.proofs.lemmas.List.{take-take, take_all, take-append-drop, drop-drop, nil_from_length, length-take, length-drop}
use Rattle.std.specs.Prelude.{IfSome}
use Rattle.weed_base.specs.Told.{Reads}
use Rattle.weed_base.specs.Files.{ReadsSome}

-- a read of so many bytes, out of the first ones of what is left
pub reads_front : (E : Type 0) (bytes room : List ℕ) (at most count : ℕ) → 0 < most → count ≡ min (length room) (length (take (min (length (drop at bytes)) most) (drop at bytes))) → take count room ≡ take count (take (min (length (drop at bytes)) most) (drop at bytes)) → Reads {E = E} (Some (drop at bytes)) (Some (drop (at + count) bytes)) (Ok count) room
reads_front E bytes room at most count some counted same =
    let left : List ℕ = drop at bytes in
    let few = length-take (min (length left) most) left in
    let front : take count room ≡ take count left = same ∙ take-take count (min (length left) most) left (omega arith) in
    let whole : take count room ++ drop (at + count) bytes ≡ left =
    ap (λ xs. xs ++ drop (at + count) bytes) front ∙ ap (λ xs. take count left ++ xs) (sym (drop-drop count at bytes)) ∙ take-append-drop count left
    in (
      omega arith,
      ap Some (sym whole),
      λ none room_is. ap Some (nil_from_length (drop (at + count) bytes) (omega (arith, length-drop (at + count) bytes, length-drop at bytes))),
    )

-- a front, and then a front of the rest
pub take-add : (m n : ℕ) (xs : List ℕ) → take (m + n) xs ≡ take m xs ++ take n (drop m xs)
take-add zero n xs = rw zero-add refl
take-add (suc m) n [] = take_all (suc m + n) [] (omega arith) ∙ sym (take_all n [] (omega arith))
take-add (suc m) n (x ∷ xs) =
    let e : suc m + n ≡ suc (m + n) = omega arith in
    rw e (ap (λ rest. x ∷ rest) (take-add m n xs))

-- what was read so far, with the bytes of a further read behind it
pub reads_on : (bytes old new : List ℕ) (at done count : ℕ) → done ≤ length bytes - at → take done old ≡ take done (drop at bytes) → take done new ≡ take done old
    → count ≤ length bytes - (at + done) → take count (drop done new) ≡ take count (drop (at + done) bytes)
    → (done + count ≤ length bytes - at) × (take (done + count) new ≡ take (done + count) (drop at bytes))
reads_on bytes old new at done count had before kept more after = (
  omega arith,
  take-add done count new
      ∙ ap (λ xs. xs ++ take count (drop done new)) (kept ∙ before)
      ∙ ap (λ xs. take done (drop at bytes) ++ xs) (after ∙ ap (take count) (sym (drop-drop done at bytes)))
      ∙ sym (take-add done count (drop at bytes)),
)

-- the same of bytes that may be told
pub reads_on_told : (told : Option (List ℕ)) (old new : List ℕ) (at from done count : ℕ) → from ≡ at + done
    → IfSome told (λ bytes. (done ≤ length bytes - at) × (take done old ≡ take done (drop at bytes))) → take done new ≡ take done old
    → IfSome told (λ bytes. ReadsSome bytes from count (drop done new))
    → IfSome told (λ bytes. (done + count ≤ length bytes - at) × (take (done + count) new ≡ take (done + count) (drop at bytes)))
reads_on_told None old new at from done count is before kept read = tt
reads_on_told (Some bytes) old new at from done count is before kept read =
    reads_on bytes old new at done count before.0 before.1 kept (omega (arith, is, read.0)) (read.1 ∙ ap (λ place. take count (drop place bytes)) is)
