-- What is read of a segment.
use Rattle.std.proofs.Common.{◌≡◌, ℕ, zero, suc, ◌+◌, ◌-◌, ◌*◌, ◌≤◌, ◌<◌, min, List, [], ◌∷◌, ◌++◌, length, get_or, take, drop, refl, sym, ◌∙◌, ap, subst, arith, append_assoc, length-append, Option, Some, None}
use Rattle.std.specs.Prelude.{IfSome}
use Rattle.std.specs.Int.{w32, to_be_bytes}
use Rattle.std.proofs.lemmas.Nat.{be_bytes_4}
use Rattle.std.proofs.lemmas.List.{take_all, drop-drop, drop-take, take-take, take_min, take_at, take-append-le, length-take, length-drop}
use Rattle.std.proofs.Math.Seq.{take-append-add, take-add}
use Rattle.weed_base.specs.Files.{Files, content, ReadsAt}
use Rattle.meta_log.specs.Stretch.{Stretch, IsOf, IsFilled, GrowsBy}

-- four bytes are the text of their number
module _ (a b c d : ℕ) (rest : List ℕ) (small : (i : ℕ) → get_or (a ∷ b ∷ c ∷ d ∷ rest) i 0 < 256) where
  four_small : (i : ℕ) → get_or (a ∷ b ∷ c ∷ d ∷ []) i 0 < 256
  four_small zero = small 0
  four_small (suc zero) = small 1
  four_small (suc (suc zero)) = small 2
  four_small (suc (suc (suc zero))) = small 3
  four_small (suc (suc (suc (suc i)))) = omega arith

  four_bytes : (n : ℕ) → n ≡ a * 16777216 + b * 65536 + c * 256 + d → a ∷ b ∷ c ∷ d ∷ rest ≡ to_be_bytes w32 n ++ rest
  four_bytes n is = ap (λ (l : List ℕ). l ++ rest) (sym (be_bytes_4 (a ∷ b ∷ c ∷ d ∷ []) n refl four_small is))

pub length_read : (behind : List ℕ) (n : ℕ) → 4 ≤ length behind → ((i : ℕ) → get_or behind i 0 < 256)
    → n ≡ get_or behind 0 0 * 16777216 + get_or behind 1 0 * 65536 + get_or behind 2 0 * 256 + get_or behind 3 0 → (rest : List ℕ) × (behind ≡ to_be_bytes w32 n ++ rest)
length_read (a ∷ b ∷ c ∷ d ∷ rest) n long small is = (rest, four_bytes a b c d rest small n is)
length_read behind n long small is = absurd (omega (arith, long))

-- a list that grew by a read
grown_items : (old row post tail new : List ℕ) (count len : ℕ) → new ≡ take (length old + count) (take len (old ++ (row ++ post) ++ tail)) → count ≤ length row → length old + count ≤ len → new ≡ old ++ take count row
grown_items old row post tail new count len is few within =
    let regroup : old ++ (row ++ post) ++ tail ≡ old ++ (row ++ (post ++ tail)) = append_assoc old (row ++ post) tail ∙ ap (λ (l : List ℕ). old ++ l) (append_assoc row post tail) in
    is ∙ take-take (length old + count) len (old ++ (row ++ post) ++ tail) within
    ∙ ap (λ (l : List ℕ). take (length old + count) l) regroup
    ∙ take-append-add old (row ++ (post ++ tail)) count
    ∙ ap (λ (l : List ℕ). old ++ l) (take-append-le count row (post ++ tail) few)

read_more : (bytes row : List ℕ) (at room count : ℕ) → length row ≡ room → ReadsAt bytes at count row → take count row ≡ take room (drop at bytes)
read_more bytes row at room count fits reads =
    let counted : count ≡ min room (length (drop at bytes)) = omega (arith, fits, reads.0, length-drop at bytes) in
    reads.1 ∙ ap (λ (n : ℕ). take n (drop at bytes)) counted ∙ take_min room (drop at bytes)

told_more : (told : Option Files) (name row : List ℕ) (at room count : ℕ) → length row ≡ room → IfSome told (λ files. ReadsAt (content files name) at count row) → IfSome told (λ files. take count row ≡ take room (drop at (content files name)))
told_more None name row at room count fits reads = tt
told_more (Some files) name row at room count fits reads = read_more (content files name) row at room count fits reads

-- what a list begins with after room was put behind it
pub resized_front : (old more new : List ℕ) (end room : ℕ) → end ≡ length old → new ≡ take (end + room) old ++ more → take end new ≡ old
resized_front old more new end room is resized =
    let kept : take (end + room) old ≡ old = take_all (end + room) old (omega (arith, is)) in
    ap (λ (l : List ℕ). take end l) (resized ∙ ap (λ (l : List ℕ). l ++ more) kept) ∙ take_at old more end (sym is)

pub grown : (told : Option Files) (name : List ℕ) (at room count end : ℕ) (old front row post tail new : List ℕ) (len : ℕ) → end ≡ length old → front ≡ old
    → new ≡ take (end + count) (take len (front ++ (row ++ post) ++ tail)) → length row ≡ room → count ≤ length row → end + count ≤ len
    → IfSome told (λ files. ReadsAt (content files name) at count row) → GrowsBy told name at room old new
grown told name at room count end old front row post tail new len end_is front_is is fits few within reads =
    let plain = is ∙ ap (λ (n : ℕ). take (n + count) (take len (front ++ (row ++ post) ++ tail))) end_is
    ∙ ap (λ (l : List ℕ). take (length old + count) (take len (l ++ (row ++ post) ++ tail))) front_is in
    (take count row, grown_items old row post tail new count len plain few (omega (arith, within, end_is)), omega (arith, fits, few, length-take count row), told_more told name row at room count fits reads)

-- a stretch that grew by a read
module _ (bytes : List ℕ) (old : Stretch) (more : List ℕ) (wanted room left : ℕ) (is_of : IsOf bytes old)
    (left_is : left ≡ old.size - old.at) (read : more ≡ take room (drop (old.at + length old.held) bytes))
    (enough : min wanted left ≤ length old.held + room) (within : length old.held + room ≤ left) where
  abbrev later : Stretch
  later = record { at = old.at; held = old.held ++ more; size = old.size }

  length_more : length more ≡ room
  length_more =
      omega (arith, ap length read, length-take room (drop (old.at + length old.held) bytes), length-drop (old.at + length old.held) bytes, is_of.whole, left_is, within)

  still_of : IsOf bytes later
  still_of =
      let rest = drop old.at bytes in
      let behind : more ≡ take (length more) (drop (length old.held) rest) =
      read ∙ ap (λ (n : ℕ). take n (drop (old.at + length old.held) bytes)) (sym length_more)
      ∙ ap (λ (l : List ℕ). take (length more) l) (sym (drop-drop (length old.held) old.at bytes)) in
      record {
        whole = is_of.whole;
        within = is_of.within;
        read = ap (λ (l : List ℕ). l ++ more) is_of.read
            ∙ ap (λ (l : List ℕ). take (length old.held) rest ++ l) behind
            ∙ sym (take-add (length old.held) (length more) rest)
            ∙ ap (λ (n : ℕ). take n rest) (sym (length-append old.held more));
      }

  filled : IsFilled wanted bytes later
  filled = omega (arith, length-append old.held more, length_more, is_of.whole, left_is, enough)

pub told_filled : (told : Option Files) (name : List ℕ) (old : Stretch) (before new : List ℕ) (place wanted room left : ℕ) → before ≡ old.held → place ≡ old.at + length old.held → left ≡ old.size - old.at
    → min wanted left ≤ length old.held + room → length old.held + room ≤ left → IfSome told (λ files. IsOf (content files name) old) → GrowsBy told name place room before new
    → IfSome told (λ files. IsOf (content files name) (record { at = old.at; held = new; size = old.size }) × IsFilled wanted (content files name) (record { at = old.at; held = new; size = old.size }))
told_filled None name old before new place wanted room left before_is place_is left_is enough within is_of grows = tt
told_filled (Some files) name old before new place wanted room left before_is place_is left_is enough within is_of grows =
    let bytes = content files name in
    let read = grows.3 ∙ ap (λ (n : ℕ). take room (drop n bytes)) place_is in
    let is = ap (λ (l : List ℕ). l ++ grows.0) (sym before_is) ∙ sym grows.1 in
    let P : List ℕ → Type 0 = λ l. IsOf bytes (record { at = old.at; held = l; size = old.size }) × IsFilled wanted bytes (record { at = old.at; held = l; size = old.size }) in
    subst P is (still_of bytes old grows.0 wanted room left is_of left_is read enough within, filled bytes old grows.0 wanted room left is_of left_is read enough within)

-- a stretch without its first bytes
pub IsOf-skip : (bytes : List ℕ) (old : Stretch) (count : ℕ) → IsOf bytes old → count ≤ length old.held → IsOf bytes (record { at = old.at + count; held = drop count old.held; size = old.size })
IsOf-skip bytes old count is_of fits =
    let left = length old.held - count in
    let all : length old.held ≡ count + left = omega (arith, fits) in
    let long = length-take (length old.held) (drop old.at bytes) in
    record {
      whole = is_of.whole;
      within = omega (arith, is_of.within, fits, ap length is_of.read, long, length-drop old.at bytes);
      read = ap (λ (l : List ℕ). drop count l) (is_of.read ∙ ap (λ (n : ℕ). take n (drop old.at bytes)) all)
          ∙ drop-take count left (drop old.at bytes)
          ∙ ap (λ (l : List ℕ). take left l) (drop-drop count old.at bytes)
          ∙ ap (λ (n : ℕ). take n (drop (old.at + count) bytes)) (sym (length-drop count old.held));
    }
