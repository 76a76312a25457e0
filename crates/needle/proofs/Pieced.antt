-- A check of an item in pieces answers what reading gives.
use Rattle.std.proofs.Common.{◌≡◌, ◌≢◌, ℕ, ◌+◌, ◌-◌, ◌*◌, ◌/◌, ◌<◌, ◌≤◌, Bool, true, false, cond, eqb, ltb, List, [], ◌++◌, length, take, drop, Option, Some, None, Result, Ok, Err, refl, sym, ap, subst, ◌∙◌, arith, inl, inr, ◌⊎◌}
use Rattle.std.specs.Prelude.{option_map}
use Rattle.std.specs.Int.{w8, w32, from_be_bytes}
use Rattle.std.proofs.lemmas.Bool.{ne_eqb, lt-ltb, ltb-true, ltb-false, cases_lt, cases_eq}
use Rattle.std.proofs.Math.Seq.{take-append-add}
use Rattle.std.proofs.lemmas.List.{append-nil, take-append-drop, take-append-le, drop-append-le, length-append, length-take, length-drop, drop-drop}
use Rattle.needle.specs.declared.fault.NeedleFault.{NeedleFault}
use Rattle.needle.specs.declared.fault.NeedleFault.TheVariants.{SizeMismatch}
use Rattle.needle.specs.declared.head.Head.{Head}
use Rattle.needle.specs.declared.item.Item.{Item}
use Rattle.needle.specs.declared.item.Item.TheVariants.{Gone}
use Rattle.needle.specs.declared.item.ReadItem.{ReadItem}
use Rattle.needle.specs.declared.version.Version.{Version}
use Rattle.needle.specs.Crc.{checksum}
use Rattle.needle.specs.Fields.{four_at, eight_at, size_in, counted_in, checksum_in, IsWhole}
use Rattle.needle.specs.Layout.{padded, frame_len}
use Rattle.needle.specs.Pieces.{IsInPieces, IsWholeTail, Checks, check_sums, parts_verdict, tail_verdict, data_behind}
use Rattle.needle.specs.Reading.{◌>>=◌, Contents, bytes_at, body_at, parts_at, told_at, contents_at, check_sum, check_marks, behind, live_at, item_at, read_at}
use Rattle.needle.proofs.Codecs.{bytes_reads}
use Rattle.needle.proofs.ItemsRead.{item_at-live, item_at-gone}
use Rattle.needle.proofs.PartsRead.{under, with_body, with_body_first, parts-body}
use Rattle.needle.proofs.Places.{frame-least}
use Rattle.needle.proofs.Verdicts.{made, wrapped, read_at-whole}

-- ---- what a check gives of what is behind it

checked : (marks sums : Result (Unit {0}) NeedleFault) (item : Item) (made : Item → ReadItem)
    → Checks (behind marks (λ _. sums)) (behind (behind marks (λ _. behind sums (λ _. Ok item))) (λ i. Ok (made i)))
checked (Ok m) (Ok s) item made = refl
checked (Ok m) (Err f) item made = refl
checked (Err f) sums item made = refl

-- ---- the text is whole

long_enough : (version : Version) (size held tail more text : ℕ) → held ≤ size → padded version size ≤ 20 + held + tail → text - (20 + held) ≡ tail + more → padded version size ≤ text
long_enough version size held tail more text within long rest =
    let least = frame-least version in
    let over : size + 20 < padded version size = over_frame (size + frame_len version) (size + 20) (omega arith) in
    omega arith
  where
    over_frame : (n m : ℕ) → m ≤ n → m < n / 8 * 8 + 8
    over_frame n m h = omega arith

data-within : (head : Head) → data_behind head ≤ head.size
data-within head = within (ltb head.size (head.data_len + 5)) refl
  where
    within : (b : Bool) → ltb head.size (head.data_len + 5) ≡ b → cond b 0 head.data_len ≤ head.size
    within true e = omega arith
    within false e = let long : head.data_len + 5 ≤ head.size = ltb-false _ _ e in omega arith

data-fit : (head : Head) → 0 < data_behind head → (data_behind head ≡ head.data_len) × (head.data_len + 5 ≤ head.size)
data-fit head some = by_test (ltb head.size (head.data_len + 5)) refl some
  where
    by_test : (b : Bool) → ltb head.size (head.data_len + 5) ≡ b → 0 < cond b 0 head.data_len → (cond b 0 head.data_len ≡ head.data_len) × (head.data_len + 5 ≤ head.size)
    by_test true e n = absurd (omega arith)
    by_test false e n = (refl, ltb-false _ _ e)

tail_room : (version : Version) (head : Head) (tail : List ℕ) → (data_behind head ≡ head.data_len) × (head.data_len + 5 ≤ head.size) → IsWholeTail version head tail
    → head.size - 4 - head.data_len + 4 ≤ length tail
tail_room version head tail fit long =
    let least = frame-least version in
    room (head.size + frame_len version) head.size head.data_len (data_behind head) (length tail) (omega arith) long fit.0 fit.1
  where
    room : (n size len behind tail : ℕ) → size + 20 ≤ n → n / 8 * 8 + 8 ≤ 20 + behind + tail → behind ≡ len → len + 5 ≤ size → size - 4 - len + 4 ≤ tail
    room n size len behind tail a b c d = omega arith

whole_of : (version : Version) (head : Head) (sum : ℕ) (tail text : List ℕ) → IsWholeTail version head tail → IsInPieces head sum tail text → IsWhole version text
whole_of version head sum tail text long pieces =
    let rest : length text - (20 + data_behind head) ≡ length tail + length pieces.more =
    sym (length-drop (20 + data_behind head) text) ∙ ap length pieces.ends ∙ length-append tail pieces.more in
    subst (λ (n : ℕ). padded version n ≤ length text) pieces.begins.size
    (long_enough version head.size (data_behind head) (length tail) (length pieces.more) (length text) (data-within head) long rest)

-- ---- a deletion

pub gone_checked : (version : Version) (head : Head) (sum : ℕ) (tail text : List ℕ) (result : Result (Unit {0}) NeedleFault) → head.size ≡ 0
    → IsWholeTail version head tail → IsInPieces head sum tail text → result ≡ check_sums head.data_len sum → Checks result (read_at version text)
gone_checked version head sum tail text result none long pieces is =
    let size : size_in text ≡ 0 = sym pieces.begins.size ∙ none in
    let counted : counted_in text ≡ [] = ap (λ (n : ℕ). take n (drop 16 text)) size in
    let stored : checksum_in text ≡ head.data_len = ap (λ (n : ℕ). four_at (16 + n) text) size ∙ sym pieces.begins.data_len in
    let behind_none : data_behind head ≡ 0 = let w = data-within head in omega arith in
    let sum_is : sum ≡ checksum [] = pieces.sum_is ∙ ap (λ (n : ℕ). checksum (take n (drop 20 text))) behind_none in
    let read : read_at version text ≡ wrapped version text (behind (check_sum head.data_len []) (λ _. Ok (Gone (four_at 0 text) (eight_at 4 text)))) =
    read_at-whole version text (whole_of version head sum tail text long pieces)
    ∙ ap (wrapped version text) (ap (λ (b : List ℕ). item_at (four_at 0 text) (eight_at 4 text) b (checksum_in text)) counted
    ∙ item_at-gone (four_at 0 text) (eight_at 4 text) (checksum_in text)
    ∙ ap (λ (s : ℕ). behind (check_sum s []) (λ _. Ok (Gone (four_at 0 text) (eight_at 4 text)))) stored) in
    let same : result ≡ check_sum head.data_len [] = is ∙ ap (check_sums head.data_len) sum_is in
    subst (λ (r : Result (Unit {0}) NeedleFault). Checks r (read_at version text)) (sym same)
    (subst (Checks (check_sum head.data_len [])) (sym read) (checked (Ok tt) (check_sum head.data_len []) (Gone (four_at 0 text) (eight_at 4 text)) _))

-- ---- a size that doesn't fit

-- the contents of a length, data of that length and what is told of them
contents-in : (front held told : List ℕ) → length front ≡ 4 → from_be_bytes w32 front ≡ length held → 0 < length held → contents_at (front ++ (held ++ told)) ≡ told_at held told
unfolding contents_at body_at
contents-in front held told four len some =
    let filled : eqb (length held) 0 ≡ false = ne_eqb _ _ (λ (e : length held ≡ 0). omega (arith, some, e)) in
    rw ((bytes_reads 4).again front (held ++ told) four, len, filled, (bytes_reads (length held)).again held told refl) refl

take_past : (xs ys : List ℕ) (n k m : ℕ) → length xs ≡ n → m ≡ n + k → take m (xs ++ ys) ≡ xs ++ take k ys
take_past xs ys n k m len is = ap (λ (i : ℕ). take i (xs ++ ys)) (is ∙ ap (λ (i : ℕ). i + k) (sym len)) ∙ take-append-add xs ys k

short_front : (bytes : List ℕ) → length bytes < 4 → contents_at bytes ≡ None
unfolding contents_at body_at
short_front bytes short = rw (lt-ltb (length bytes) 4 short) refl

no_data : (front rest : List ℕ) → length front ≡ 4 → from_be_bytes w32 front ≡ 0 → contents_at (front ++ rest) ≡ None
unfolding contents_at body_at
no_data front rest four none = rw ((bytes_reads 4).again front rest four, none) refl

few : (front rest : List ℕ) (n : ℕ) → length front ≡ 4 → from_be_bytes w32 front ≡ n → eqb n 0 ≡ false → length rest < n → contents_at (front ++ rest) ≡ None
unfolding contents_at body_at
few front rest n four is some short = rw ((bytes_reads 4).again front rest four, is, some, lt-ltb (length rest) n short) refl

untold : (held : List ℕ) → told_at held [] ≡ None
unfolding told_at
untold held = refl

misfit : (front rest : List ℕ) (n : ℕ) → length front ≡ 4 → from_be_bytes w32 front ≡ n → (n ≡ 0) ⊎ (length rest < n + 1) → contents_at (front ++ rest) ≡ None
misfit front rest n four is (inl none) = no_data front rest four (is ∙ none)
misfit front rest n four is (inr short) =
    elim (cases_eq n 0) [
      | inl none ↦ no_data front rest four (is ∙ none)
      | inr some ↦ elim (cases_lt (length rest) n) [
        | inl less ↦ few front rest n four is (ne_eqb n 0 some) less
        | inr no_less ↦
            let all : n ≡ length rest = omega arith in
            ap (λ (t : List ℕ). contents_at (front ++ t)) (sym (append-nil rest))
            ∙ contents-in front rest [] four (is ∙ all) (omega arith) ∙ untold rest
      ]
    ]

data-misfit : (head : Head) → data_behind head ≡ 0 → (head.data_len ≡ 0) ⊎ (head.size < head.data_len + 5)
data-misfit head none = by_test (ltb head.size (head.data_len + 5)) refl none
  where
    by_test : (b : Bool) → ltb head.size (head.data_len + 5) ≡ b → cond b 0 head.data_len ≡ 0 → (head.data_len ≡ 0) ⊎ (head.size < head.data_len + 5)
    by_test true e n = inr (ltb-true _ _ e)
    by_test false e n = inl n

misfit_cut : (text : List ℕ) (data_len size : ℕ) → 16 + size ≤ length text → data_len ≡ four_at 16 text → (data_len ≡ 0) ⊎ (size < data_len + 5) → contents_at (take size (drop 16 text)) ≡ None
misfit_cut text data_len size long is why =
    elim (cases_lt size 4) [
      | inl short ↦ short_front (take size (drop 16 text)) (omega (arith, length-take size (drop 16 text)))
      | inr four ↦
          let front : List ℕ = take 4 (drop 16 text) in
          let four_long : length front ≡ 4 = omega (arith, length-take 4 (drop 16 text), length-drop 16 text) in
          let cut : take size (drop 16 text) ≡ front ++ take (size - 4) (drop 4 (drop 16 text)) =
          ap (take size) (sym (take-append-drop 4 (drop 16 text))) ∙ take_past front (drop 4 (drop 16 text)) 4 (size - 4) size four_long (omega arith) in
          ap contents_at cut ∙ misfit front (take (size - 4) (drop 4 (drop 16 text))) data_len four_long (sym is) (again four why)
    ]
  where
    again : 4 ≤ size → (data_len ≡ 0) ⊎ (size < data_len + 5) → (data_len ≡ 0) ⊎ (length (take (size - 4) (drop 4 (drop 16 text))) < data_len + 1)
    again four (inl none) = inl none
    again four (inr short) = inr (omega (arith, length-take (size - 4) (drop 4 (drop 16 text))))

size_within : (version : Version) (text : List ℕ) → IsWhole version text → 16 + size_in text ≤ length text
size_within version text whole =
    let least = frame-least version in within (size_in text + frame_len version) (length text) (size_in text) whole (omega arith)
  where
    within : (n len size : ℕ) → n / 8 * 8 + 8 ≤ len → size + 20 ≤ n → 16 + size ≤ len
    within n len size h room = omega arith

pub misfit_checked : (version : Version) (head : Head) (sum : ℕ) (tail text : List ℕ) → head.size ≢ 0 → data_behind head ≡ 0
    → IsWholeTail version head tail → IsInPieces head sum tail text → read_at version text ≡ Err SizeMismatch
misfit_checked version head sum tail text some none long pieces =
    let whole : IsWhole version text = whole_of version head sum tail text long pieces in
    let long_text : 16 + size_in text ≤ length text = size_within version text whole in
    let size : head.size ≡ size_in text = pieces.begins.size in
    let nothing : contents_at (counted_in text) ≡ None =
    misfit_cut text head.data_len (size_in text) long_text pieces.begins.data_len (subst (λ (n : ℕ). (head.data_len ≡ 0) ⊎ (n < head.data_len + 5)) size (data-misfit head none)) in
    let filled : 0 < length (counted_in text) = omega (arith, length-take (size_in text) (drop 16 text), length-drop 16 text) in
    read_at-whole version text whole
    ∙ ap (wrapped version text) (item_at-live (four_at 0 text) (eight_at 4 text) (counted_in text) (checksum_in text) filled
    ∙ ap (λ (r : Option Contents). live_at (four_at 0 text) (eight_at 4 text) r (checksum_in text)) nothing)

-- ---- a needle

abbrev ended : Contents × List ℕ → Option Contents
ended parts = cond (eqb (length parts.1) 0) (Some parts.0) None

told-body : (body bytes : List ℕ) → option_map (with_body body) (told_at [] bytes) ≡ told_at body bytes
unfolding told_at
told-body body bytes = under (with_body body) (bytes_at 1 bytes) (λ flag. parts_at [] (from_be_bytes w8 flag.0) flag.1 >>= ended) (λ flag. parts_at body (from_be_bytes w8 flag.0) flag.1 >>= ended) (λ flag. ending (parts_at [] (from_be_bytes w8 flag.0) flag.1) (parts_at body (from_be_bytes w8 flag.0) flag.1) (parts-body body (from_be_bytes w8 flag.0) flag.1))
  where
    end-body : (b : Bool) (parts : Contents) → option_map (with_body body) (cond b (Some parts) None) ≡ cond b (Some (with_body body parts)) None
    end-body true parts = refl
    end-body false parts = refl

    ending : (r s : Option (Contents × List ℕ)) → option_map (with_body_first body) r ≡ s → option_map (with_body body) (r >>= ended) ≡ (s >>= ended)
    ending None s is = subst (λ (t : Option (Contents × List ℕ)). None ≡ (t >>= ended)) is refl
    ending (Some parts) s is = subst (λ (t : Option (Contents × List ℕ)). option_map (with_body body) (ended parts) ≡ (t >>= ended)) is (end-body (eqb (length parts.1) 0) parts.0)

cut : (text tail more : List ℕ) (data_len count size : ℕ) → size ≡ 4 + data_len + count → count ≤ length tail → 20 + data_len ≤ length text
    → drop (20 + data_len) text ≡ tail ++ more
    → take size (drop 16 text) ≡ take 4 (drop 16 text) ++ (take data_len (drop 20 text) ++ take count tail)
cut text tail more data_len count size is within long ends =
    let held : List ℕ = take data_len (drop 20 text) in
    let data_long : length held ≡ data_len = omega (arith, length-take data_len (drop 20 text), length-drop 20 text) in
    let four : length (take 4 (drop 16 text)) ≡ 4 = omega (arith, length-take 4 (drop 16 text), length-drop 16 text) in
    let from_20 : drop 20 text ≡ held ++ (tail ++ more) = sym (take-append-drop data_len (drop 20 text)) ∙ ap (λ (t : List ℕ). held ++ t) (drop-drop data_len 20 text ∙ ends) in
    let from_16 : drop 16 text ≡ take 4 (drop 16 text) ++ (held ++ (tail ++ more)) =
    sym (take-append-drop 4 (drop 16 text)) ∙ ap (λ (t : List ℕ). take 4 (drop 16 text) ++ t) (drop-drop 4 16 text ∙ from_20) in
    ap (take size) from_16
    ∙ take_past (take 4 (drop 16 text)) (held ++ (tail ++ more)) 4 (data_len + count) size four (omega arith)
    ∙ ap (λ (t : List ℕ). take 4 (drop 16 text) ++ t) (take_past held (tail ++ more) data_len count (data_len + count) data_long refl
    ∙ ap (λ (t : List ℕ). held ++ t) (take-append-le count tail more within))

stored_at : (text tail more : List ℕ) (data_len count size : ℕ) → size ≡ 4 + data_len + count → count + 4 ≤ length tail → drop (20 + data_len) text ≡ tail ++ more
    → four_at (16 + size) text ≡ four_at count tail
stored_at text tail more data_len count size is within ends =
    let places : 16 + size ≡ (20 + data_len) + count = omega arith in
    let at : drop (16 + size) text ≡ drop count tail ++ more =
    ap (λ (n : ℕ). drop n text) places ∙ sym (drop-drop count (20 + data_len) text) ∙ ap (drop count) ends ∙ drop-append-le count tail more (omega arith) in
    ap (λ (t : List ℕ). from_be_bytes w32 (take 4 t)) at ∙ ap (from_be_bytes w32) (take-append-le 4 (drop count tail) more (omega (arith, length-drop count tail)))

verdict_checked : (told : Option Contents) (body : List ℕ) (cookie key stored : ℕ) (made : Item → ReadItem)
    → Checks (parts_verdict told stored (checksum body)) (behind (live_at cookie key (option_map (with_body body) told) stored) (λ i. Ok (made i)))
verdict_checked None body cookie key stored made = refl
verdict_checked (Some parts) body cookie key stored made = checked (check_marks parts.flags) (check_sum stored body) _ made

pub needle_checked : (version : Version) (head : Head) (sum : ℕ) (tail text : List ℕ) (result : Result (Unit {0}) NeedleFault) → 0 < data_behind head
    → IsWholeTail version head tail → IsInPieces head sum tail text → result ≡ tail_verdict (head.size - 4 - head.data_len) sum tail → Checks result (read_at version text)
needle_checked version head sum tail text result some long pieces is =
    let fit = data-fit head some in
    let n : ℕ = head.data_len in
    let count : ℕ = head.size - 4 - n in
    let size : size_in text ≡ 4 + n + count = sym pieces.begins.size ∙ omega arith in
    let whole : IsWhole version text = whole_of version head sum tail text long pieces in
    let ends : drop (20 + n) text ≡ tail ++ pieces.more = ap (λ (k : ℕ). drop (20 + k) text) (sym fit.0) ∙ pieces.ends in
    let room : count + 4 ≤ length tail = tail_room version head tail fit long in
    let long_text : 16 + size_in text ≤ length text = size_within version text whole in
    let held : List ℕ = take n (drop 20 text) in
    let data_long : length held ≡ n = omega (arith, length-take n (drop 20 text), length-drop 20 text) in
    let four : length (take 4 (drop 16 text)) ≡ 4 = omega (arith, length-take 4 (drop 16 text), length-drop 16 text) in
    let counted : counted_in text ≡ take 4 (drop 16 text) ++ (held ++ take count tail) =
    cut text tail pieces.more n count (size_in text) size (omega arith) (omega arith) ends in
    let stored : checksum_in text ≡ four_at count tail = stored_at text tail pieces.more n count (size_in text) size room ends in
    let contents : contents_at (counted_in text) ≡ option_map (with_body held) (told_at [] (take count tail)) =
    ap contents_at counted ∙ contents-in (take 4 (drop 16 text)) held (take count tail) four (sym pieces.begins.data_len ∙ sym data_long) (omega arith)
    ∙ sym (told-body held (take count tail)) in
    let filled : 0 < length (counted_in text) = omega (arith, length-take (size_in text) (drop 16 text), length-drop 16 text) in
    let sum_is : sum ≡ checksum held = pieces.sum_is ∙ ap (λ (k : ℕ). checksum (take k (drop 20 text))) fit.0 in
    let read : read_at version text ≡ wrapped version text (live_at (four_at 0 text) (eight_at 4 text) (option_map (with_body held) (told_at [] (take count tail))) (four_at count tail)) =
    read_at-whole version text whole
    ∙ ap (wrapped version text) (item_at-live (four_at 0 text) (eight_at 4 text) (counted_in text) (checksum_in text) filled
    ∙ live-same (four_at 0 text) (eight_at 4 text) _ _ _ _ contents stored) in
    let same : result ≡ parts_verdict (told_at [] (take count tail)) (four_at count tail) (checksum held) =
    is ∙ ap (parts_verdict (told_at [] (take count tail)) (four_at count tail)) sum_is in
    subst (λ (r : Result (Unit {0}) NeedleFault). Checks r (read_at version text)) (sym same)
    (subst (Checks (parts_verdict (told_at [] (take count tail)) (four_at count tail) (checksum held))) (sym read)
    (verdict_checked (told_at [] (take count tail)) held (four_at 0 text) (eight_at 4 text) (four_at count tail) (made version text)))
  where
    live-same : (cookie key : ℕ) (r s : Option Contents) (a b : ℕ) → r ≡ s → a ≡ b → live_at cookie key r a ≡ live_at cookie key s b
    live-same cookie key r s a b p q = cc
