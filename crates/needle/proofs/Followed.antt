-- What follows an item is not read.
use Rattle.std.proofs.Common.{◌≡◌, ℕ, ◌+◌, ◌*◌, ◌/◌, ◌≤◌, List, ◌++◌, length, take, drop, Result, Ok, Err, refl, sym, ap, subst, ◌∙◌, arith, inl, inr}
use Rattle.std.specs.Int.{w32, w64, from_be_bytes}
use Rattle.std.proofs.lemmas.Bool.{cases_lt}
use Rattle.std.proofs.lemmas.List.{take-append-le, take-append-drop, drop-append-le, length-append, length-drop, length-take}
use Rattle.needle.specs.declared.fault.NeedleFault.{NeedleFault}
use Rattle.needle.specs.declared.fault.NeedleFault.TheVariants.{Truncated}
use Rattle.needle.specs.declared.item.Item.{Item}
use Rattle.needle.specs.declared.item.ReadItem.{ReadItem}
use Rattle.needle.specs.declared.version.Version.{Version}
use Rattle.needle.specs.declared.version.Version.TheVariants.{V2, V3}
use Rattle.needle.specs.Fields.{four_at, eight_at, size_in, counted_in, checksum_in, moment_in, IsWhole}
use Rattle.needle.specs.Layout.{padded, frame_len}
use Rattle.needle.specs.Reading.{behind, item_at, read_at}
use Rattle.needle.proofs.Places.{frame-least}
use Rattle.needle.proofs.Verdicts.{inner, read_at-whole, read_at-truncated}

part-append : (place count : ℕ) (text more : List ℕ) → place + count ≤ length text → take count (drop place (text ++ more)) ≡ take count (drop place text)
part-append place count text more within =
    ap (take count) (drop-append-le place text more (omega arith)) ∙ take-append-le count (drop place text) more (omega (arith, length-drop place text))

four-append : (place : ℕ) (text more : List ℕ) → place + 4 ≤ length text → four_at place (text ++ more) ≡ four_at place text
four-append place text more within = ap (from_be_bytes w32) (part-append place 4 text more within)

-- an item has its fields ahead of its padding
fields_within : (version : Version) (text : List ℕ) → IsWhole version text → frame_len version + size_in text ≤ length text
fields_within version text whole = within (size_in text + frame_len version) (length text) whole (omega arith)
  where
    within : (n len : ℕ) → n / 8 * 8 + 8 ≤ len → frame_len version + size_in text ≤ n → frame_len version + size_in text ≤ len
    within n len h is = omega arith

moment-append : (version : Version) (text more : List ℕ) → frame_len version + size_in text ≤ length text → size_in (text ++ more) ≡ size_in text
    → moment_in version (text ++ more) ≡ moment_in version text
moment-append V2 text more within size = refl
moment-append V3 text more within size =
    ap (λ (n : ℕ). eight_at (20 + n) (text ++ more)) size ∙ ap (from_be_bytes w64) (part-append (20 + size_in text) 8 text more (omega arith))

inner-same : (cookie cookie' key key' : ℕ) (bytes bytes' : List ℕ) (sum sum' : ℕ) → cookie ≡ cookie' → key ≡ key' → bytes ≡ bytes' → sum ≡ sum'
    → item_at cookie key bytes sum ≡ item_at cookie' key' bytes' sum'
inner-same cookie cookie' key key' bytes bytes' sum sum' a b c d = cc

abbrev finished : Version → ℕ → ℕ → Result Item NeedleFault → Result ReadItem NeedleFault
finished version size moment read = behind read (λ item. Ok (record { item = item; taken = padded version size; moment = moment }))

finished-same : (version : Version) (size size' moment moment' : ℕ) (read read' : Result Item NeedleFault) → size ≡ size' → moment ≡ moment' → read ≡ read'
    → finished version size moment read ≡ finished version size' moment' read'
finished-same version size size' moment moment' read read' a b c = λ i. finished version (a i) (b i) (c i)

whole-append : (version : Version) (text more : List ℕ) → IsWhole version text → read_at version (text ++ more) ≡ read_at version text
whole-append version text more whole =
    let least = frame-least version in
    let within = fields_within version text whole in
    let size : size_in (text ++ more) ≡ size_in text = four-append 12 text more (omega arith) in
    let whole_more : IsWhole version (text ++ more) =
    subst (λ (n : ℕ). padded version n ≤ length (text ++ more)) (sym size) (omega (arith, length-append text more, whole)) in
    let counted : counted_in (text ++ more) ≡ counted_in text =
    ap (λ (n : ℕ). take n (drop 16 (text ++ more))) size ∙ part-append 16 (size_in text) text more (omega arith) in
    let sum : checksum_in (text ++ more) ≡ checksum_in text =
    ap (λ (n : ℕ). four_at (16 + n) (text ++ more)) size ∙ four-append (16 + size_in text) text more (omega arith) in
    let same : inner version (text ++ more) ≡ inner version text =
    inner-same _ _ _ _ _ _ _ _ (four-append 0 text more (omega arith)) (ap (from_be_bytes w64) (part-append 4 8 text more (omega arith))) counted sum in
    read_at-whole version (text ++ more) whole_more
    ∙ finished-same version _ _ _ _ _ _ size (moment-append version text more within size) same
    ∙ sym (read_at-whole version text whole)

pub read_followed : (version : Version) (text more : List ℕ) (read : ReadItem) → read_at version text ≡ Ok read → read_at version (text ++ more) ≡ Ok read
read_followed version text more read is =
    elim (cases_lt (length text) (padded version (size_in text))) [
      | inl short ↦ absurd (never (sym (read_at-truncated version text short) ∙ is))
      | inr whole ↦ whole-append version text more whole ∙ is
    ]
  where
    never : Err Truncated ≡ Ok read → ⊥
    never e = cc

never_read : {read : ReadItem} → Err Truncated ≡ Ok read → ⊥
never_read e = cc

taken_of : (version : Version) (text : List ℕ) (read : ReadItem) (r : Result Item NeedleFault) → finished version (size_in text) (moment_in version text) r ≡ Ok read
    → read.taken ≡ padded version (size_in text)
taken_of version text read (Ok item) is = cc
taken_of version text read (Err fault) is = cc

-- What was read is whole.
pub read_whole : (version : Version) (text : List ℕ) (read : ReadItem) → read_at version text ≡ Ok read → (read.taken ≡ padded version (size_in text)) × IsWhole version text
read_whole version text read is =
    elim (cases_lt (length text) (padded version (size_in text))) [
      | inl short ↦ absurd (never_read (sym (read_at-truncated version text short) ∙ is))
      | inr whole ↦ (taken_of version text read (inner version text) (sym (read_at-whole version text whole) ∙ is), whole)
    ]

-- What is read stands in the bytes that it takes.
pub read_within : (version : Version) (text : List ℕ) (n : ℕ) (read : ReadItem) → read_at version text ≡ Ok read → read.taken ≤ n → read_at version (take n text) ≡ Ok read
read_within version text n read is within =
    let least = frame-least version in
    let whole = read_whole version text read is in
    let joined : take n text ++ drop n text ≡ text = take-append-drop n text in
    let fields = fields_within version text whole.1 in
    let len = length-take n text in
    let size : size_in (take n text) ≡ size_in text =
    sym (four-append 12 (take n text) (drop n text) (omega (arith, len, whole.0, whole.1, fields))) ∙ ap size_in joined in
    let all : IsWhole version (take n text) = subst (λ (m : ℕ). padded version m ≤ length (take n text)) (sym size) (omega (arith, len, whole.0, whole.1)) in
    sym (whole-append version (take n text) (drop n text) all) ∙ ap (read_at version) joined ∙ is
