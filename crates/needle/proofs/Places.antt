-- The fields of an item at their places.
use Rattle.std.proofs.Common.{◌≡◌, ℕ, ◌+◌, ◌-◌, ◌*◌, ◌/◌, ◌%◌, ◌^◌, ◌<◌, ◌≤◌, List, ◌++◌, length, take, drop, refl, sym, ap, subst, ◌∙◌, append_assoc, arith}
use Rattle.std.specs.Int.{Width, w32, w64, from_be_bytes, to_be_bytes}
use Rattle.std.proofs.Math.Seq.{drop-append-add}
use Rattle.std.proofs.lemmas.List.{take_at, drop_at, take-append-drop, length-append, length-take, length-drop, drop-drop}
use Rattle.needle.specs.declared.version.Version.{Version}
use Rattle.needle.specs.declared.version.Version.TheVariants.{V2, V3}
use Rattle.needle.specs.Answer.{IsMoment}
use Rattle.needle.specs.Fields.{four_at, eight_at, size_in, counted_in, checksum_in, moment_in, IsWhole}
use Rattle.needle.specs.Item.{moment_text, padding_len}
use Rattle.needle.specs.Layout.{frame_len, padded}
use Rattle.needle.proofs.Codecs.{IsBytes, IsBytes-take, IsBytes-drop, IsWide, wide32, wide64}

-- ---- from the text to its fields

peeled : (n place : ℕ) (text : List ℕ) → drop place text ≡ take n (drop place text) ++ drop (place + n) text
peeled n place text = sym (take-append-drop n (drop place text)) ∙ ap (λ (x : List ℕ). take n (drop place text) ++ x) (drop-drop n place text)

peeled_number : (w : Width) (count limit : ℕ) → IsWide w count limit → (place : ℕ) (text : List ℕ) → IsBytes text → place + count ≤ length text
    → drop place text ≡ to_be_bytes w (from_be_bytes w (take count (drop place text))) ++ drop (place + count) text
peeled_number w count limit wide place text fits room =
    let front : List ℕ = take count (drop place text) in
    let len : length front ≡ count = omega (arith, length-take count (drop place text), length-drop place text) in
    peeled count place text ∙ ap (λ (f : List ℕ). f ++ drop (place + count) text) (sym (wide.back front len (IsBytes-take count (drop place text) (IsBytes-drop place text fits))))

-- the fields in their order
abbrev pub front : ℕ → ℕ → List ℕ → ℕ → Version → ℕ → List ℕ
front cookie key content sum version moment =
    to_be_bytes w32 cookie ++ (to_be_bytes w64 key ++ (to_be_bytes w32 (length content) ++ (content ++ (to_be_bytes w32 sum ++ moment_text version moment))))

-- ---- six fields of fixed lengths but one, as plain lists

abbrev six : List ℕ → List ℕ → List ℕ → List ℕ → List ℕ → List ℕ → List ℕ
six a b c d e m = a ++ (b ++ (c ++ (d ++ (e ++ m))))

six-length : (a b c d e m : List ℕ) → length a ≡ 4 → length b ≡ 8 → length c ≡ 4 → length e ≡ 4 → length (six a b c d e m) ≡ 20 + length d + length m
six-length a b c d e m la lb lc le =
    omega (arith, length-append a (b ++ (c ++ (d ++ (e ++ m)))), length-append b (c ++ (d ++ (e ++ m))), length-append c (d ++ (e ++ m)), length-append d (e ++ m), length-append e m)

past : (xs ys : List ℕ) (n k : ℕ) → length xs ≡ n → drop (n + k) (xs ++ ys) ≡ drop k ys
past xs ys n k len = subst (λ (m : ℕ). drop (m + k) (xs ++ ys) ≡ drop k ys) len (drop-append-add xs ys k)

record SixAt (a b c d e m tail text : List ℕ) : Type 0 where
  a_at : take 4 (drop 0 text) ≡ a
  b_at : take 8 (drop 4 text) ≡ b
  c_at : take 4 (drop 12 text) ≡ c
  d_at : drop 16 text ≡ d ++ (e ++ (m ++ tail))
  e_at : take 4 (drop (16 + length d) text) ≡ e
  m_at : drop (20 + length d) text ≡ m ++ tail

six_at : (a b c d e m tail : List ℕ) → length a ≡ 4 → length b ≡ 8 → length c ≡ 4 → length e ≡ 4 → SixAt a b c d e m tail (six a b c d e m ++ tail)
six_at a b c d e m tail la lb lc le =
    let text : List ℕ = a ++ (b ++ (c ++ (d ++ (e ++ (m ++ tail))))) in
    let regrouped : six a b c d e m ++ tail ≡ text = simp append_assoc in
    let from_4 : drop 4 text ≡ b ++ (c ++ (d ++ (e ++ (m ++ tail)))) = drop_at a _ 4 la in
    let from_12 : drop 12 text ≡ c ++ (d ++ (e ++ (m ++ tail))) = past a _ 4 8 la ∙ drop_at b _ 8 lb in
    let from_16 : drop 16 text ≡ d ++ (e ++ (m ++ tail)) = past a _ 4 12 la ∙ past b _ 8 4 lb ∙ drop_at c _ 4 lc in
    let from_e : drop (16 + length d) text ≡ e ++ (m ++ tail) =
    sym (drop-drop (length d) 16 text) ∙ ap (drop (length d)) from_16 ∙ drop_at d (e ++ (m ++ tail)) (length d) refl in
    let places : 16 + length d + 4 ≡ 20 + length d = omega arith in
    let from_m : drop (20 + length d) text ≡ m ++ tail =
    ap (λ (n : ℕ). drop n text) (sym places) ∙ sym (drop-drop 4 (16 + length d) text) ∙ ap (drop 4) from_e ∙ drop_at e (m ++ tail) 4 le in
    subst (SixAt a b c d e m tail) (sym regrouped) (record {
      a_at = take_at a _ 4 la;
      b_at = ap (take 8) from_4 ∙ take_at b _ 8 lb;
      c_at = ap (take 4) from_12 ∙ take_at c _ 4 lc;
      d_at = from_16;
      e_at = ap (take 4) from_e ∙ take_at e _ 4 le;
      m_at = from_m;
    })

-- one after the other
six_joined : (text a b c d e m t4 t12 t16 te tm tail : List ℕ) → text ≡ a ++ t4 → t4 ≡ b ++ t12 → t12 ≡ c ++ t16 → t16 ≡ d ++ te → te ≡ e ++ tm → tm ≡ m ++ tail
    → text ≡ six a b c d e m ++ tail
six_joined text a b c d e m t4 t12 t16 te tm tail pa pb pc pd pe pm =
    let regrouped : six a b c d e m ++ tail ≡ a ++ (b ++ (c ++ (d ++ (e ++ (m ++ tail))))) = simp append_assoc in
    pa ∙ ap (λ (z : List ℕ). a ++ z) (pb ∙ ap (λ (z : List ℕ). b ++ z) (pc ∙ ap (λ (z : List ℕ). c ++ z) (pd ∙ ap (λ (z : List ℕ). d ++ z) (pe ∙ ap (λ (z : List ℕ). e ++ z) pm)))) ∙ sym regrouped

-- ---- the length of an item

moment-length : (version : Version) (moment : ℕ) → 20 + length (moment_text version moment) ≡ frame_len version
moment-length V2 moment = refl
moment-length V3 moment = refl

pub front-length : (cookie key : ℕ) (content : List ℕ) (sum : ℕ) (version : Version) (moment : ℕ) → length (front cookie key content sum version moment) ≡ length content + frame_len version
front-length cookie key content sum version moment =
    let parts : length (front cookie key content sum version moment) ≡ 20 + length content + length (moment_text version moment) =
    six-length (to_be_bytes w32 cookie) (to_be_bytes w64 key) (to_be_bytes w32 (length content)) content (to_be_bytes w32 sum) (moment_text version moment) refl refl refl refl in
    let moved : 20 + length content + length (moment_text version moment) ≡ length content + (20 + length (moment_text version moment)) = omega arith in
    parts ∙ moved ∙ ap (λ (n : ℕ). length content + n) (moment-length version moment)

-- a length, padded
rounded : (n len : ℕ) → len ≡ n → n / 8 * 8 + 8 ≡ len + (8 - len % 8)
rounded n len is = omega arith

pub padded-is : (cookie key : ℕ) (content : List ℕ) (sum : ℕ) (version : Version) (moment : ℕ)
    → padded version (length content) ≡ length (front cookie key content sum version moment) + padding_len (front cookie key content sum version moment)
padded-is cookie key content sum version moment =
    rounded (length content + frame_len version) (length (front cookie key content sum version moment)) (front-length cookie key content sum version moment)

-- ---- from the text to its fields

-- the bytes behind the checksum
moment_peeled : (version : Version) (size : ℕ) (text : List ℕ) → size ≡ size_in text → IsBytes text → frame_len version + size ≤ length text
    → drop (20 + size) text ≡ moment_text version (moment_in version text) ++ drop (frame_len version + size) text
moment_peeled V2 size text is fits room = refl
moment_peeled V3 size text is fits room =
    let places : 20 + size + 8 ≡ 28 + size = omega arith in
    peeled_number w64 8 (2 ^ 64) wide64 (20 + size) text fits (omega arith)
    ∙ ap (λ (n : ℕ). to_be_bytes w64 (eight_at (20 + n) text) ++ drop (20 + size + 8) text) is
    ∙ ap (λ (n : ℕ). to_be_bytes w64 (eight_at (20 + size_in text) text) ++ drop n text) places

pub frame-least : (version : Version) → 20 ≤ frame_len version
frame-least V2 = omega arith
frame-least V3 = omega arith

abbrev pub IsPeeled : Version → ℕ → List ℕ → Type 0
IsPeeled version size text =
    (length (take size (drop 16 text)) ≡ size)
    × (text ≡ front (four_at 0 text) (eight_at 4 text) (take size (drop 16 text)) (four_at (16 + size) text) version (moment_in version text) ++ drop (frame_len version + size) text)

peeled_at : (version : Version) (size : ℕ) (text : List ℕ) → size ≡ size_in text → IsBytes text → frame_len version + size ≤ length text → IsPeeled version size text
peeled_at version size text is fits room =
    let least = frame-least version in
    let content : List ℕ = take size (drop 16 text) in
    let len : length content ≡ size = omega (arith, length-take size (drop 16 text), length-drop 16 text) in
    let places : 16 + size + 4 ≡ 20 + size = omega arith in
    let pa : text ≡ to_be_bytes w32 (four_at 0 text) ++ drop 4 text = peeled_number w32 4 (2 ^ 32) wide32 0 text fits (omega arith) in
    let pb : drop 4 text ≡ to_be_bytes w64 (eight_at 4 text) ++ drop 12 text = peeled_number w64 8 (2 ^ 64) wide64 4 text fits (omega arith) in
    let pc : drop 12 text ≡ to_be_bytes w32 (length content) ++ drop 16 text =
    peeled_number w32 4 (2 ^ 32) wide32 12 text fits (omega arith) ∙ ap (λ (n : ℕ). to_be_bytes w32 n ++ drop 16 text) (sym is ∙ sym len) in
    let pe : drop (16 + size) text ≡ to_be_bytes w32 (four_at (16 + size) text) ++ drop (20 + size) text =
    peeled_number w32 4 (2 ^ 32) wide32 (16 + size) text fits (omega arith) ∙ ap (λ (n : ℕ). to_be_bytes w32 (four_at (16 + size) text) ++ drop n text) places in (
      len,
      six_joined text (to_be_bytes w32 (four_at 0 text)) (to_be_bytes w64 (eight_at 4 text)) (to_be_bytes w32 (length content)) content
          (to_be_bytes w32 (four_at (16 + size) text)) (moment_text version (moment_in version text))
          (drop 4 text) (drop 12 text) (drop 16 text) (drop (16 + size) text) (drop (20 + size) text) (drop (frame_len version + size) text) pa pb pc (peeled size 16 text) pe (moment_peeled version size text is fits room),
    )

-- what is long enough with its padding is so without
roomy : (n len : ℕ) → n / 8 * 8 + 8 ≤ len → n ≤ len
roomy n len h = omega arith

roomy_frame : (version : Version) (size len : ℕ) → padded version size ≤ len → frame_len version + size ≤ len
roomy_frame version size len h = let r = roomy (size + frame_len version) len h in omega arith

-- A whole text is its fields in their order.
pub text_peeled : (version : Version) (text : List ℕ) → IsBytes text → IsWhole version text → IsPeeled version (size_in text) text
text_peeled version text fits whole = peeled_at version (size_in text) text refl fits (roomy_frame version (size_in text) (length text) whole)

-- ---- from the fields to their places

-- What fits its place.
pub record Placed (cookie key : ℕ) (content : List ℕ) (version : Version) (moment : ℕ) : Type 0 where
  pub cookie_fits : cookie < 2 ^ 32
  pub key_fits : key < 2 ^ 64
  pub content_fits : length content < 2 ^ 32
  pub moment_fits : IsMoment version moment

pub record IsPlaced (cookie key : ℕ) (content : List ℕ) (sum : ℕ) (version : Version) (moment : ℕ) (text : List ℕ) : Type 0 where
  pub cookie_is : four_at 0 text ≡ cookie
  pub key_is : eight_at 4 text ≡ key
  pub size_is : size_in text ≡ length content
  pub content_is : counted_in text ≡ content
  pub sum_is : sum < 2 ^ 32 → checksum_in text ≡ sum
  pub moment_is : moment_in version text ≡ moment

moment_placed : (version : Version) (moment : ℕ) (tail text : List ℕ) (size : ℕ) → IsMoment version moment → size_in text ≡ size
    → drop (20 + size) text ≡ moment_text version moment ++ tail → moment_in version text ≡ moment
moment_placed V2 moment tail text size fits is at = sym fits
moment_placed V3 moment tail text size fits is at =
    ap (λ (n : ℕ). eight_at (20 + n) text) is ∙ ap (λ (t : List ℕ). from_be_bytes w64 (take 8 t)) at ∙ wide64.again moment fits

pub placed : (cookie key : ℕ) (content : List ℕ) (sum : ℕ) (version : Version) (moment : ℕ) (tail : List ℕ) → Placed cookie key content version moment
    → IsPlaced cookie key content sum version moment (front cookie key content sum version moment ++ tail)
placed cookie key content sum version moment tail fits =
    let text : List ℕ = front cookie key content sum version moment ++ tail in
    let at = six_at (to_be_bytes w32 cookie) (to_be_bytes w64 key) (to_be_bytes w32 (length content)) content (to_be_bytes w32 sum) (moment_text version moment) tail refl refl refl refl in
    let size : size_in text ≡ length content = ap (from_be_bytes w32) at.c_at ∙ wide32.again (length content) fits.content_fits in
    record {
      cookie_is = ap (from_be_bytes w32) at.a_at ∙ wide32.again cookie fits.cookie_fits;
      key_is = ap (from_be_bytes w64) at.b_at ∙ wide64.again key fits.key_fits;
      size_is = size;
      content_is = ap (λ (n : ℕ). take n (drop 16 text)) size ∙ ap (take (length content)) at.d_at ∙ take_at content _ (length content) refl;
      sum_is = λ small. ap (λ (n : ℕ). four_at (16 + n) text) size ∙ ap (from_be_bytes w32) at.e_at ∙ wide32.again sum small;
      moment_is = moment_placed version moment tail text (length content) fits.moment_fits size at.m_at;
    }
