-- What is written is read back.
use Rattle.std.proofs.Common.{◌≡◌, ℕ, ◌≤◌, ◌<◌, ◌^◌, Bool, true, cond, ◌&&◌, ◌||◌, eqb, List, [], ◌∷◌, ◌++◌, length, Option, None, Some, refl, sym, ap, ◌∙◌, subst, inl, inr, arith, length-append, append-nil}
use Rattle.std.specs.Prelude.{IfSome, unwrap_or}
use Rattle.std.proofs.lemmas.Bool.{lt-ltb, le-leb}
use Rattle.std.proofs.lemmas.Bool.Decides.{eqb_tells}
use Rattle.proto_wire.specs.Text.{IsFieldNumber, tag_text, varint_text, varint_field, bytes_field, message_field}
use Rattle.proto_wire.specs.Field.{Varint, Bytes, FieldText}
use Rattle.proto_wire.proofs.Spells.{Spells, Spells-append, Spells-number, Spells-bytes, number_fields, text_fields}
use Rattle.entry.specs.declared.entry.Attributes.{Attributes}
use Rattle.entry.specs.AttributesText.{AttributesText, attributes_in, attributes_text, are_good, attributes_of, FitTypes}
use Rattle.entry.specs.Steps.{attributes_with_number, attributes_with_text}
use Rattle.entry.proofs.MessageLemmas.{field_with, attributes_number, attributes_text as attributes_text_taken}

-- ---- A message of the fields that were written, one more at a time

-- The fields make this of the message.
pub record Makes {S : Type 0} (made_of : List FieldText → S) (fields : List FieldText) (made : S) : Type 0 where
  pub is : made_of fields ≡ made

pub number_more : {S : Type 0} (made_of : List FieldText → S) (step : ℕ → S → S) (before : List FieldText) (made : S) (n v : ℕ)
    → Makes made_of before made → step 0 made ≡ made → step v (made_of before) ≡ made_of (before ++ field_with n (Varint v) ∷ [])
    → Makes made_of (before ++ number_fields n v) (step v made)
number_more made_of step before made n v makes still taken =
    elim (eqb_tells v 0) [
      | inl none ↦ record {
        is = ap (λ b. made_of (before ++ cond b [] (field_with n (Varint v) ∷ []))) none.0 ∙ ap made_of (append-nil before) ∙ makes.is ∙ sym still ∙ ap (λ w. step w made) (sym none.1);
      }
      | inr some ↦ record {
        is = ap (λ b. made_of (before ++ cond b [] (field_with n (Varint v) ∷ []))) some.0 ∙ sym taken ∙ ap (step v) makes.is;
      }
    ]

no_bytes : (b : List ℕ) → length b ≡ 0 → [] ≡ b
no_bytes [] e = refl
no_bytes (x ∷ b) e = absurd (omega arith)

pub text_more : {S : Type 0} (made_of : List FieldText → S) (step : List ℕ → S → S) (before : List FieldText) (made : S) (n : ℕ) (b : List ℕ)
    → Makes made_of before made → step [] made ≡ made → step b (made_of before) ≡ made_of (before ++ field_with n (Bytes b) ∷ [])
    → Makes made_of (before ++ text_fields n b) (step b made)
text_more made_of step before made n b makes still taken =
    elim (eqb_tells (length b) 0) [
      | inl none ↦ record {
        is = ap (λ t. made_of (before ++ cond t [] (field_with n (Bytes b) ∷ []))) none.0 ∙ ap made_of (append-nil before) ∙ makes.is ∙ sym still ∙ ap (λ w. step w made) (no_bytes b none.1);
      }
      | inr some ↦ record {
        is = ap (λ t. made_of (before ++ cond t [] (field_with n (Bytes b) ∷ []))) some.0 ∙ sym taken ∙ ap (step b) makes.is;
      }
    ]

pub message_more : {S : Type 0} (made_of : List FieldText → S) (step : List ℕ → S → S) (before : List FieldText) (made : S) (n : ℕ) (b : List ℕ)
    → Makes made_of before made → step b (made_of before) ≡ made_of (before ++ field_with n (Bytes b) ∷ [])
    → Makes made_of (before ++ field_with n (Bytes b) ∷ []) (step b made)
message_more made_of step before made n b makes taken = record { is = sym taken ∙ ap (step b) makes.is }

-- ---- FuseAttributes

abbrev pub attributes_fields : Attributes → List FieldText
attributes_fields a =
    number_fields 1 a.file_size ++ number_fields 2 a.mtime ++ number_fields 3 a.mode ++ number_fields 4 a.uid ++ number_fields 5 a.gid
    ++ number_fields 6 a.crtime ++ text_fields 7 a.mime ++ number_fields 10 a.ttl_sec ++ text_fields 14 (unwrap_or a.md5 [])

-- The values as they stand
abbrev pub spelled_attributes : Attributes → AttributesText
spelled_attributes a = record {
  file_size = a.file_size;
  mtime = a.mtime;
  mode = a.mode;
  uid = a.uid;
  gid = a.gid;
  crtime = a.crtime;
  mime = a.mime;
  ttl_sec = a.ttl_sec;
  md5 = unwrap_or a.md5 [];
}

attribute : {before : List FieldText} {made : AttributesText} (n v : ℕ) → Makes attributes_in before made → attributes_with_number n 0 made ≡ made → Makes attributes_in (before ++ number_fields n v) (attributes_with_number n v made)
attribute {before = before} {made = made} n v makes still = number_more attributes_in (attributes_with_number n) before made n v makes still (attributes_number before n v)

attribute_text : {before : List FieldText} {made : AttributesText} (n : ℕ) (b : List ℕ) → Makes attributes_in before made → attributes_with_text n [] made ≡ made → Makes attributes_in (before ++ text_fields n b) (attributes_with_text n b made)
attribute_text {before = before} {made = made} n b makes still = text_more attributes_in (attributes_with_text n) before made n b makes still (attributes_text_taken before n b)

no_attributes : Makes attributes_in [] (attributes_in [])
no_attributes = record { is = refl }

pub attributes_in-fields : (a : Attributes) → attributes_in (attributes_fields a) ≡ spelled_attributes a
attributes_in-fields a =
    let first = attribute 1 a.file_size no_attributes refl in
    let times = attribute 3 a.mode (attribute 2 a.mtime first refl) refl in
    let owners = attribute 5 a.gid (attribute 4 a.uid times refl) refl in
    let mime = attribute_text 7 a.mime (attribute 6 a.crtime owners refl) refl in
    (attribute_text 14 (unwrap_or a.md5 []) (attribute 10 a.ttl_sec mime refl) refl).is

abbrev room : ℕ → Type 0
room n = n < 2 ^ 64

short_digest : (md5 : Option (List ℕ)) → IfSome md5 (λ digest. length digest ≡ 16) → length (unwrap_or md5 []) < 2 ^ 64
short_digest None is = omega arith
short_digest (Some digest) is = omega arith

pub Spells-attributes : (a : Attributes) → FitTypes a → length a.mime < 2 ^ 64 → Spells (attributes_text a) (attributes_fields a)
Spells-attributes a fits mime =
    let number : (n v : ℕ) → IsFieldNumber n → v < 2 ^ 64 → Spells (varint_field n v) (number_fields n v) = Spells-number in
    let digest : length (unwrap_or a.md5 []) < 2 ^ 64 = short_digest a.md5 fits.md5 in
    let times = Spells-append _ _ _ _ (number 1 a.file_size (record { low = omega arith; high = omega arith }) fits.file_size) (number 2 a.mtime (record { low = omega arith; high = omega arith }) fits.mtime) in
    let owner = Spells-append _ _ _ _ (Spells-append _ _ _ _ times (number 3 a.mode (record { low = omega arith; high = omega arith }) (omega (arith, fits.mode)))) (number 4 a.uid (record { low = omega arith; high = omega arith }) (omega (arith, fits.uid))) in
    let made = Spells-append _ _ _ _ (Spells-append _ _ _ _ owner (number 5 a.gid (record { low = omega arith; high = omega arith }) (omega (arith, fits.gid)))) (number 6 a.crtime (record { low = omega arith; high = omega arith }) fits.crtime) in
    let kept = Spells-append _ _ _ _ (Spells-append _ _ _ _ made (Spells-bytes 7 a.mime (record { low = omega arith; high = omega arith }) mime)) (number 10 a.ttl_sec (record { low = omega arith; high = omega arith }) (omega (arith, fits.ttl_sec))) in
    Spells-append _ _ _ _ kept (Spells-bytes 14 (unwrap_or a.md5 []) (record { low = omega arith; high = omega arith }) digest)

-- ---- What the messages mean

pub and_true : (a b : Bool) → a ≡ true → b ≡ true → (a && b) ≡ true
and_true a b first second = ap (λ x. x && b) first ∙ second

digest_is_good : (md5 : Option (List ℕ)) → IfSome md5 (λ digest. length digest ≡ 16) → (eqb (length (unwrap_or md5 [])) 0 || eqb (length (unwrap_or md5 [])) 16) ≡ true
digest_is_good None is = refl
digest_is_good (Some digest) is = ap (λ n. eqb n 0 || eqb n 16) is

pub good_again : (a : Attributes) → FitTypes a → a.file_size ≤ 274877906944 → length a.mime ≤ 255 → are_good (spelled_attributes a) ≡ true
good_again a fits size mime =
    and_true _ _ (and_true _ _ (and_true _ _ (and_true _ _ (and_true _ _ (and_true _ _
    (lt-ltb _ _ fits.mode) (lt-ltb _ _ fits.uid)) (lt-ltb _ _ fits.gid)) (lt-ltb _ _ fits.ttl_sec)) (le-leb _ _ size)) (le-leb _ _ mime))
    (digest_is_good a.md5 fits.md5)

digest_again : (md5 : Option (List ℕ)) → IfSome md5 (λ digest. length digest ≡ 16) → cond (eqb (length (unwrap_or md5 [])) 0) None (Some (unwrap_or md5 [])) ≡ md5
digest_again None is = refl
digest_again (Some digest) is = ap (λ n. cond (eqb n 0) None (Some digest)) is

pub attributes_again : (a : Attributes) → FitTypes a → attributes_of (spelled_attributes a) ≡ a
attributes_again a fits = λ i. record a { md5 = digest_again a.md5 fits.md5 i }

-- ---- Lengths of what stands inside

pub inside_message : (n : ℕ) (b : List ℕ) → length b ≤ length (message_field n b)
inside_message n b = omega (arith, length-append (tag_text n 2 ++ varint_text (length b)) b)

pub inside_bytes : (n : ℕ) (b : List ℕ) → length b ≤ length (bytes_field n b)
inside_bytes n b =
    elim (eqb_tells (length b) 0) [
      | inl none ↦ omega (arith, none.1)
      | inr some ↦ subst (λ t. length b ≤ length (cond t [] (message_field n b))) (sym some.0) (inside_message n b)
    ]
