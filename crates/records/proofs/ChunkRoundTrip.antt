-- A chunk that is written is read back.
use Rattle.std.proofs.Common.{◌≡◌, ℕ, ◌+◌, ◌<◌, ◌^◌, Bool, true, false, cond, eqb, List, [], ◌∷◌, ◌++◌, length, Option, None, Some, Ok, refl, sym, ap, ◌∙◌, subst, inl, inr, arith, length-append, append-nil}
use Rattle.std.specs.Prelude.{option_and_then}
use Rattle.std.specs.Result.{result_ok}
use Rattle.std.proofs.lemmas.Bool.{lt-ltb, le-leb}
use Rattle.std.proofs.lemmas.Bool.Decides.{eqb_tells}
use Rattle.file_id.specs.declared.fid.Fid.{Fid}
use Rattle.proto_wire.specs.Text.{IsFieldNumber, varint_field, fixed32_field, bytes_field, message_field}
use Rattle.proto_wire.specs.Field.{◌>>=◌, Bytes, Fixed32, FieldText, IsField, fields_of}
use Rattle.proto_wire.proofs.Fields.{fields_of-field}
use Rattle.proto_wire.proofs.Words.{IsField-fixed32}
use Rattle.proto_wire.proofs.Spells.{Spells, Spells-append, Spells-nil, Spells-message, Spells-number, Spells-bytes, Spells-whole, number_fields, text_fields}
use Rattle.entry.specs.declared.chunk.Chunk.{Chunk}
use Rattle.entry.specs.declared.chunk_message.FidFields.{FidFields}
use Rattle.entry.specs.declared.chunk_message.ChunkParts.{ChunkParts}
use Rattle.entry.specs.ChunkText.{ChunkText, fid_in, chunk_in}
use Rattle.entry.specs.ChunkSteps.{fid_with_number, fid_with_fixed, chunk_with_number, chunk_with_text}
use Rattle.entry.specs.ChunkReading.{fid_if_there, chunk_at, is_set, is_placed, chunk_with, chunk_of}
use Rattle.entry.specs.Entry.{IsValidChunk}
use Rattle.entry.specs.EntryText.{chunk_read}
use Rattle.entry.specs.EntryWriting.{fid_text, bit, cipher_key, chunk_text, FitsFid, FitsChunk}
use Rattle.entry.proofs.ChunkLemmas.{fid_number, fid_fixed, chunk_number, chunk_text as chunk_text_taken}
use Rattle.entry.proofs.MessageLemmas.{field_with}
use Rattle.entry.proofs.RoundTrip.{Makes, number_more, text_more, message_more, and_true, inside_message}

-- ---- Four bytes

abbrev fixed_fields : ℕ → ℕ → List FieldText
fixed_fields number value = cond (eqb value 0) [] (field_with number (Fixed32 value) ∷ [])

Spells-field : (text : List ℕ) (number value : ℕ) → IsField text number (Fixed32 value) → Spells text (field_with number (Fixed32 value) ∷ [])
Spells-field text number value field = record { reads = λ rest. fields_of-field text rest number (Fixed32 value) field }

Spells-fixed : (number value : ℕ) → IsFieldNumber number → value < 2 ^ 32 → Spells (fixed32_field number value) (fixed_fields number value)
Spells-fixed number value numbered fits =
    elim (eqb_tells value 0) [
      | inl zero ↦ subst (λ v. Spells (fixed32_field number v) (fixed_fields number v)) (sym zero.1) Spells-nil
      | inr some ↦
          subst (λ b. Spells (fixed32_field number value) (cond b [] (field_with number (Fixed32 value) ∷ []))) (sym some.0)
          (Spells-field (fixed32_field number value) number value (IsField-fixed32 number value numbered (omega (arith, some.1)) fits))
    ]

fixed_more : {S : Type 0} (made_of : List FieldText → S) (step : ℕ → S → S) (before : List FieldText) (made : S) (n v : ℕ)
    → Makes made_of before made → step 0 made ≡ made → step v (made_of before) ≡ made_of (before ++ field_with n (Fixed32 v) ∷ [])
    → Makes made_of (before ++ fixed_fields n v) (step v made)
fixed_more made_of step before made n v makes still taken =
    elim (eqb_tells v 0) [
      | inl none ↦ record {
        is = ap (λ b. made_of (before ++ cond b [] (field_with n (Fixed32 v) ∷ []))) none.0 ∙ ap made_of (append-nil before) ∙ makes.is ∙ sym still ∙ ap (λ w. step w made) (sym none.1);
      }
      | inr some ↦ record {
        is = ap (λ b. made_of (before ++ cond b [] (field_with n (Fixed32 v) ∷ []))) some.0 ∙ sym taken ∙ ap (step v) makes.is;
      }
    ]

-- ---- FileId

abbrev fid_fields : Fid → List FieldText
fid_fields fid = number_fields 1 fid.volume ++ number_fields 2 fid.key ++ fixed_fields 3 fid.cookie

abbrev pub spelled_fid : Fid → FidFields
spelled_fid fid = record { volume = fid.volume; key = fid.key; cookie = fid.cookie }

fid_number_more : {before : List FieldText} {made : FidFields} (n v : ℕ) → Makes fid_in before made → fid_with_number n 0 made ≡ made → Makes fid_in (before ++ number_fields n v) (fid_with_number n v made)
fid_number_more {before = before} {made = made} n v makes still = number_more fid_in (fid_with_number n) before made n v makes still (fid_number before n v)

fid_fixed_more : {before : List FieldText} {made : FidFields} (n v : ℕ) → Makes fid_in before made → fid_with_fixed n 0 made ≡ made → Makes fid_in (before ++ fixed_fields n v) (fid_with_fixed n v made)
fid_fixed_more {before = before} {made = made} n v makes still = fixed_more fid_in (fid_with_fixed n) before made n v makes still (fid_fixed before n v)

no_fid : Makes fid_in [] (fid_in [])
no_fid = record { is = refl }

fid_in-fields : (fid : Fid) → fid_in (fid_fields fid) ≡ spelled_fid fid
fid_in-fields fid = (fid_fixed_more 3 fid.cookie (fid_number_more 2 fid.key (fid_number_more 1 fid.volume no_fid refl) refl) refl).is

Spells-fid : (fid : Fid) → FitsFid fid → Spells (fid_text fid) (fid_fields fid)
Spells-fid fid fits =
    Spells-append _ _ _ _
    (Spells-append _ _ _ _ (Spells-number 1 fid.volume (record { low = omega arith; high = omega arith }) (omega (arith, fits.volume))) (Spells-number 2 fid.key (record { low = omega arith; high = omega arith }) fits.key))
    (Spells-fixed 3 fid.cookie (record { low = omega arith; high = omega arith }) fits.cookie)

-- ---- FileChunk

abbrev chunk_fields : Chunk → List FieldText
chunk_fields c =
    number_fields 2 c.offset ++ number_fields 3 c.size ++ number_fields 4 c.modified ++ (field_with 7 (Bytes (fid_text c.fid)) ∷ [])
    ++ text_fields 9 (cipher_key c.ciphered) ++ number_fields 10 (bit c.compressed) ++ number_fields 11 (bit c.manifest)

abbrev spelled_chunk : Chunk → ChunkText
spelled_chunk c = record {
  offset = c.offset;
  size = c.size;
  modified = c.modified;
  fid = Some (fid_text c.fid);
  cipher_key = cipher_key c.ciphered;
  is_compressed = bit c.compressed;
  is_manifest = bit c.manifest;
}

chunk_number_more : {before : List FieldText} {made : ChunkText} (n v : ℕ) → Makes chunk_in before made → chunk_with_number n 0 made ≡ made → Makes chunk_in (before ++ number_fields n v) (chunk_with_number n v made)
chunk_number_more {before = before} {made = made} n v makes still = number_more chunk_in (chunk_with_number n) before made n v makes still (chunk_number before n v)

chunk_text_more : {before : List FieldText} {made : ChunkText} (n : ℕ) (b : List ℕ) → Makes chunk_in before made → chunk_with_text n [] made ≡ made → Makes chunk_in (before ++ text_fields n b) (chunk_with_text n b made)
chunk_text_more {before = before} {made = made} n b makes still = text_more chunk_in (chunk_with_text n) before made n b makes still (chunk_text_taken before n b)

chunk_message_more : {before : List FieldText} {made : ChunkText} (n : ℕ) (b : List ℕ) → Makes chunk_in before made → Makes chunk_in (before ++ (field_with n (Bytes b) ∷ [])) (chunk_with_text n b made)
chunk_message_more {before = before} {made = made} n b makes = message_more chunk_in (chunk_with_text n) before made n b makes (chunk_text_taken before n b)

no_chunk : Makes chunk_in [] (chunk_in [])
no_chunk = record { is = refl }

chunk_in-fields : (c : Chunk) → chunk_in (chunk_fields c) ≡ spelled_chunk c
chunk_in-fields c =
    let numbers = chunk_number_more 4 c.modified (chunk_number_more 3 c.size (chunk_number_more 2 c.offset no_chunk refl) refl) refl in
    let texts = chunk_text_more 9 (cipher_key c.ciphered) (chunk_message_more 7 (fid_text c.fid) numbers) refl in
    (chunk_number_more 11 (bit c.manifest) (chunk_number_more 10 (bit c.compressed) texts refl) refl).is

bit_is_small : (b : Bool) → bit b < 2 ^ 64
bit_is_small true = omega arith
bit_is_small false = omega arith

key_is_short : (b : Bool) → length (cipher_key b) < 2 ^ 64
key_is_short true = omega arith
key_is_short false = omega arith

Spells-chunk : (c : Chunk) → IsValidChunk c → FitsChunk c → length (fid_text c.fid) < 2 ^ 64 → Spells (chunk_text c) (chunk_fields c)
Spells-chunk c valid fits short =
    let place = Spells-append _ _ _ _ (Spells-number 2 c.offset (record { low = omega arith; high = omega arith }) (omega (arith, valid.within))) (Spells-number 3 c.size (record { low = omega arith; high = omega arith }) (omega (arith, valid.within))) in
    let time = Spells-append _ _ _ _ place (Spells-number 4 c.modified (record { low = omega arith; high = omega arith }) fits.modified) in
    let named = Spells-append _ _ _ _ time (Spells-message 7 (fid_text c.fid) (record { low = omega arith; high = omega arith }) short) in
    let keyed = Spells-append _ _ _ _ named (Spells-bytes 9 (cipher_key c.ciphered) (record { low = omega arith; high = omega arith }) (key_is_short c.ciphered)) in
    let packed = Spells-append _ _ _ _ keyed (Spells-number 10 (bit c.compressed) (record { low = omega arith; high = omega arith }) (bit_is_small c.compressed)) in
    Spells-append _ _ _ _ packed (Spells-number 11 (bit c.manifest) (record { low = omega arith; high = omega arith }) (bit_is_small c.manifest))

abbrev chunk_parts : ChunkText → Option FidFields → ChunkParts
chunk_parts fields fid = record { fields = fields; fid = fid }

chunk_steps : (text fid : List ℕ) (outer inner : List FieldText) (chunk : ChunkText) (found : FidFields)
    → fields_of text ≡ Ok outer → chunk_in outer ≡ chunk → chunk.fid ≡ Some fid → fields_of fid ≡ Ok inner → fid_in inner ≡ found → chunk_at text ≡ Ok (chunk_parts chunk (Some found))
chunk_steps text fid outer inner chunk found whole is named inside made =
    ap (λ read. read >>= λ fields. fid_if_there (chunk_in fields).fid >>= λ f. Ok (chunk_parts (chunk_in fields) f)) whole
    ∙ ap (λ ch. fid_if_there ch.fid >>= λ f. Ok (chunk_parts ch f)) is
    ∙ ap (λ o. fid_if_there o >>= λ f. Ok (chunk_parts chunk f)) named
    ∙ ap (λ read. (read >>= λ fields. Ok (Some (fid_in fields))) >>= λ f. Ok (chunk_parts chunk f)) inside
    ∙ ap (λ f. Ok (chunk_parts chunk (Some f))) made

fid_inside : (c : Chunk) → length (chunk_text c) < 2 ^ 64 → length (fid_text c.fid) < 2 ^ 64
fid_inside c short =
    let front : List ℕ = varint_field 2 c.offset ++ varint_field 3 c.size ++ varint_field 4 c.modified in
    let fid : List ℕ = message_field 7 (fid_text c.fid) in
    let key : List ℕ = bytes_field 9 (cipher_key c.ciphered) in
    omega (
      arith,
      inside_message 7 (fid_text c.fid),
      length-append front fid,
      length-append (front ++ fid) key,
      length-append (front ++ fid ++ key) (varint_field 10 (bit c.compressed)),
      length-append (front ++ fid ++ key ++ varint_field 10 (bit c.compressed)) (varint_field 11 (bit c.manifest)),
    )

-- A chunk's text is read.
pub chunk_at-text : (c : Chunk) → IsValidChunk c → FitsChunk c → length (chunk_text c) < 2 ^ 64 → chunk_at (chunk_text c) ≡ Ok (chunk_parts (spelled_chunk c) (Some (spelled_fid c.fid)))
chunk_at-text c valid fits short =
    chunk_steps _ (fid_text c.fid) (chunk_fields c) (fid_fields c.fid) (spelled_chunk c) _
    (Spells-whole _ _ (Spells-chunk c valid fits (fid_inside c short))) (chunk_in-fields c) refl
    (Spells-whole _ _ (Spells-fid c.fid fits.fid)) (fid_in-fields c.fid)

-- ---- What it means

bit_is_set : (b : Bool) → is_set (bit b) ≡ b
bit_is_set true = refl
bit_is_set false = refl

key_is_set : (b : Bool) → is_set (length (cipher_key b)) ≡ b
key_is_set true = refl
key_is_set false = refl

chunk_again : (c : Chunk) → chunk_with (spelled_chunk c) c.fid ≡ c
chunk_again c = λ i. record c { compressed = bit_is_set c.compressed i; ciphered = key_is_set c.ciphered i; manifest = bit_is_set c.manifest i }

chunk_of-spelled : (c : Chunk) → IsValidChunk c → FitsChunk c → chunk_of (chunk_parts (spelled_chunk c) (Some (spelled_fid c.fid))) ≡ Some c
chunk_of-spelled c valid fits =
    let placed : is_placed (spelled_chunk c) ≡ true = and_true _ _ (le-leb 1 c.size valid.filled) (le-leb (c.offset + c.size) 274877906944 valid.within) in
    ap (λ b. option_and_then (λ fid. cond (is_placed (spelled_chunk c)) (Some (chunk_with (spelled_chunk c) fid)) None) (cond b (Some c.fid) None)) (lt-ltb c.fid.volume (2 ^ 32) fits.fid.volume)
    ∙ ap (λ b. cond b (Some (chunk_with (spelled_chunk c) c.fid)) None) placed
    ∙ ap Some (chunk_again c)

-- It is read back.
pub chunk_read-text : (c : Chunk) → IsValidChunk c → FitsChunk c → length (chunk_text c) < 2 ^ 64 → chunk_read (chunk_text c) ≡ Some c
chunk_read-text c valid fits short = ap (λ read. option_and_then chunk_of (result_ok read)) (chunk_at-text c valid fits short) ∙ chunk_of-spelled c valid fits
