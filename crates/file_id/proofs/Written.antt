-- The text that is written names its id.
use Rattle.std.proofs.Common.{◌≡◌, ℕ, ◌-◌, ◌*◌, ◌^◌, ◌<◌, ◌≤◌, List, [], ◌∷◌, ◌++◌, length, take, drop, refl, sym, ap, ◌∙◌, arith, Ok, inl, decimal, w32, w64}
use Rattle.std.specs.Int.{to_be_bytes}
use Rattle.std.specs.Str.Parse.{AllDigits, digits_value}
use Rattle.std.proofs.lemmas.List.{append-nil, length-append}
use Rattle.std.proofs.Math.Seq.{drop-append_seam, take-append_seam}
use Rattle.hex.specs.Hex.{encode_lower, lower_digits}
use Rattle.hex.proofs.HexLemmas.{length-encode_with}
use Rattle.file_id.specs.FileId.{AreDigitsOf, Names, significant, text_of}
use Rattle.file_id.specs.Reading.{fid_of}
use Rattle.file_id.specs.declared.fid.Fid.{Fid}
use Rattle.file_id.proofs.Hex.{AllDigits-encode, four_below, key_below, key_length, of_cookie, of_key}
use Rattle.file_id.proofs.Names.{named_reads}

AllDigits-append : (a b : List ℕ) → AllDigits 16 a → AllDigits 16 b → AllDigits 16 (a ++ b)
AllDigits-append [] b all rest = rest
AllDigits-append (c ∷ a) b all rest = (all.0, AllDigits-append a b all.1 rest)

-- Digits of a key before the eight of a cookie.
joined : (a b : List ℕ) (key cookie : ℕ) → AllDigits 16 a → AllDigits 16 b → 1 ≤ length a → length a ≤ 16 → length b ≡ 8
    → digits_value 16 a ≡ key → digits_value 16 b ≡ cookie → AreDigitsOf (a ++ b) key cookie
joined a b key cookie all rest some few eight value low =
    let before : length (a ++ b) - 8 ≡ length a = omega (arith, length-append a b) in
    record {
      alone = AllDigits-append a b all rest;
      enough = omega (arith, length-append a b);
      few = omega (arith, length-append a b);
      of_key = ap (λ n. digits_value 16 (take n (a ++ b))) before ∙ ap (digits_value 16) (take-append_seam a b) ∙ value;
      of_cookie = ap (λ n. digits_value 16 (drop n (a ++ b))) before ∙ ap (digits_value 16) (drop-append_seam a b) ∙ low;
    }

written_names : (fid : Fid) → fid.volume < 2 ^ 32 → fid.key < 2 ^ 64 → fid.cookie < 2 ^ 32 → Names (text_of fid) fid
unfolding text_of
written_names fid volume key cookie =
    let key_digits : List ℕ = encode_lower (significant (to_be_bytes w64 fid.key)) in
    let cookie_digits : List ℕ = encode_lower (to_be_bytes w32 fid.cookie) in
    let long : length key_digits ≡ 2 * length (significant (to_be_bytes w64 fid.key)) = length-encode_with lower_digits _ in
    let eight : length cookie_digits ≡ 8 = length-encode_with lower_digits _ in
    let bounds = key_length fid.key in
    record {
      key = fid.key;
      delta = 0;
      digits = key_digits ++ cookie_digits;
      end = [];
      whole = ap (λ t. decimal fid.volume ++ (44 ∷ t)) (sym (append-nil (key_digits ++ cookie_digits)));
      volume = volume;
      are_digits = joined key_digits cookie_digits fid.key fid.cookie
          (AllDigits-encode _ (key_below fid.key)) (AllDigits-encode _ (four_below fid.cookie))
          (omega arith) (omega arith) eight (of_key fid.key key) (of_cookie fid.cookie cookie);
      is_delta = inl (refl, refl);
      sum = omega arith;
      fits = key;
    }

pub written_reads : (fid : Fid) → fid.volume < 2 ^ 32 → fid.key < 2 ^ 64 → fid.cookie < 2 ^ 32 → fid_of (text_of fid) ≡ Ok fid
written_reads fid volume key cookie = named_reads _ fid (written_names fid volume key cookie)
