-- The text of a file id is ASCII.
use Rattle.std.proofs.Common.{◌≡◌, ℕ, ◌^◌, ◌<◌, nat_lt, true, List, [], ◌∷◌, refl, arith}
use Rattle.std.specs.List.{list_all}
use Rattle.std.proofs.lemmas.Bool.{and_parts, ltb-true}
use Rattle.std.specs.Str.{IsAscii, IsUtf8}
use Rattle.std.specs.Int.{w32, w64, to_be_bytes}
use Rattle.std.proofs.lemmas.Fmt.{IsAscii-decimal}
use Rattle.std.proofs.lemmas.Str.{IsAscii-append, IsUtf8-from_ascii}
use Rattle.std.proofs.lemmas.Str.Ascii.{IsAscii-nil, IsAscii-cons}
use Rattle.hex.specs.Hex.{lower_digits}
use Rattle.hex.proofs.HexLemmas.{IsAscii-encode_with}
use Rattle.file_id.specs.declared.fid.Fid.{Fid}
use Rattle.file_id.specs.FileId.{text_of, significant}

ascii_tested : (bs : List ℕ) → list_all (λ b. nat_lt b 128) bs ≡ true → IsAscii bs
ascii_tested [] all = IsAscii-nil
ascii_tested (b ∷ bs) all = let both = and_parts _ _ all in IsAscii-cons b bs (ltb-true _ _ both.0) (ascii_tested bs both.1)

digits_are_ascii : IsAscii lower_digits
digits_are_ascii = ascii_tested lower_digits refl

pub fid_text_is_utf8 : (fid : Fid) → fid.volume < 2 ^ 32 → IsUtf8 (text_of fid)
unfolding text_of
fid_text_is_utf8 fid fits =
    IsUtf8-from_ascii _ (IsAscii-append _ _ (IsAscii-decimal fid.volume (omega (arith, fits)))
    (IsAscii-cons 44 _ (omega arith)
    (IsAscii-append _ _ (IsAscii-encode_with lower_digits (significant (to_be_bytes w64 fid.key)) digits_are_ascii)
    (IsAscii-encode_with lower_digits (to_be_bytes w32 fid.cookie) digits_are_ascii))))
