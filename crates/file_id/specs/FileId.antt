-- The texts of file ids: which id each of them names, and the one text that is written.
use Rattle.std.specs.Prelude.{◌≡◌, ℕ, ◌+◌, ◌-◌, ◌^◌, ◌≤◌, ◌<◌, ◌⊎◌, ◌==◌, min, List, [], ◌∷◌, ◌++◌, length, take, drop, decimal}
use Rattle.std.specs.Int.{w32, w64, to_be_bytes}
use Rattle.std.specs.List.{prefix_len}
use Rattle.std.specs.Str.Parse.{AllDigits, digits_value}
use Rattle.hex.specs.Hex.{encode_lower}
use Rattle.file_id.specs.declared.fid.Fid.{Fid}

-- Hexadecimal digits, 9 to 24 of them in either case: the last 8 are the cookie's, and those before them the key's.
pub record AreDigitsOf (digits : List ℕ) (key cookie : ℕ) : Type 0 where
  pub alone : AllDigits 16 digits
  pub enough : 9 ≤ length digits
  pub few : length digits ≤ 24
  pub of_key : digits_value 16 (take (length digits - 8) digits) ≡ key
  pub of_cookie : digits_value 16 (drop (length digits - 8) digits) ≡ cookie

-- What may stand behind the digits: nothing, or `_` and a number in decimal.
abbrev pub IsDelta : List ℕ → ℕ → Type 0
IsDelta text delta = ((text ≡ []) × (delta ≡ 0)) ⊎ ((text ≡ 95 ∷ decimal delta) × (delta < 2 ^ 64))

-- A text that names the id: the volume in decimal, a comma, the digits of a key and of the cookie, and maybe a
-- delta, which is added to that key.
pub record Names (text : List ℕ) (fid : Fid) : Type 0 where
  pub key : ℕ
  pub delta : ℕ
  pub digits : List ℕ
  pub end : List ℕ
  pub whole : text ≡ decimal fid.volume ++ (44 ∷ (digits ++ end))
  pub volume : fid.volume < 2 ^ 32
  pub are_digits : AreDigitsOf digits key fid.cookie
  pub is_delta : IsDelta end delta
  pub sum : fid.key ≡ key + delta
  pub fits : fid.key < 2 ^ 64

-- The bytes from the first on that isn't zero, and the last of eight in any case.
abbrev pub significant : List ℕ → List ℕ
significant bytes = drop (min (prefix_len (λ b. b == 0) bytes) 7) bytes

-- The text that is written: the volume in decimal, a comma, and the bytes of the key and of the cookie in
-- lower-case hexadecimal, the most significant first.
unfoldable pub text_of : Fid → List ℕ
text_of fid = decimal fid.volume ++ (44 ∷ (encode_lower (significant (to_be_bytes w64 fid.key)) ++ encode_lower (to_be_bytes w32 fid.cookie)))
