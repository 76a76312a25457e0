-- Which id a text names, or the first thing that is wrong with it.
use Rattle.std.specs.Prelude.{ℕ, ◌+◌, ◌-◌, ◌^◌, Bool, not, nat_lt, nat_le, ◌==◌, ◌&&◌, ◌||◌, if◌then◌else◌, List, [], ◌∷◌, length, take, drop, slice_index, Option, None, Some, Result, Ok, Err}
use Rattle.std.specs.Char.{is_ascii_digit, is_digit}
use Rattle.std.specs.List.{list_all}
use Rattle.std.specs.Option.{ok_or, option_map, option_or}
use Rattle.std.specs.Str.Parse.{digits_value}
use Rattle.file_id.specs.declared.fid.Fid.{Fid}
use Rattle.file_id.specs.declared.fault.FidFault.{FidFault}
use Rattle.file_id.specs.declared.fault.FidFault.TheVariants.{NoComma, BadVolume, BadDelta, BadHex, KeyTooShort, KeyTooLong, KeyOverflow}

-- The first fault goes on, and else the next step is made.
infixl 10 ◌>>=◌
abbrev pub ◌>>=◌ : {A B : Type 0} → Result A FidFault → (A → Result B FidFault) → Result B FidFault
(Ok x) >>= f = f x
(Err e) >>= f = Err e

-- What stands before and behind a cut.
abbrev pub Cut : Type 0
Cut = List ℕ × List ℕ

-- The cut of a text that has one byte more in front.
abbrev pub after_byte : ℕ → Cut → Cut
after_byte c cut = (c ∷ cut.0, cut.1)

-- The cut at the first byte, where it is the one that cuts.
abbrev pub cut_here : ℕ → ℕ → List ℕ → Option Cut
cut_here b c cs = if c == b then Some ([], cs) else None

-- The cut at the first such byte, which is left out.
abbrev pub cut_first : ℕ → List ℕ → Option Cut
cut_first b [] = None
cut_first b (c ∷ cs) = option_or (cut_here b c cs) (option_map (after_byte c) (cut_first b cs))

-- The cut at the last such byte, which is left out.
abbrev pub cut_last : ℕ → List ℕ → Option Cut
cut_last b [] = None
cut_last b (c ∷ cs) = option_or (option_map (after_byte c) (cut_last b cs)) (cut_here b c cs)

-- Decimal digits, with no zero before others.
abbrev pub is_number : List ℕ → Bool
is_number text = list_all is_ascii_digit text && (nat_le 1 (length text) && (length text == 1 || not (slice_index text 0 == 48)))

-- The number below the limit that a text writes.
abbrev pub number_below : ℕ → List ℕ → Option ℕ
number_below limit text = if is_number text && nat_lt (digits_value 10 text) limit then Some (digits_value 10 text) else None

-- Hexadecimal digits and the number behind them.
pub record Tail : Type 0 where
  pub digits : List ℕ
  pub delta : ℕ

-- The number stands behind the last `_`, and is 0 where there is none.
abbrev pub tail_of : List ℕ → Option Cut → Result Tail FidFault
tail_of text None = Ok (record { digits = text; delta = 0 })
tail_of text (Some cut) = do
  delta ← ok_or (number_below (2 ^ 64) cut.1) BadDelta
  Ok (record { digits = cut.0; delta = delta })

-- The id of a volume, with the key and the cookie that the digits write.
abbrev pub id_of : ℕ → List ℕ → Result Fid FidFault
id_of volume digits =
    if not (list_all (λ c. is_digit c 16) digits) then Err BadHex
    else if nat_lt (length digits) 9 then Err KeyTooShort
    else if nat_lt 24 (length digits) then Err KeyTooLong
    else Ok (record {
      volume = volume;
      key = digits_value 16 (take (length digits - 8) digits);
      cookie = digits_value 16 (drop (length digits - 8) digits);
    })

-- The id with a key that is greater by delta.
abbrev pub raised : Fid → ℕ → Result Fid FidFault
raised fid delta = if nat_lt (fid.key + delta) (2 ^ 64) then Ok (record fid { key = fid.key + delta }) else Err KeyOverflow

-- The id that a text names.
unfoldable pub fid_of : List ℕ → Result Fid FidFault
fid_of text = do
  cut ← ok_or (cut_first 44 text) NoComma
  volume ← ok_or (number_below (2 ^ 32) cut.0) BadVolume
  tail ← tail_of cut.1 (cut_last 95 cut.1)
  fid ← id_of volume tail.digits
  raised fid tail.delta
