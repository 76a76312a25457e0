-- A text names exactly the id that is read from it.
use Rattle.std.proofs.Common.{◌≡◌, subst, ℕ, ◌+◌, ◌-◌, ◌^◌, ◌<◌, List, [], ◌∷◌, ◌++◌, length, drop, refl, sym, ap, ◌∙◌, arith, Bool, true, false, cond, not, Option, Some, None, Result, Ok, Err, inl, inr, decimal, lit≤}
use Rattle.std.specs.Option.{ok_or}
use Rattle.std.specs.Result.{IfOk}
use Rattle.std.specs.Str.Parse.{digits_value}
use Rattle.std.proofs.lemmas.Bool.{lt-ltb, ltb-true, ltb-false, le-ltb}
use Rattle.std.proofs.lemmas.Fmt.{digits_decimal}
use Rattle.std.proofs.lemmas.List.{append-nil}
use Rattle.file_id.specs.FileId.{AreDigitsOf, IsDelta, Names}
use Rattle.file_id.specs.Reading.{Cut, Tail, ◌>>=◌, cut_first, cut_last, fid_of, id_of, raised, tail_of}
use Rattle.file_id.specs.declared.fid.Fid.{Fid}
use Rattle.file_id.specs.declared.fault.FidFault.{FidFault}
use Rattle.file_id.specs.declared.fault.FidFault.TheVariants.{NoComma, BadVolume, BadDelta, KeyOverflow}
use Rattle.file_id.proofs.Cuts.{Lacks, cut_first-at, cut_first-whole, cut_last-at, cut_last-none, cut_last-whole}
use Rattle.file_id.proofs.Digits.{own, AllDigits-from_hex, hex-from_AllDigits}
use Rattle.file_id.proofs.Numbers.{Lacks-digits, number_below-decimal, decimal-number_below}

step : {A B : Type 0} (r : Result A FidFault) (x : A) (f : A → Result B FidFault) → r ≡ Ok x → (r >>= f) ≡ f x
step r x f is = ap (λ q. q >>= f) is

unwraps : {A : Type 0} (o : Option A) (x : A) (e : FidFault) → o ≡ Some x → ok_or o e ≡ Ok x
unwraps o x e is = ap (λ q. ok_or q e) is

tail-named : (digits end : List ℕ) (key cookie delta : ℕ) → AreDigitsOf digits key cookie → IsDelta end delta
    → tail_of (digits ++ end) (cut_last 95 (digits ++ end)) ≡ Ok (record { digits = digits; delta = delta })
tail-named digits end key cookie delta are (inl none) =
    let e : digits ++ end ≡ digits = ap (λ t. digits ++ t) none.0 ∙ append-nil digits in
    let lacks : Lacks 95 digits = Lacks-digits 16 95 (lit≤ tt) digits are.alone in
    ap (λ t. tail_of t (cut_last 95 t)) e
    ∙ ap (tail_of digits) (cut_last-none 95 digits lacks)
    ∙ ap (λ n. Ok (record { digits = digits; delta = n })) (sym none.1)
tail-named digits end key cookie delta are (inr some) =
    let lacks : Lacks 95 (decimal delta) = Lacks-digits 10 95 (lit≤ tt) (decimal delta) (own.to _ (digits_decimal own delta some.1)) in
    ap (λ t. tail_of (digits ++ t) (cut_last 95 (digits ++ t))) some.0
    ∙ ap (tail_of (digits ++ (95 ∷ decimal delta))) (cut_last-at 95 digits (decimal delta) lacks)
    ∙ step _ delta _ (unwraps _ delta BadDelta (number_below-decimal (2 ^ 64) delta some.1 some.1))

passed : {A : Type 0} (b : Bool) (x y : A) → b ≡ false → cond b x y ≡ y
passed b x y is = rw is refl

id-named : (volume key cookie : ℕ) (digits : List ℕ) → AreDigitsOf digits key cookie
    → id_of volume digits ≡ Ok (record { volume = volume; key = key; cookie = cookie })
id-named volume key cookie digits are =
    passed _ _ _ (ap not (hex-from_AllDigits digits are.alone))
    ∙ passed _ _ _ (le-ltb _ _ are.enough)
    ∙ passed _ _ _ (le-ltb _ _ are.few)
    ∙ ap (λ k. Ok (record { volume = volume; key = k; cookie = digits_value 16 (drop (length digits - 8) digits) })) are.of_key
    ∙ ap (λ k. Ok (record { volume = volume; key = key; cookie = k })) are.of_cookie

raised-named : (fid : Fid) (delta key : ℕ) → key ≡ fid.key + delta → key < 2 ^ 64 → raised fid delta ≡ Ok (record fid { key = key })
raised-named fid delta key is fits =
    ap (λ b. cond b (Ok (record fid { key = fid.key + delta })) (Err KeyOverflow)) (lt-ltb _ _ (omega arith))
    ∙ ap (λ k. Ok (record fid { key = k })) (sym is)

pub named_reads : (text : List ℕ) (fid : Fid) → Names text fid → fid_of text ≡ Ok fid
unfolding fid_of
named_reads text fid n =
    let rest : List ℕ = n.digits ++ n.end in
    let fits : fid.volume < 2 ^ 64 = omega (arith, n.volume) in
    let lacks : Lacks 44 (decimal fid.volume) = Lacks-digits 10 44 (lit≤ tt) _ (own.to _ (digits_decimal own fid.volume fits)) in
    let cut : cut_first 44 text ≡ Some (decimal fid.volume, rest) = ap (cut_first 44) n.whole ∙ cut_first-at 44 (decimal fid.volume) rest lacks in
    step _ _ _ (unwraps _ _ NoComma cut)
    ∙ step _ _ _ (unwraps _ _ BadVolume (number_below-decimal (2 ^ 32) fid.volume n.volume fits))
    ∙ step _ _ _ (tail-named n.digits n.end n.key fid.cookie n.delta n.are_digits n.is_delta)
    ∙ step _ _ _ (id-named fid.volume n.key fid.cookie n.digits n.are_digits)
    ∙ raised-named _ n.delta fid.key n.sum n.fits

bind_ok : {A B : Type 0} (r : Result A FidFault) (f : A → Result B FidFault) (y : B) → (r >>= f) ≡ Ok y → (x : A) × (r ≡ Ok x) × (f x ≡ Ok y)
bind_ok (Ok x) f y is = (x, refl, is)
bind_ok (Err e) f y is = absurd cc

same_ok : {A : Type 0} (x y : A) → ◌≡◌ {A = Result A FidFault} (Ok x) (Ok y) → x ≡ y
same_ok x y is = cc

some_unwrapped : {A : Type 0} (o : Option A) (e : FidFault) (x : A) → ok_or o e ≡ Ok x → o ≡ Some x
some_unwrapped None e x is = absurd cc
some_unwrapped (Some y) e x is = ap Some (same_ok y x is)

-- Behind a test that would have failed.
guarded : {A : Type 0} (b : Bool) (e : FidFault) (r : Result A FidFault) (x : A) → cond b (Err e) r ≡ Ok x → (b ≡ false) × (r ≡ Ok x)
guarded true e r x is = absurd cc
guarded false e r x is = (refl, is)

not_false : (b : Bool) → not b ≡ false → b ≡ true
not_false true is = refl
not_false false is = absurd cc

-- What stands behind the digits is a delta.
record EndsIn (rest : List ℕ) (tail : Tail) : Type 0 where
  end : List ℕ
  whole : rest ≡ tail.digits ++ end
  is_delta : IsDelta end tail.delta

tail_ends : (rest : List ℕ) (cut : Option Cut) (tail : Tail) → cut_last 95 rest ≡ cut → tail_of rest cut ≡ Ok tail → EndsIn rest tail
tail_ends rest None tail found is =
    subst (EndsIn rest) (same_ok _ tail is) (record {
      end = [];
      whole = sym (append-nil rest);
      is_delta = inl (refl, refl);
    })
tail_ends rest (Some cut) tail found is =
    let read = bind_ok _ _ tail is in
    let number = decimal-number_below (2 ^ 64) read.0 cut.1 (lit≤ tt) (some_unwrapped _ BadDelta _ read.1) in
    subst (EndsIn rest) (same_ok _ tail read.2) (record {
      end = 95 ∷ cut.1;
      whole = cut_last-whole 95 rest cut found;
      is_delta = inr (ap (λ t. 95 ∷ t) number.1, number.0);
    })

id_digits : (volume : ℕ) (digits : List ℕ) (fid : Fid) → id_of volume digits ≡ Ok fid → AreDigitsOf digits fid.key fid.cookie × (fid.volume ≡ volume)
id_digits volume digits fid is =
    let hex = guarded _ _ _ fid is in
    let long = guarded _ _ _ fid hex.1 in
    let short = guarded _ _ _ fid long.1 in
    let same = same_ok _ fid short.1 in (
      record {
        alone = AllDigits-from_hex digits (not_false _ hex.0);
        enough = ltb-false _ _ long.0;
        few = ltb-false _ _ short.0;
        of_key = ap (λ (f : Fid). f.key) same;
        of_cookie = ap (λ (f : Fid). f.cookie) same;
      },
      sym (ap (λ (f : Fid). f.volume) same),
    )

under : {A : Type 0} (b : Bool) (x y : A) (e : FidFault) → cond b (Ok x) (Err e) ≡ Ok y → (b ≡ true) × (x ≡ y)
under true x y e is = (refl, same_ok x y is)
under false x y e is = absurd cc

raised_sum : (fid new : Fid) (delta : ℕ) → raised fid delta ≡ Ok new → (fid.key + delta < 2 ^ 64) × (record fid { key = fid.key + delta } ≡ new)
raised_sum fid new delta is = let u = under _ _ new KeyOverflow is in (ltb-true _ _ u.0, u.1)

named : (text : List ℕ) (cut : Cut) (volume : ℕ) (tail : Tail) (id fid : Fid) → text ≡ cut.0 ++ (44 ∷ cut.1)
    → (volume < 2 ^ 32) × (cut.0 ≡ decimal volume) → EndsIn cut.1 tail
    → AreDigitsOf tail.digits id.key id.cookie × (id.volume ≡ volume)
    → (id.key + tail.delta < 2 ^ 64) × (record id { key = id.key + tail.delta } ≡ fid) → Names text fid
named text cut volume tail id fid whole number ends digits sum =
    subst (Names text) sum.1 (record {
      key = id.key;
      delta = tail.delta;
      digits = tail.digits;
      end = ends.end;
      whole = whole
          ∙ ap (λ t. t ++ (44 ∷ cut.1)) (number.1 ∙ ap decimal (sym digits.1))
          ∙ ap (λ t. decimal id.volume ++ (44 ∷ t)) ends.whole;
      volume = subst (λ v. v < 2 ^ 32) (sym digits.1) number.0;
      are_digits = digits.0;
      is_delta = ends.is_delta;
      sum = refl;
      fits = sum.0;
    })

pub read_names : (text : List ℕ) (fid : Fid) → fid_of text ≡ Ok fid → Names text fid
unfolding fid_of
read_names text fid is =
    let cut = bind_ok _ _ fid is in
    let volume = bind_ok _ _ fid cut.2 in
    let tail = bind_ok _ _ fid volume.2 in
    let id = bind_ok _ _ fid tail.2 in
    named text cut.0 volume.0 tail.0 id.0 fid
    (cut_first-whole 44 text cut.0 (some_unwrapped _ NoComma _ cut.1))
    (decimal-number_below (2 ^ 32) volume.0 cut.0.0 (lit≤ tt) (some_unwrapped _ BadVolume _ volume.1))
    (tail_ends cut.0.1 _ tail.0 refl tail.1)
    (id_digits volume.0 tail.0.digits id.0 id.1)
    (raised_sum id.0 fid tail.0.delta id.2)

pub found_names : (text : List ℕ) (r : Result Fid FidFault) → r ≡ fid_of text → IfOk r (Names text)
found_names text (Ok fid) is = read_names text fid (sym is)
found_names text (Err e) is = tt
