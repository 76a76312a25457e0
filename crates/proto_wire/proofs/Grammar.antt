-- What is read is in the grammar, and what is in the grammar is read, whatever follows it.
use Rattle.std.proofs.Common.{◌≡◌, ◌⊎◌, ℕ, zero, suc, ◌+◌, ◌-◌, ◌*◌, ◌/◌, ◌%◌, ◌^◌, ◌<◌, ◌≤◌, Bool, true, false, cond, ltb, leb, eqb, ◌&&◌, List, [], ◌∷◌, ◌++◌, length, get_or, take, drop, Result, Ok, Err, refl, sym, ap, subst, ◌∙◌, append_assoc, arith, inl, inr}
use Rattle.std.specs.Int.{Width, w32, w64, byte_len, from_le_bytes, to_le_bytes}
use Rattle.std.proofs.lemmas.Bool.{lt-ltb, le-ltb, ltb-true, ltb-false, leb-true, le-leb, eqb-true, cases_lt, cond-false, and_parts, and_from}
use Rattle.std.proofs.lemmas.List.{take_at, drop_at, take-append-drop, length-append, length-take, get_or-append-add, get_or-take, get_or_past, append_cancel_right}
use Rattle.std.proofs.lemmas.Nat.{le_bytes_4, le_bytes_8, from_le_bytes-to_le_bytes_4, from_le_bytes-to_le_bytes_8}
use Rattle.proto_wire.specs.declared.fault.WireFault.{WireFault}
use Rattle.proto_wire.specs.declared.fault.WireFault.TheVariants.{Truncated, BadVarint, BadTag}
use Rattle.proto_wire.specs.Text.{IsFieldNumber}
use Rattle.proto_wire.specs.Field.{ValueText, Varint, Fixed64, Bytes, Fixed32, FieldText, StandsFor, IsVarint, kind_of, IsLengthAndBytes, IsValue, IsField, ◌>>=◌, number_within, varint_at, fixed_at, bytes_at, value_at, field_at}

abbrev pub IsBytes : List ℕ → Type 0
IsBytes bytes = (i : ℕ) → get_or bytes i 0 < 256

abbrev done : {A : Type 0} → A → Result A WireFault
done x = Ok x

pub ok_is : {A : Type 0} (x y : A) → done x ≡ done y → x ≡ y
ok_is x y e = cc

-- the value of a step that did not fail
pub bind_ok : {A B : Type 0} (read : Result A WireFault) (f : A → Result B WireFault) (y : B) → (read >>= f) ≡ Ok y → (x : A) × (read ≡ Ok x) × (f x ≡ Ok y)
bind_ok (Ok x) f y e = (x, refl, e)
bind_ok (Err fault) f y e = absurd cc

-- a test that did not fail
pub guard_ok : {A : Type 0} (b : Bool) (fault : WireFault) (x y : A) → cond b (Err fault) (Ok x) ≡ Ok y → (b ≡ false) × (x ≡ y)
guard_ok true fault x y e = absurd cc
guard_ok false fault x y e = (refl, cc)

pub holds_ok : {A : Type 0} (b : Bool) (fault : WireFault) (read : Result A WireFault) (y : A) → cond b read (Err fault) ≡ Ok y → (b ≡ true) × (read ≡ Ok y)
holds_ok true fault read y e = (refl, e)
holds_ok false fault read y e = absurd cc

-- which way a test went
pub chosen : {A : Type 0} (b : Bool) (x y z : A) → cond b x y ≡ z → ((b ≡ true) × (x ≡ z)) ⊎ ((b ≡ false) × (y ≡ z))
chosen true x y z e = inl (refl, e)
chosen false x y z e = inr (refl, e)

pub bytes_behind : (bytes text rest : List ℕ) → bytes ≡ text ++ rest → IsBytes bytes → IsBytes rest
bytes_behind bytes text rest parts fits i = let at : get_or bytes (length text + i) 0 ≡ get_or rest i 0 = rw parts (get_or-append-add text rest i 0) in omega (arith, at, fits (length text + i))

-- two parts of the front, one behind the other
pub behind : (bytes front rest text left : List ℕ) → bytes ≡ front ++ rest → rest ≡ text ++ left → bytes ≡ front ++ text ++ left
behind bytes front rest text left parts more = parts ∙ ap (λ (t : List ℕ). front ++ t) more ∙ sym (append_assoc front text left)

-- ---- Numbers

pub StandsFor-more : (b : ℕ) (front : List ℕ) (n high : ℕ) → 128 ≤ b → b < 256 → n + 128 ≡ b + 128 * high → StandsFor front high → StandsFor (b ∷ front) n
StandsFor-more b [] n high large fits is rest = absurd rest
StandsFor-more b (c ∷ front) n high large fits is rest = (large, fits, high, is, rest)

pub takes_within : (most : ℕ) (bytes : List ℕ) (x : ℕ × List ℕ) → IsBytes bytes → number_within most bytes ≡ Ok x
    → (front : List ℕ) × (bytes ≡ front ++ x.1) × StandsFor front x.0 × (length front ≤ most)
takes_within zero bytes x fits e = absurd cc
takes_within (suc most) [] x fits e = absurd cc
takes_within (suc most) (b ∷ bytes) x fits e =
    elim (chosen (ltb b 128) (Ok (b, bytes)) (number_within most bytes >>= λ high. Ok (b - 128 + 128 * high.0, high.1)) (Ok x) e) [
      | inl w ↦
          let small : b < 128 = ltb-true b 128 w.0 in
          subst (λ (y : ℕ × List ℕ). (front : List ℕ) × (b ∷ bytes ≡ front ++ y.1) × StandsFor front y.0 × (length front ≤ suc most)) (ok_is (b, bytes) x w.1)
          (b ∷ [], refl, (small, refl), omega arith)
      | inr w ↦
          let large : 128 ≤ b = ltb-false b 128 w.0 in
          let byte : b < 256 = fits 0 in
          let a = bind_ok (number_within most bytes) (λ high. Ok (b - 128 + 128 * high.0, high.1)) x w.1 in
          let rest = takes_within most bytes a.0 (bytes_behind (b ∷ bytes) (b ∷ []) bytes refl fits) a.1 in
          subst (λ (y : ℕ × List ℕ). (front : List ℕ) × (b ∷ bytes ≡ front ++ y.1) × StandsFor front y.0 × (length front ≤ suc most)) (ok_is (b - 128 + 128 * a.0.0, a.0.1) x a.2)
          (b ∷ rest.0, ap (λ (t : List ℕ). b ∷ t) rest.1, StandsFor-more b rest.0 (b - 128 + 128 * a.0.0) a.0.0 large byte (omega arith) rest.2, omega (arith, rest.3))
    ]

pub again_within : (most : ℕ) (front : List ℕ) (n : ℕ) (rest : List ℕ) → StandsFor front n → length front ≤ most → number_within most (front ++ rest) ≡ Ok (n, rest)
again_within most [] n rest stands short = absurd stands
again_within zero (b ∷ front) n rest stands short = absurd (omega arith)
again_within (suc most) (b ∷ []) n rest stands short = rw (lt-ltb b 128 stands.0, stands.1) refl
again_within (suc most) (b ∷ c ∷ front) n rest stands short =
    let high = again_within most (c ∷ front) stands.2 rest stands.4 (omega arith) in
    let is : b - 128 + 128 * stands.2 ≡ n = omega (arith, stands.0, stands.3) in
    cond-false _ _ _ (le-ltb b 128 stands.0) ∙ ap (λ (r : Result (ℕ × List ℕ) WireFault). r >>= λ high. Ok (b - 128 + 128 * high.0, high.1)) high ∙ ap (λ (m : ℕ). Ok (m, rest)) is

pub varint_takes : (bytes : List ℕ) (x : ℕ × List ℕ) → IsBytes bytes → varint_at bytes ≡ Ok x → (front : List ℕ) × (bytes ≡ front ++ x.1) × IsVarint front x.0
unfolding varint_at
varint_takes bytes x fits e =
    let a = bind_ok (number_within 10 bytes) (λ n. cond (ltb n.0 (2 ^ 64)) (Ok n) (Err BadVarint)) x e in
    let g = holds_ok (ltb a.0.0 (2 ^ 64)) BadVarint (Ok a.0) x a.2 in
    let front = takes_within 10 bytes a.0 fits a.1 in
    let below : a.0.0 < 2 ^ 64 = ltb-true _ _ g.0 in
    subst (λ (y : ℕ × List ℕ). (front : List ℕ) × (bytes ≡ front ++ y.1) × IsVarint front y.0) (ok_is a.0 x g.1)
    (front.0, front.1, record { spelled = front.2; short = front.3; fits = below })

pub varint_again : (front : List ℕ) (n : ℕ) (rest : List ℕ) → IsVarint front n → varint_at (front ++ rest) ≡ Ok (n, rest)
unfolding varint_at
varint_again front n rest varint =
    rw (again_within 10 front n rest varint.spelled varint.short, lt-ltb n (2 ^ 64) varint.fits) refl

-- ---- Fixed values

IsBytes-take : (n : ℕ) (bytes : List ℕ) → IsBytes bytes → IsBytes (take n bytes)
IsBytes-take n bytes fits i =
    elim (cases_lt i n) [
      | inl lt ↦ rw (get_or-take n bytes i 0 lt) (fits i)
      | inr le ↦ rw (get_or_past (take n bytes) i 0 (omega (arith, length-take n bytes))) (omega arith)
    ]

pub record IsWide (w : Width) (limit : ℕ) : Type 0 where
  pub len : (n : ℕ) → length (to_le_bytes w n) ≡ byte_len w
  pub back : (bytes : List ℕ) → length bytes ≡ byte_len w → IsBytes bytes → to_le_bytes w (from_le_bytes w bytes) ≡ bytes
  pub again : (n : ℕ) → n < limit → from_le_bytes w (to_le_bytes w n) ≡ n
  pub below : (bytes : List ℕ) → IsBytes bytes → from_le_bytes w bytes < limit

pub wide32 : IsWide w32 (2 ^ 32)
wide32 = record {
  len = λ n. refl;
  back = λ bytes len fits. le_bytes_4 bytes _ len fits refl;
  again = λ n lt. from_le_bytes-to_le_bytes_4 n lt;
  below = λ bytes fits. omega (arith, fits 0, fits 1, fits 2, fits 3);
}

pub wide64 : IsWide w64 (2 ^ 64)
wide64 = record {
  len = λ n. refl;
  back = λ bytes len fits. le_bytes_8 bytes _ len fits refl;
  again = λ n lt. from_le_bytes-to_le_bytes_8 n lt;
  below = λ bytes fits. omega (arith, fits 0, fits 1, fits 2, fits 3, fits 4, fits 5, fits 6, fits 7);
}

pub fixed_takes : (w : Width) (limit : ℕ) (wide : IsWide w limit) (bytes : List ℕ) (x : ℕ × List ℕ) → IsBytes bytes → fixed_at w bytes ≡ Ok x
    → (bytes ≡ to_le_bytes w x.0 ++ x.1) × (x.0 < limit)
unfolding fixed_at
fixed_takes w limit wide bytes x fits e =
    let g = guard_ok (ltb (length bytes) (byte_len w)) Truncated (from_le_bytes w (take (byte_len w) bytes), drop (byte_len w) bytes) x e in
    let long : byte_len w ≤ length bytes = ltb-false _ _ g.0 in
    let front : to_le_bytes w (from_le_bytes w (take (byte_len w) bytes)) ≡ take (byte_len w) bytes = wide.back (take (byte_len w) bytes) (omega (arith, length-take (byte_len w) bytes)) (IsBytes-take (byte_len w) bytes fits) in
    let whole : bytes ≡ to_le_bytes w (from_le_bytes w (take (byte_len w) bytes)) ++ drop (byte_len w) bytes = sym (take-append-drop (byte_len w) bytes) ∙ ap (λ (t : List ℕ). t ++ drop (byte_len w) bytes) (sym front) in
    subst (λ (y : ℕ × List ℕ). (bytes ≡ to_le_bytes w y.0 ++ y.1) × (y.0 < limit)) g.1 (whole, wide.below (take (byte_len w) bytes) (IsBytes-take (byte_len w) bytes fits))

pub fixed_again : (w : Width) (limit : ℕ) (wide : IsWide w limit) (n : ℕ) (rest : List ℕ) → n < limit → fixed_at w (to_le_bytes w n ++ rest) ≡ Ok (n, rest)
unfolding fixed_at
fixed_again w limit wide n rest lt =
    let len = wide.len n in
    let long : ltb (length (to_le_bytes w n ++ rest)) (byte_len w) ≡ false = le-ltb _ _ (omega (arith, length-append (to_le_bytes w n) rest)) in
    rw (long, take_at (to_le_bytes w n) rest (byte_len w) len, drop_at (to_le_bytes w n) rest (byte_len w) len, wide.again n lt) refl

-- ---- Bytes

pub bytes_takes : (bytes : List ℕ) (x : List ℕ × List ℕ) → IsBytes bytes → bytes_at bytes ≡ Ok x → (text : List ℕ) × (bytes ≡ text ++ x.1) × IsLengthAndBytes text x.0
unfolding bytes_at
bytes_takes bytes x fits e =
    let a = bind_ok (varint_at bytes) (λ n. cond (ltb (length n.1) n.0) (Err Truncated) (Ok (take n.0 n.1, drop n.0 n.1))) x e in
    let n = a.0.0 in
    let rest = a.0.1 in
    let g = guard_ok (ltb (length rest) n) Truncated (take n rest, drop n rest) x a.2 in
    let long : n ≤ length rest = ltb-false _ _ g.0 in
    let front = varint_takes bytes a.0 fits a.1 in
    let len : n ≡ length (take n rest) = omega (arith, length-take n rest) in
    let counts : IsVarint front.0 (length (take n rest)) = subst (λ (k : ℕ). IsVarint front.0 k) len front.2 in
    let whole = behind bytes front.0 rest (take n rest) (drop n rest) front.1 (sym (take-append-drop n rest)) in
    subst (λ (y : List ℕ × List ℕ). (text : List ℕ) × (bytes ≡ text ++ y.1) × IsLengthAndBytes text y.0) g.1
    (front.0 ++ take n rest, whole, record { front = front.0; counts = counts; parts = refl })

pub bytes_again : (text bytes rest : List ℕ) → IsLengthAndBytes text bytes → bytes_at (text ++ rest) ≡ Ok (bytes, rest)
unfolding bytes_at
bytes_again text bytes rest spelled =
    let whole : text ++ rest ≡ spelled.front ++ (bytes ++ rest) = ap (λ (t : List ℕ). t ++ rest) spelled.parts ∙ append_assoc spelled.front bytes rest in
    let long : ltb (length (bytes ++ rest)) (length bytes) ≡ false = le-ltb _ _ (omega (arith, length-append bytes rest)) in
    ap bytes_at whole ∙ rw (varint_again spelled.front (length bytes) (bytes ++ rest) spelled.counts, long, take_at bytes rest (length bytes) refl, drop_at bytes rest (length bytes) refl) refl

-- ---- Values

-- a value at the front, of this wire type
pub record TakesValue (kind : ℕ) (bytes : List ℕ) (value : ValueText) (rest : List ℕ) : Type 0 where
  pub text : List ℕ
  pub parts : bytes ≡ text ++ rest
  pub spelled : IsValue text value
  pub kind_is : kind_of value ≡ kind

pub value_takes : (kind : ℕ) (bytes : List ℕ) (x : ValueText × List ℕ) → IsBytes bytes → value_at kind bytes ≡ Ok x → TakesValue kind bytes x.0 x.1
unfolding value_at
value_takes kind bytes x fits e =
    let P : ValueText × List ℕ → Type 0 = λ y. TakesValue kind bytes y.0 y.1 in
    elim (chosen (eqb kind 0) _ _ _ e) [
      | inl w ↦
          let is = eqb-true kind 0 w.0 in
          let a = bind_ok (varint_at bytes) (λ n. Ok (Varint n.0, n.1)) x w.1 in
          let t = varint_takes bytes a.0 fits a.1 in
          subst P (ok_is (Varint a.0.0, a.0.1) x a.2) (record { text = t.0; parts = t.1; spelled = t.2; kind_is = sym is })
      | inr v ↦ elim (chosen (eqb kind 1) _ _ _ v.1) [
        | inl w ↦
            let is = eqb-true kind 1 w.0 in
            let a = bind_ok (fixed_at w64 bytes) (λ n. Ok (Fixed64 n.0, n.1)) x w.1 in
            let t = fixed_takes w64 (2 ^ 64) wide64 bytes a.0 fits a.1 in
            subst P (ok_is (Fixed64 a.0.0, a.0.1) x a.2) (record { text = to_le_bytes w64 a.0.0; parts = t.0; spelled = (t.1, refl); kind_is = sym is })
        | inr u ↦ elim (chosen (eqb kind 2) _ _ _ u.1) [
          | inl w ↦
              let is = eqb-true kind 2 w.0 in
              let a = bind_ok (bytes_at bytes) (λ b. Ok (Bytes b.0, b.1)) x w.1 in
              let t = bytes_takes bytes a.0 fits a.1 in
              subst P (ok_is (Bytes a.0.0, a.0.1) x a.2) (record { text = t.0; parts = t.1; spelled = t.2; kind_is = sym is })
          | inr s ↦ elim (chosen (eqb kind 5) _ _ _ s.1) [
            | inl w ↦
                let is = eqb-true kind 5 w.0 in
                let a = bind_ok (fixed_at w32 bytes) (λ n. Ok (Fixed32 n.0, n.1)) x w.1 in
                let t = fixed_takes w32 (2 ^ 32) wide32 bytes a.0 fits a.1 in
                subst P (ok_is (Fixed32 a.0.0, a.0.1) x a.2) (record { text = to_le_bytes w32 a.0.0; parts = t.0; spelled = (t.1, refl); kind_is = sym is })
            | inr w ↦ absurd (let bad = w.1 in cc)
          ]
        ]
      ]
    ]

pub value_again : (text : List ℕ) (value : ValueText) (rest : List ℕ) → IsValue text value → value_at (kind_of value) (text ++ rest) ≡ Ok (value, rest)
unfolding value_at
value_again text (Varint n) rest spelled = rw (varint_again text n rest spelled) refl
value_again text (Fixed64 n) rest spelled = rw (spelled.1, fixed_again w64 (2 ^ 64) wide64 n rest spelled.0) refl
value_again text (Bytes bytes) rest spelled = rw (bytes_again text bytes rest spelled) refl
value_again text (Fixed32 n) rest spelled = rw (spelled.1, fixed_again w32 (2 ^ 32) wide32 n rest spelled.0) refl

-- ---- Fields

kind_below : (value : ValueText) → kind_of value < 8
kind_below (Varint n) = omega arith
kind_below (Fixed64 n) = omega arith
kind_below (Bytes bytes) = omega arith
kind_below (Fixed32 n) = omega arith

joined : (tag payload : List ℕ) (number : ℕ) (value : ValueText) → IsFieldNumber number → IsVarint tag (number * 8 + kind_of value) → IsValue payload value
    → IsField (tag ++ payload) number value
joined tag payload number value numbered tagged valued = record { tag = tag; payload = payload; parts = refl; numbered = numbered; tagged = tagged; valued = valued }

pub field_takes : (bytes : List ℕ) (x : FieldText × List ℕ) → IsBytes bytes → field_at bytes ≡ Ok x → (text : List ℕ) × (bytes ≡ text ++ x.1) × IsField text x.0.number x.0.value
unfolding field_at
field_takes bytes x fits e =
    let P : FieldText × List ℕ → Type 0 = λ y. (text : List ℕ) × (bytes ≡ text ++ y.1) × IsField text y.0.number y.0.value in
    let a = bind_ok (varint_at bytes) (λ tag. cond (ltb 0 (tag.0 / 8) && leb (tag.0 / 8) 536870911) (value_at (tag.0 % 8) tag.1 >>= λ value. Ok (record { number = tag.0 / 8; value = value.0 }, value.1)) (Err BadTag)) x e in
    let tag = a.0.0 in
    let rest = a.0.1 in
    let g = holds_ok (ltb 0 (tag / 8) && leb (tag / 8) 536870911) BadTag (value_at (tag % 8) rest >>= λ value. Ok (record { number = tag / 8; value = value.0 }, value.1)) x a.2 in
    let range = and_parts (ltb 0 (tag / 8)) (leb (tag / 8) 536870911) g.0 in
    let numbered : IsFieldNumber (tag / 8) = record { low = ltb-true 0 (tag / 8) range.0; high = leb-true (tag / 8) 536870911 range.1 } in
    let b = bind_ok (value_at (tag % 8) rest) (λ value. Ok (record { number = tag / 8; value = value.0 }, value.1)) x g.1 in
    let front = varint_takes bytes a.0 fits a.1 in
    let value = value_takes (tag % 8) rest b.0 (bytes_behind bytes front.0 rest front.1 fits) b.1 in
    let made : FieldText × List ℕ = (record { number = tag / 8; value = b.0.0 }, b.0.1) in
    let whole = behind bytes front.0 rest value.text b.0.1 front.1 value.parts in
    let tag-is : tag ≡ tag / 8 * 8 + kind_of b.0.0 = omega (arith, value.kind_is) in
    let tagged : IsVarint front.0 (tag / 8 * 8 + kind_of b.0.0) = subst (λ (k : ℕ). IsVarint front.0 k) tag-is front.2 in
    subst P (ok_is made x b.2) (front.0 ++ value.text, whole, joined front.0 value.text (tag / 8) b.0.0 numbered tagged value.spelled)

pub field_again : (text : List ℕ) (number : ℕ) (value : ValueText) (rest : List ℕ) → IsField text number value → field_at (text ++ rest) ≡ Ok (record { number = number; value = value }, rest)
unfolding field_at
field_again text number value rest field =
    let whole : text ++ rest ≡ field.tag ++ (field.payload ++ rest) = ap (λ (t : List ℕ). t ++ rest) field.parts ∙ append_assoc field.tag field.payload rest in
    let kind = kind_below value in
    let number-is : (number * 8 + kind_of value) / 8 ≡ number = omega arith in
    let kind-is : (number * 8 + kind_of value) % 8 ≡ kind_of value = omega arith in
    let range : (ltb 0 number && leb number 536870911) ≡ true = and_from _ _ (lt-ltb 0 number field.numbered.low) (le-leb number 536870911 field.numbered.high) in
    ap field_at whole ∙ rw (varint_again field.tag (number * 8 + kind_of value) (field.payload ++ rest) field.tagged, number-is, kind-is, range, value_again field.payload value rest field.valued) refl

-- No field's text begins another's.
pub one_field : (a b x y : List ℕ) (m n : ℕ) (u v : ValueText) → IsField a m u → IsField b n v → a ++ x ≡ b ++ y → (a ≡ b) × (m ≡ n) × (u ≡ v)
one_field a b x y m n u v first second same =
    let read : done (record { number = m; value = u }, x) ≡ done (record { number = n; value = v }, y) = sym (field_again a m u x first) ∙ ap field_at same ∙ field_again b n v y second in
    let e = ok_is _ _ read in
    let rest : x ≡ y = ap (λ (p : FieldText × List ℕ). p.1) e in
    (append_cancel_right a b x (same ∙ ap (λ (t : List ℕ). b ++ t) (sym rest)), ap (λ (p : FieldText × List ℕ). p.0.number) e, ap (λ (p : FieldText × List ℕ). p.0.value) e)
