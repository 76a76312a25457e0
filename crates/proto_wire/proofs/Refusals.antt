-- Each refusal comes exactly in its case.
use Rattle.std.proofs.Common.{◌≡◌, ◌≢◌, ◌⊎◌, ℕ, zero, suc, ◌+◌, ◌-◌, ◌*◌, ◌/◌, ◌%◌, ◌^◌, ◌<◌, ◌≤◌, Bool, true, false, cond, ltb, leb, eqb, ◌&&◌, List, [], ◌∷◌, length, drop, take, Result, Ok, Err, refl, sym, ap, subst, ◌∙◌, arith, inl, inr}
use Rattle.std.specs.Int.{Width, w32, w64, byte_len, from_le_bytes}
use Rattle.std.proofs.lemmas.Bool.{lt-ltb, le-ltb, ltb-true, ltb-false, leb-true, le-leb, eqb-true, eqb-false, cond-true, cond-false, and_parts, and_from, false_from_ne_true}
use Rattle.proto_wire.specs.declared.fault.WireFault.{WireFault}
use Rattle.proto_wire.specs.declared.fault.WireFault.TheVariants.{Truncated, BadVarint, BadTag, BadWireType}
use Rattle.proto_wire.specs.declared.wire_type.WireType.{WireType}
use Rattle.proto_wire.specs.declared.wire_type.WireType.TheVariants as types
use Rattle.proto_wire.specs.WireType.{code_of}
use Rattle.proto_wire.specs.Text.{IsFieldNumber}
use Rattle.proto_wire.specs.Field.{ValueText, Varint, Fixed64, Bytes, Fixed32, FieldText, IsVarint, ◌>>=◌, number_within, varint_at, fixed_at, bytes_at, value_at, field_at}
use Rattle.proto_wire.specs.Refusal.{GoesOn, IsVarintFault, IsShort, IsValueFault, varint, fixed64, count, bytes_short, fixed32, unread, IsRefused}
use Rattle.proto_wire.specs.Refusal as refusal
use Rattle.proto_wire.proofs.Grammar.{IsBytes, chosen, bytes_behind, takes_within, again_within, varint_takes, varint_again}

abbrev failed : {A : Type 0} → WireFault → Result A WireFault
failed fault = Err fault

err_is : {A : Type 0} (d f : WireFault) → failed {A = A} d ≡ failed f → d ≡ f
err_is d f e = cc

-- a step that failed, or the one behind it
pub bind_err : {A B : Type 0} (read : Result A WireFault) (f : A → Result B WireFault) (fault : WireFault) → (read >>= f) ≡ Err fault
    → (read ≡ Err fault) ⊎ ((x : A) × (read ≡ Ok x) × (f x ≡ Err fault))
bind_err {A} {B} (Ok x) f fault e = inr (x, refl, e)
bind_err {A} {B} (Err d) f fault e = inl (ap (λ (g : WireFault). failed {A = A} g) (err_is {A = B} d fault e))

-- ---- Numbers

-- the cases of a number of so many bytes
abbrev FaultWithin : ℕ → WireFault → List ℕ → Type 0
FaultWithin most Truncated bytes = (length bytes < most) × GoesOn bytes
FaultWithin most BadVarint bytes = (most ≤ length bytes) × GoesOn (take most bytes)
FaultWithin most BadTag bytes = ⊥
FaultWithin most BadWireType bytes = ⊥

FaultWithin-more : (most b : ℕ) (fault : WireFault) (bytes : List ℕ) → 128 ≤ b → FaultWithin most fault bytes → FaultWithin (suc most) fault (b ∷ bytes)
FaultWithin-more most b Truncated bytes large rest = (omega (arith, rest.0), (large, rest.1))
FaultWithin-more most b BadVarint bytes large rest = (omega (arith, rest.0), (large, rest.1))
FaultWithin-more most b BadTag bytes large rest = rest
FaultWithin-more most b BadWireType bytes large rest = rest

fails_within : (most : ℕ) (bytes : List ℕ) (fault : WireFault) → number_within most bytes ≡ Err fault → FaultWithin most fault bytes
fails_within zero bytes fault e = subst (λ (f : WireFault). FaultWithin 0 f bytes) (err_is {A = ℕ × List ℕ} BadVarint fault e) (omega arith, tt)
fails_within (suc most) [] fault e = subst (λ (f : WireFault). FaultWithin (suc most) f []) (err_is {A = ℕ × List ℕ} Truncated fault e) (omega arith, tt)
fails_within (suc most) (b ∷ bytes) fault e =
    elim (chosen (ltb b 128) (Ok (b, bytes)) (number_within most bytes >>= λ high. Ok (b - 128 + 128 * high.0, high.1)) (Err fault) e) [
      | inl w ↦ absurd (let bad = w.1 in cc)
      | inr w ↦ elim (bind_err (number_within most bytes) (λ high. Ok (b - 128 + 128 * high.0, high.1)) fault w.1) [
        | inl read ↦ FaultWithin-more most b fault bytes (ltb-false b 128 w.0) (fails_within most bytes fault read)
        | inr a ↦ absurd (let bad = a.2 in cc)
      ]
    ]

faults_within : (most : ℕ) (bytes : List ℕ) (fault : WireFault) → FaultWithin most fault bytes → number_within most bytes ≡ Err fault
faults_within zero bytes Truncated is = absurd (omega (arith, is.0))
faults_within zero bytes BadVarint is = refl
faults_within (suc most) [] Truncated is = refl
faults_within (suc most) [] BadVarint is = absurd (omega (arith, is.0))
faults_within (suc most) (b ∷ bytes) Truncated is =
    cond-false _ _ _ (le-ltb b 128 is.1.0) ∙ ap (λ (r : Result (ℕ × List ℕ) WireFault). r >>= λ high. Ok (b - 128 + 128 * high.0, high.1)) (faults_within most bytes Truncated (omega (arith, is.0), is.1.1))
faults_within (suc most) (b ∷ bytes) BadVarint is =
    cond-false _ _ _ (le-ltb b 128 is.1.0) ∙ ap (λ (r : Result (ℕ × List ℕ) WireFault). r >>= λ high. Ok (b - 128 + 128 * high.0, high.1)) (faults_within most bytes BadVarint (omega (arith, is.0), is.1.1))
faults_within most bytes BadTag is = absurd is
faults_within most bytes BadWireType is = absurd is

to_varint_fault : (fault : WireFault) (bytes : List ℕ) → FaultWithin 10 fault bytes → IsVarintFault fault bytes
to_varint_fault Truncated bytes is = is
to_varint_fault BadVarint bytes is = inl is
to_varint_fault BadTag bytes is = is
to_varint_fault BadWireType bytes is = is

-- a test that failed
holds_err : {A : Type 0} (b : Bool) (d fault : WireFault) (x : A) → cond b (Ok x) (Err d) ≡ Err fault → (b ≡ false) × (d ≡ fault)
holds_err true d fault x e = absurd cc
holds_err {A} false d fault x e = (refl, err_is {A = A} d fault e)

pub varint_fails : (bytes : List ℕ) (fault : WireFault) → IsBytes bytes → varint_at bytes ≡ Err fault → IsVarintFault fault bytes
unfolding varint_at
varint_fails bytes fault fits e =
    elim (bind_err (number_within 10 bytes) (λ n. cond (ltb n.0 (2 ^ 64)) (Ok n) (Err BadVarint)) fault e) [
      | inl read ↦ to_varint_fault fault bytes (fails_within 10 bytes fault read)
      | inr a ↦
          let g = holds_err (ltb a.0.0 (2 ^ 64)) BadVarint fault a.0 a.2 in
          let front = takes_within 10 bytes a.0 fits a.1 in
          let passes : 2 ^ 64 ≤ a.0.0 = ltb-false _ _ g.0 in
          subst (λ (f : WireFault). IsVarintFault f bytes) g.1 (inr (record { front = front.0; rest = a.0.1; number = a.0.0; parts = front.1; spelled = front.2; short = front.3; passes = passes }))
    ]

pub varint_faults : (bytes : List ℕ) (fault : WireFault) → IsVarintFault fault bytes → varint_at bytes ≡ Err fault
unfolding varint_at
varint_faults bytes Truncated is = rw (faults_within 10 bytes Truncated is) refl
varint_faults bytes BadVarint is =
    elim is [
      | inl long ↦ rw (faults_within 10 bytes BadVarint long) refl
      | inr large ↦
          ap (λ (t : List ℕ). number_within 10 t >>= λ n. cond (ltb n.0 (2 ^ 64)) (Ok n) (Err BadVarint)) large.parts
          ∙ rw (again_within 10 large.front large.number large.rest large.spelled large.short, le-ltb large.number (2 ^ 64) large.passes) refl
    ]
varint_faults bytes BadTag is = absurd is
varint_faults bytes BadWireType is = absurd is

-- ---- Fixed values and bytes

guard_err : {A : Type 0} (b : Bool) (d fault : WireFault) (x : A) → cond b (Err d) (Ok x) ≡ Err fault → (b ≡ true) × (d ≡ fault)
guard_err {A} true d fault x e = (refl, err_is {A = A} d fault e)
guard_err false d fault x e = absurd cc

fixed_fails : (w : Width) (bytes : List ℕ) (fault : WireFault) → fixed_at w bytes ≡ Err fault → (fault ≡ Truncated) × (length bytes < byte_len w)
unfolding fixed_at
fixed_fails w bytes fault e =
    let g = guard_err (ltb (length bytes) (byte_len w)) Truncated fault (from_le_bytes w (take (byte_len w) bytes), drop (byte_len w) bytes) e in
    (sym g.1, ltb-true _ _ g.0)

fixed_faults : (w : Width) (bytes : List ℕ) → length bytes < byte_len w → fixed_at w bytes ≡ Err Truncated
unfolding fixed_at
fixed_faults w bytes few = cond-true _ _ _ (lt-ltb _ _ few)

bytes_fail : (bytes : List ℕ) (fault : WireFault) → IsBytes bytes → bytes_at bytes ≡ Err fault → IsVarintFault fault bytes ⊎ ((fault ≡ Truncated) × IsShort bytes)
unfolding bytes_at
bytes_fail bytes fault fits e =
    elim (bind_err (varint_at bytes) (λ n. cond (ltb (length n.1) n.0) (Err Truncated) (Ok (take n.0 n.1, drop n.0 n.1))) fault e) [
      | inl read ↦ inl (varint_fails bytes fault fits read)
      | inr a ↦
          let g = guard_err (ltb (length a.0.1) a.0.0) Truncated fault (take a.0.0 a.0.1, drop a.0.0 a.0.1) a.2 in
          let front = varint_takes bytes a.0 fits a.1 in
          let fewer : length a.0.1 < a.0.0 = ltb-true _ _ g.0 in
          inr (sym g.1, record { front = front.0; rest = a.0.1; count = a.0.0; parts = front.1; counts = front.2; fewer = fewer })
    ]

short_faults : (bytes : List ℕ) → IsShort bytes → bytes_at bytes ≡ Err Truncated
unfolding bytes_at
short_faults bytes is =
    ap (λ (t : List ℕ). varint_at t >>= λ n. cond (ltb (length n.1) n.0) (Err Truncated) (Ok (take n.0 n.1, drop n.0 n.1))) is.parts
    ∙ rw (varint_again is.front is.count is.rest is.counts, lt-ltb (length is.rest) is.count is.fewer) refl

counted_faults : (bytes : List ℕ) (fault : WireFault) → IsVarintFault fault bytes → bytes_at bytes ≡ Err fault
unfolding bytes_at
counted_faults bytes fault is = rw (varint_faults bytes fault is) refl

-- ---- Values

-- where what is behind a step can't fail, the step did
step_err : {A B : Type 0} (read : Result A WireFault) (f : A → B) (fault : WireFault) → (read >>= λ x. Ok (f x)) ≡ Err fault → read ≡ Err fault
step_err (Ok x) f fault e = absurd cc
step_err {A} {B} (Err d) f fault e = ap (λ (g : WireFault). failed {A = A} g) (err_is {A = B} d fault e)

other_kind : (kind : ℕ) → kind < 8 → (kind ≡ 0 → ⊥) → (kind ≡ 1 → ⊥) → (kind ≡ 2 → ⊥) → (kind ≡ 5 → ⊥) → (kind ≡ 3) ⊎ (kind ≡ 4) ⊎ (kind ≡ 6) ⊎ (kind ≡ 7)
other_kind kind below no0 no1 no2 no5 = grind arith

value_fails : (kind : ℕ) (bytes : List ℕ) (fault : WireFault) → kind < 8 → IsBytes bytes → value_at kind bytes ≡ Err fault → IsValueFault kind fault bytes
unfolding value_at
value_fails kind bytes fault below fits e =
    elim (chosen (eqb kind 0) _ _ _ e) [
      | inl w ↦ varint (eqb-true kind 0 w.0) (varint_fails bytes fault fits (step_err (varint_at bytes) (λ n. (Varint n.0, n.1)) fault w.1))
      | inr v ↦ elim (chosen (eqb kind 1) _ _ _ v.1) [
        | inl w ↦ let few = fixed_fails w64 bytes fault (step_err (fixed_at w64 bytes) (λ n. (Fixed64 n.0, n.1)) fault w.1) in fixed64 (eqb-true kind 1 w.0) few.0 few.1
        | inr u ↦ elim (chosen (eqb kind 2) _ _ _ u.1) [
          | inl w ↦ elim (bytes_fail bytes fault fits (step_err (bytes_at bytes) (λ b. (Bytes b.0, b.1)) fault w.1)) [
            | inl bad ↦ count (eqb-true kind 2 w.0) bad
            | inr few ↦ bytes_short (eqb-true kind 2 w.0) few.0 few.1
          ]
          | inr s ↦ elim (chosen (eqb kind 5) _ _ _ s.1) [
            | inl w ↦ let few = fixed_fails w32 bytes fault (step_err (fixed_at w32 bytes) (λ n. (Fixed32 n.0, n.1)) fault w.1) in fixed32 (eqb-true kind 5 w.0) few.0 few.1
            | inr w ↦
                unread (other_kind kind below (eqb-false kind 0 v.0) (eqb-false kind 1 u.0) (eqb-false kind 2 s.0) (eqb-false kind 5 w.0))
                (sym (err_is {A = ValueText × List ℕ} BadWireType fault w.1))
          ]
        ]
      ]
    ]

unread_faults : (kind : ℕ) (bytes : List ℕ) → (kind ≡ 3) ⊎ (kind ≡ 4) ⊎ (kind ≡ 6) ⊎ (kind ≡ 7) → value_at kind bytes ≡ Err BadWireType
unfolding value_at
unread_faults kind bytes other =
    elim other [
      | inl e ↦ rw e refl
      | inr others ↦ elim others [
        | inl e ↦ rw e refl
        | inr others ↦ elim others [
          | inl e ↦ rw e refl
          | inr e ↦ rw e refl
        ]
      ]
    ]

-- No field has a wire type of that number.
pub no_type_unread : (kind : ℕ) (bytes : List ℕ) → ((wire_type : WireType) → kind ≢ code_of wire_type) → value_at kind bytes ≡ Err BadWireType
unfolding value_at
no_type_unread kind bytes none =
    let other : (n : ℕ) → kind ≢ n → eqb kind n ≡ false = λ n apart. false_from_ne_true (eqb kind n) (λ same. apart (eqb-true kind n same)) in
    rw (other 0 (none types.Varint), other 1 (none types.Fixed64), other 2 (none types.Bytes), other 5 (none types.Fixed32)) refl

value_faults : (kind : ℕ) (bytes : List ℕ) (fault : WireFault) → IsValueFault kind fault bytes → value_at kind bytes ≡ Err fault
unfolding value_at
value_faults kind bytes fault (varint is bad) = rw (is, varint_faults bytes fault bad) refl
value_faults kind bytes fault (fixed64 is e few) = rw (is, fixed_faults w64 bytes few, e) refl
value_faults kind bytes fault (count is bad) = rw (is, counted_faults bytes fault bad) refl
value_faults kind bytes fault (bytes_short is e few) = rw (is, short_faults bytes few, e) refl
value_faults kind bytes fault (fixed32 is e few) = rw (is, fixed_faults w32 bytes few, e) refl
value_faults kind bytes fault (unread other e) = unread_faults kind bytes other ∙ ap (λ (f : WireFault). failed {A = ValueText × List ℕ} f) (sym e)

-- ---- Fields

abbrev in_range : ℕ → Bool
in_range n = ltb 0 n && leb n 536870911

in_range-true : (n : ℕ) → in_range n ≡ true → IsFieldNumber n
in_range-true n e = let parts = and_parts (ltb 0 n) (leb n 536870911) e in record { low = ltb-true 0 n parts.0; high = leb-true n 536870911 parts.1 }

true-in_range : (n : ℕ) → IsFieldNumber n → in_range n ≡ true
true-in_range n is = and_from _ _ (lt-ltb 0 n is.low) (le-leb n 536870911 is.high)

pub field_fails : (bytes : List ℕ) (fault : WireFault) → IsBytes bytes → field_at bytes ≡ Err fault → IsRefused fault bytes
unfolding field_at
field_fails bytes fault fits e =
    elim (bind_err (varint_at bytes) (λ tag. cond (in_range (tag.0 / 8)) (value_at (tag.0 % 8) tag.1 >>= λ value. Ok (record { number = tag.0 / 8; value = value.0 }, value.1)) (Err BadTag)) fault e) [
      | inl read ↦ refusal.tag (varint_fails bytes fault fits read)
      | inr a ↦
          let n = a.0.0 in
          let rest = a.0.1 in
          let front = varint_takes bytes a.0 fits a.1 in
          elim (chosen (in_range (n / 8)) (value_at (n % 8) rest >>= λ value. Ok (record { number = n / 8; value = value.0 }, value.1)) (Err BadTag) (Err fault) a.2) [
            | inl w ↦
                let failing = step_err (value_at (n % 8) rest) (λ value. (record { number = n / 8; value = value.0 }, value.1)) fault w.1 in
                let below : n % 8 < 8 = omega arith in
                let is : n ≡ n / 8 * 8 + n % 8 = omega arith in
                refusal.value front.0 rest (n / 8) (n % 8) front.1 (subst (λ (k : ℕ). IsVarint front.0 k) is front.2) (in_range-true (n / 8) w.0) below
                (value_fails (n % 8) rest fault below (bytes_behind bytes front.0 rest front.1 fits) failing)
            | inr w ↦
                refusal.field_number front.0 rest n front.1 front.2 (λ is. let yes = true-in_range (n / 8) is in let no = w.0 in cc)
                (sym (err_is {A = FieldText × List ℕ} BadTag fault w.1))
          ]
    ]

pub field_faults : (bytes : List ℕ) (fault : WireFault) → IsRefused fault bytes → field_at bytes ≡ Err fault
unfolding field_at
field_faults bytes fault (refusal.tag is) = rw (varint_faults bytes fault is) refl
field_faults bytes fault (refusal.field_number front rest n parts is out e) =
    ap field_at parts
    ∙ rw (varint_again front n rest is, false_from_ne_true (in_range (n / 8)) (λ yes. out (in_range-true (n / 8) yes)), e) refl
field_faults bytes fault (refusal.value front rest n kind parts is numbered below failing) =
    let number-is : (n * 8 + kind) / 8 ≡ n = omega arith in
    let kind-is : (n * 8 + kind) % 8 ≡ kind = omega arith in
    ap field_at parts
    ∙ rw (varint_again front (n * 8 + kind) rest is, number-is, kind-is, true-in_range n numbered, value_faults kind rest fault failing) refl
