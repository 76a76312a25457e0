-- What a reader answers, by the grammar.
use Rattle.std.proofs.Common.{◌≡◌, ℕ, ◌<◌, List, [], ◌∷◌, ◌++◌, length, Option, Some, None, Result, Ok, Err, refl, sym, ap, subst, ◌∙◌, arith, inl, inr}
use Rattle.std.specs.Prelude.{◌↔◌, IfOk, IfErr, IfSome, OnSome, option_map}
use Rattle.proto_wire.specs.declared.fault.WireFault.{WireFault}
use Rattle.proto_wire.specs.declared.field.Field.{Field}
use Rattle.proto_wire.specs.Field.{FieldText, field_text, IsField, ◌>>=◌, field_at, with_first}
use Rattle.proto_wire.specs.Reading.{Gives, next_of, left_after, bytes_left, fields_left, TakesFirst, Passes, HasFault, AreBytes}
use Rattle.proto_wire.proofs.Grammar.{bind_ok, field_takes, field_again}
use Rattle.proto_wire.proofs.Fields.{field_shortens, fields_of-nil, fields_of-first, fields_of-fault}
use Rattle.proto_wire.proofs.Refusals.{bind_err, field_fails, field_faults}

abbrev Left : Type 0
Left = Result (List ℕ) WireFault

abbrev Answer : Type 0
Answer = Result (Option Field) WireFault

end_is : (old : Left) → next_of old ≡ Ok None → old ≡ Ok []
end_is (Err fault) e = absurd cc
end_is (Ok []) e = refl
end_is (Ok (b ∷ bytes)) e = let a = bind_ok (field_at (b ∷ bytes)) (λ found. Ok (Some found.0)) None e in absurd (let bad = a.2 in cc)

pub answers_end : (old : Left) (result : Answer) → Gives (option_map field_text) result (next_of old) → (result ≡ Ok None) ↔ (old ≡ Ok [])
answers_end old (Ok None) gives = (λ e. end_is old gives, λ e. refl)
answers_end old (Ok (Some field)) gives = (λ e. absurd cc, λ e. absurd (let end : next_of old ≡ Ok None = ap next_of e in cc))
answers_end old (Err fault) gives = (λ e. absurd cc, λ e. absurd (let end : next_of old ≡ Ok None = ap next_of e in cc))

passes : (old new : Left) (field : FieldText) → AreBytes old → next_of old ≡ Ok (Some field) → new ≡ left_after old → Passes old new field
passes (Err fault) new field bytes e left = absurd cc
passes (Ok []) new field bytes e left = absurd cc
passes (Ok (b ∷ bytes)) new field fits e left =
    let a = bind_ok (field_at (b ∷ bytes)) (λ found. Ok (Some found.0)) (Some field) e in
    let taken = field_takes (b ∷ bytes) a.0 fits a.1 in
    let same : a.0.0 ≡ field = let last = a.2 in cc in
    record {
      text = taken.0;
      rest = a.0.1;
      front = ap (λ (t : List ℕ). Ok t) taken.1;
      spelled = subst (λ (f : FieldText). IsField taken.0 f.number f.value) same taken.2;
      behind = left ∙ ap (λ (r : Result (FieldText × List ℕ) WireFault). r >>= λ found. Ok found.1) a.1;
    }

pub answers_found : (old new : Left) (result : Answer) → AreBytes old → Gives (option_map field_text) result (next_of old) → new ≡ left_after old
    → IfOk result (λ next. IfSome next (λ field. Passes old new (field_text field)))
answers_found old new (Ok None) bytes gives left = tt
answers_found old new (Ok (Some field)) bytes gives left = passes old new (field_text field) bytes gives left
answers_found old new (Err fault) bytes gives left = tt

at_front : (bytes rest : List ℕ) (field : FieldText) → field_at bytes ≡ Ok (field, rest) → (next_of (Ok bytes) ≡ Ok (Some field)) × (left_after (Ok bytes) ≡ Ok rest)
at_front [] rest field e = absurd (let shorter = field_shortens [] (field, rest) e in omega arith)
at_front (b ∷ bytes) rest field e =
    (ap (λ (r : Result (FieldText × List ℕ) WireFault). r >>= λ found. Ok (Some found.0)) e, ap (λ (r : Result (FieldText × List ℕ) WireFault). r >>= λ found. Ok found.1) e)

next_of-field : (text rest : List ℕ) (field : FieldText) → IsField text field.number field.value
    → (next_of (Ok (text ++ rest)) ≡ Ok (Some field)) × (left_after (Ok (text ++ rest)) ≡ Ok rest)
next_of-field text rest field spelled = at_front (text ++ rest) rest field (field_again text field.number field.value rest spelled)

pub answers_only : (old new : Left) (result : Answer) → Gives (option_map field_text) result (next_of old) → new ≡ left_after old
    → (text rest : List ℕ) (field : FieldText) → IsField text field.number field.value → old ≡ Ok (text ++ rest)
    → Gives (option_map field_text) result (Ok (Some field)) × (new ≡ Ok rest)
answers_only old new result gives left text rest field spelled e =
    let next = next_of-field text rest field spelled in
    (subst (λ (read : Result (Option FieldText) WireFault). Gives (option_map field_text) result read) (ap next_of e ∙ next.0) gives, left ∙ ap left_after e ∙ next.1)

fault_of : (old : Left) (fault : WireFault) → AreBytes old → next_of old ≡ Err fault → HasFault old fault
fault_of (Err met) fault bytes e = cc
fault_of (Ok []) fault bytes e = absurd cc
fault_of (Ok (b ∷ bytes)) fault fits e =
    elim (bind_err (field_at (b ∷ bytes)) (λ found. Ok (Some found.0)) fault e) [
      | inl read ↦ (omega arith, field_fails (b ∷ bytes) fault fits read)
      | inr a ↦ absurd (let bad = a.2 in cc)
    ]

of_fault : (old : Left) (fault : WireFault) → HasFault old fault → (next_of old ≡ Err fault) × (left_after old ≡ Err fault)
of_fault (Err met) fault has = (ap (λ (f : WireFault). Err f) has, ap (λ (f : WireFault). Err f) has)
of_fault (Ok []) fault has = absurd (omega (arith, has.0))
of_fault (Ok (b ∷ bytes)) fault has =
    let read = field_faults (b ∷ bytes) fault has.1 in
    (ap (λ (r : Result (FieldText × List ℕ) WireFault). r >>= λ found. Ok (Some found.0)) read, ap (λ (r : Result (FieldText × List ℕ) WireFault). r >>= λ found. Ok found.1) read)

pub answers_refused : (old : Left) (result : Answer) → AreBytes old → Gives (option_map field_text) result (next_of old)
    → (fault : WireFault) → (result ≡ Err fault) ↔ HasFault old fault
answers_refused old (Ok next) bytes gives fault = (λ e. absurd cc, λ has. absurd (let read = (of_fault old fault has).0 in cc))
answers_refused old (Err met) bytes gives fault =
    (λ e. fault_of old fault bytes (let same : met ≡ fault = cc in gives ∙ ap (λ (f : WireFault). Err f) same), λ has. let read = (of_fault old fault has).0 in cc)

failed_left : (old : Left) (fault : WireFault) → next_of old ≡ Err fault → left_after old ≡ Err fault
failed_left (Err met) fault e = let same : met ≡ fault = cc in ap (λ (f : WireFault). Err f) same
failed_left (Ok []) fault e = absurd cc
failed_left (Ok (b ∷ bytes)) fault e =
    elim (bind_err (field_at (b ∷ bytes)) (λ found. Ok (Some found.0)) fault e) [
      | inl read ↦ ap (λ (r : Result (FieldText × List ℕ) WireFault). r >>= λ found. Ok found.1) read
      | inr a ↦ absurd (let bad = a.2 in cc)
    ]

pub answers_failed : (old new : Left) (result : Answer) → Gives (option_map field_text) result (next_of old) → new ≡ left_after old → IfErr result (λ fault. new ≡ Err fault)
answers_failed old new (Ok next) gives left = tt
answers_failed old new (Err fault) gives left = left ∙ failed_left old fault gives

read_again : (old : Left) (field : FieldText) → next_of old ≡ Ok (Some field) → (bytes rest : List ℕ) × (old ≡ Ok bytes) × (field_at bytes ≡ Ok (field, rest)) × (left_after old ≡ Ok rest)
read_again (Err fault) field e = absurd cc
read_again (Ok []) field e = absurd cc
read_again (Ok (b ∷ bytes)) field e =
    let a = bind_ok (field_at (b ∷ bytes)) (λ found. Ok (Some found.0)) (Some field) e in
    let same : a.0.0 ≡ field = let last = a.2 in cc in
    (b ∷ bytes, a.0.1, refl, a.1 ∙ ap (λ (f : FieldText). Ok (f, a.0.1)) same, ap (λ (r : Result (FieldText × List ℕ) WireFault). r >>= λ found. Ok found.1) a.1)

pub answers_shorter : (old new : Left) (result : Answer) → Gives (option_map field_text) result (next_of old) → new ≡ left_after old
    → IfOk result (λ next. OnSome next (bytes_left new < bytes_left old))
answers_shorter old new (Ok None) gives left = tt
answers_shorter old new (Ok (Some field)) gives left =
    let read = read_again old (field_text field) gives in
    let shorter = field_shortens read.0 (field_text field, read.1) read.3 in
    let now : bytes_left new ≡ length read.1 = ap bytes_left (left ∙ read.4) in
    let before : bytes_left old ≡ length read.0 = ap bytes_left read.2 in
    omega arith
answers_shorter old new (Err fault) gives left = tt

first_fault : (old : Left) (fault : WireFault) → next_of old ≡ Err fault → fields_left old ≡ Err fault
first_fault (Err met) fault e = let same : met ≡ fault = cc in ap (λ (f : WireFault). Err f) same
first_fault (Ok []) fault e = absurd cc
first_fault (Ok (b ∷ bytes)) fault e =
    elim (bind_err (field_at (b ∷ bytes)) (λ found. Ok (Some found.0)) fault e) [
      | inl read ↦ fields_of-fault (b ∷ bytes) fault (omega arith) read
      | inr a ↦ absurd (let bad = a.2 in cc)
    ]

pub answers_first : (old new : Left) (result : Answer) → Gives (option_map field_text) result (next_of old) → new ≡ left_after old
    → TakesFirst result (fields_left old) (fields_left new)
answers_first old new (Ok None) gives left = ap fields_left (end_is old gives) ∙ fields_of-nil
answers_first old new (Ok (Some field)) gives left =
    let read = read_again old (field_text field) gives in
    ap fields_left read.2 ∙ fields_of-first read.0 read.1 (field_text field) read.3 ∙ ap (with_first (field_text field)) (sym (ap fields_left (left ∙ read.4)))
answers_first old new (Err fault) gives left = first_fault old fault gives
