-- The fields of a text, some of which have been seen and others are left, and what one more changes.
use Rattle.std.proofs.Common.{◌≡◌, Bool, true, false, cond, eqb, List, [], ◌∷◌, ◌++◌, Result, Ok, Err, refl, sym, ap, ◌∙◌, append_assoc}
use Rattle.std.specs.Prelude.{ℕ, Option, None, Some, unwrap_or, filter_map}
use Rattle.std.specs.List.{last_or, cons_option}
use Rattle.std.specs.Option.{option_or, option_to_list}
use Rattle.std.proofs.lemmas.List.Elements.{filter_map-append}
use Rattle.proto_wire.specs.Taken.{varint_of, bytes_of, number_in, text_in, last_number, last_message, last_text, messages_at}
use Rattle.proto_wire.specs.declared.fault.WireFault.{WireFault}
use Rattle.proto_wire.specs.Field.{◌>>=◌, Varint, Bytes, FieldText, with_first}

-- Those seen before those left
abbrev pub with_seen : List FieldText → Result (List FieldText) WireFault → Result (List FieldText) WireFault
with_seen seen left = left >>= λ fields. Ok (seen ++ fields)

pub with_seen-none : (left : Result (List FieldText) WireFault) → left ≡ with_seen [] left
with_seen-none (Ok fields) = refl
with_seen-none (Err fault) = refl

pub with_seen-more : (seen : List FieldText) (field : FieldText) (left : Result (List FieldText) WireFault) → with_seen seen (with_first field left) ≡ with_seen (seen ++ field ∷ []) left
with_seen-more seen field (Ok fields) = ap Ok (sym (append_assoc seen (field ∷ []) fields))
with_seen-more seen field (Err fault) = refl

-- The last of some values with one more that may be there
last_or-maybe : {X : Type 0} (before : Option X) (xs : List X) (next : Option X) → last_or before (xs ++ option_to_list next) ≡ option_or next (last_or before xs)
last_or-maybe before [] None = refl
last_or-maybe before [] (Some x) = refl
last_or-maybe before (x ∷ xs) next = last_or-maybe (Some x) xs next

filter_map_one : {X Y : Type 0} (h : X → Option Y) (x : X) → filter_map h (x ∷ []) ≡ option_to_list (h x)
filter_map_one h x = elim (h x) as (λ o. cons_option o [] ≡ option_to_list o) [ None ↦ refl | Some y ↦ refl ]

pub last-more : {Y : Type 0} (h : FieldText → Option Y) (fields : List FieldText) (field : FieldText) → last_or None (filter_map h (fields ++ field ∷ [])) ≡ option_or (h field) (last_or None (filter_map h fields))
last-more h fields field =
    ap (last_or None) (filter_map-append h fields (field ∷ []) ∙ ap (λ back. filter_map h fields ++ back) (filter_map_one h field))
    ∙ last_or-maybe None (filter_map h fields) (h field)

unwrap-or : {Y : Type 0} (o before : Option Y) (d : Y) → unwrap_or (option_or o before) d ≡ unwrap_or o (unwrap_or before d)
unwrap-or None before d = refl
unwrap-or (Some y) before d = refl

pub last_number-more : (number : ℕ) (fields : List FieldText) (field : FieldText) → last_number number (fields ++ field ∷ []) ≡ unwrap_or (number_in number field) (last_number number fields)
last_number-more number fields field = ap (λ o. unwrap_or o 0) (last-more (number_in number) fields field) ∙ unwrap-or (number_in number field) _ 0

pub last_message-more : (number : ℕ) (fields : List FieldText) (field : FieldText) → last_message number (fields ++ field ∷ []) ≡ option_or (text_in number field) (last_message number fields)
last_message-more number fields field = last-more (text_in number) fields field

pub last_text-more : (number : ℕ) (fields : List FieldText) (field : FieldText) → last_text number (fields ++ field ∷ []) ≡ unwrap_or (text_in number field) (last_text number fields)
last_text-more number fields field = ap (λ o. unwrap_or o []) (last_message-more number fields field) ∙ unwrap-or (text_in number field) _ []

pub messages_at-more : (number : ℕ) (fields : List FieldText) (field : FieldText) → messages_at number (fields ++ field ∷ []) ≡ messages_at number fields ++ option_to_list (text_in number field)
messages_at-more number fields field = filter_map-append (text_in number) fields (field ∷ []) ∙ ap (λ back. messages_at number fields ++ back) (filter_map_one (text_in number) field)

-- ---- One more value

choose_some : {Y : Type 0} (b : Bool) (y d : Y) → cond b y d ≡ unwrap_or (cond b (Some y) None) d
choose_some true y d = refl
choose_some false y d = refl

choose_none : {Y : Type 0} (b : Bool) (o : Option Y) (d : Y) → o ≡ None → d ≡ unwrap_or (cond b o None) d
choose_none true o d none = ap (λ p. unwrap_or p d) (sym none)
choose_none false o d none = refl

skip_none : {Y : Type 0} (b : Bool) (o before : Option Y) → o ≡ None → before ≡ option_or (cond b o None) before
skip_none true o before none = ap (λ p. option_or p before) (sym none)
skip_none false o before none = refl

take_some : {Y : Type 0} (b : Bool) (y : Y) (before : Option Y) → cond b (Some y) before ≡ option_or (cond b (Some y) None) before
take_some true y before = refl
take_some false y before = refl

-- A number is taken where its field has this number, and bytes are.
pub number_takes : (k number value : ℕ) (before : List FieldText) → cond (eqb number k) value (last_number k before) ≡ last_number k (before ++ record { number = number; value = Varint value } ∷ [])
number_takes k number value before = choose_some (eqb number k) value _ ∙ sym (last_number-more k before (record { number = number; value = Varint value }))

pub text_takes : (k number : ℕ) (text : List ℕ) (before : List FieldText) → cond (eqb number k) text (last_text k before) ≡ last_text k (before ++ record { number = number; value = Bytes text } ∷ [])
text_takes k number text before = choose_some (eqb number k) text _ ∙ sym (last_text-more k before (record { number = number; value = Bytes text }))

pub message_takes : (k number : ℕ) (text : List ℕ) (before : List FieldText) → cond (eqb number k) (Some text) (last_message k before) ≡ last_message k (before ++ record { number = number; value = Bytes text } ∷ [])
message_takes k number text before = take_some (eqb number k) text _ ∙ sym (last_message-more k before (record { number = number; value = Bytes text }))

-- A value of another kind changes nothing.
pub number_stays : (k : ℕ) (before : List FieldText) (field : FieldText) → varint_of field.value ≡ None → last_number k before ≡ last_number k (before ++ field ∷ [])
number_stays k before field none = choose_none (eqb field.number k) (varint_of field.value) _ none ∙ sym (last_number-more k before field)

pub text_stays : (k : ℕ) (before : List FieldText) (field : FieldText) → bytes_of field.value ≡ None → last_text k before ≡ last_text k (before ++ field ∷ [])
text_stays k before field none = choose_none (eqb field.number k) (bytes_of field.value) _ none ∙ sym (last_text-more k before field)

pub message_stays : (k : ℕ) (before : List FieldText) (field : FieldText) → bytes_of field.value ≡ None → last_message k before ≡ last_message k (before ++ field ∷ [])
message_stays k before field none = skip_none (eqb field.number k) (bytes_of field.value) _ none ∙ sym (last_message-more k before field)
