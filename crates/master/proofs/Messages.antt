-- What one field more makes of a message.
use Rattle.std.proofs.Common.{◌≡◌, ℕ, List, [], ◌∷◌, ◌++◌, Option, Some, None, Bool, true, false, cond, eqb, ◌&&◌, append-nil, ◌⊎◌, inl, inr, Bor, refl, sym, ap, ◌∙◌}
use Rattle.proto_wire.specs.declared.field.Value.{Value}
use Rattle.proto_wire.specs.declared.field.Value.TheVariants as values
use Rattle.proto_wire.specs.Field.{ValueText, Varint, Bytes, FieldText, value_text}
use Rattle.std.specs.Prelude.{option_to_list}
use Rattle.std.specs.List.{list_all}
use Rattle.std.specs.Option.{option_or}
use Rattle.std.specs.Result.{result_err}
use Rattle.proto_wire.specs.Taken.{varint_of, bytes_of, messages_at}
use Rattle.proto_wire.proofs.Seen.{number_takes, text_takes, number_stays, text_stays, messages_at-more}
use Rattle.master.specs.VolumeText.{volume_in, volume_with, volume_at, is_good_text}
use Rattle.master.specs.HeartbeatText.{first_fault, seen_in, seen_with, heartbeat_in, heartbeat_with_number, heartbeat_with_text}

-- A field of a number and a value
abbrev pub field_with : ℕ → ValueText → FieldText
field_with number value = record { number = number; value = value }

-- A field more, by what it does to the message
pub takes : {S : Type 0} (made_of : List FieldText → S) (step : S → S) (before : List FieldText) (old new : S) (field taken : FieldText) → new ≡ step old → (step (made_of before) ≡ made_of (before ++ taken ∷ [])) → field ≡ taken → old ≡ made_of before → new ≡ made_of (before ++ field ∷ [])
takes made_of step before old new field taken stepped more same is = stepped ∙ ap step is ∙ more ∙ ap (λ f. made_of (before ++ f ∷ [])) (sym same)

-- A value that is no number and no text
pub is_fixed : (v : Value) → ((x : ℕ) × (v ≡ values.Fixed64 x)) ⊎ ((x : ℕ) × (v ≡ values.Fixed32 x)) → (varint_of (value_text v) ≡ None) × (bytes_of (value_text v) ≡ None)
is_fixed v (inl fixed) = (ap (λ w. varint_of (value_text w)) fixed.1, ap (λ w. bytes_of (value_text w)) fixed.1)
is_fixed v (inr fixed) = (ap (λ w. varint_of (value_text w)) fixed.1, ap (λ w. bytes_of (value_text w)) fixed.1)

-- A value that is no number
pub is_no_number : (v : Value) → ((x : Bor (List ℕ)) × (v ≡ values.Bytes x)) ⊎ (((x : ℕ) × (v ≡ values.Fixed64 x)) ⊎ ((x : ℕ) × (v ≡ values.Fixed32 x))) → varint_of (value_text v) ≡ None
is_no_number v (inl text) = ap (λ w. varint_of (value_text w)) text.1
is_no_number v (inr fixed) = (is_fixed v fixed).0

-- VolumeInformationMessage
pub volume_number : (before : List FieldText) (number value : ℕ) → volume_with number value (volume_in before) ≡ volume_in (before ++ field_with number (Varint value) ∷ [])
volume_number before number value = λ i. record {
  id = number_takes 1 number value before i;
  size = number_takes 2 number value before i;
  placement = number_takes 3 number value before i;
  read_only = number_takes 4 number value before i;
  ttl = number_takes 5 number value before i;
}

pub volume_stays : (before : List FieldText) (field : FieldText) → varint_of field.value ≡ None → volume_in before ≡ volume_in (before ++ field ∷ [])
volume_stays before field no_number = λ i. record {
  id = number_stays 1 before field no_number i;
  size = number_stays 2 before field no_number i;
  placement = number_stays 3 before field no_number i;
  read_only = number_stays 4 before field no_number i;
  ttl = number_stays 5 before field no_number i;
}

first_fault-push : (texts : List (List ℕ)) (text : List ℕ) → first_fault (texts ++ text ∷ []) ≡ option_or (first_fault texts) (result_err (volume_at text))
first_fault-push [] text = elim (result_err (volume_at text)) as (λ o. option_or o None ≡ o) [ None ↦ refl | Some fault ↦ refl ]
first_fault-push (t ∷ ts) text =
    ap (option_or (result_err (volume_at t))) (first_fault-push ts text)
    ∙ elim (result_err (volume_at t)) as (λ o. option_or o (option_or (first_fault ts) (result_err (volume_at text))) ≡ option_or (option_or o (first_fault ts)) (result_err (volume_at text))) [ None ↦ refl | Some fault ↦ refl ]

all_good-push : (texts : List (List ℕ)) (text : List ℕ) → list_all is_good_text (texts ++ text ∷ []) ≡ (list_all is_good_text texts && is_good_text text)
all_good-push [] text = elim (is_good_text text) as (λ b. (b && true) ≡ b) [ true ↦ refl | false ↦ refl ]
all_good-push (t ∷ ts) text =
    ap (λ b. is_good_text t && b) (all_good-push ts text)
    ∙ elim (is_good_text t) as (λ b. (b && (list_all is_good_text ts && is_good_text text)) ≡ ((b && list_all is_good_text ts) && is_good_text text)) [ true ↦ refl | false ↦ refl ]

seen-push : (texts : List (List ℕ)) (text : List ℕ) → seen_with text (seen_in texts) ≡ seen_in (texts ++ text ∷ [])
seen-push texts text = λ i. record { fault = sym (first_fault-push texts text) i; are_good = sym (all_good-push texts text) i }

append_none : {X : Type 0} (xs : List X) → xs ≡ xs ++ []
append_none xs = sym (append-nil xs)

seen_takes : (number : ℕ) (text : List ℕ) (before : List FieldText) → cond (eqb number 7) (seen_with text (seen_in (messages_at 7 before))) (seen_in (messages_at 7 before)) ≡ seen_in (messages_at 7 (before ++ field_with number (Bytes text) ∷ []))
seen_takes number text before =
    elim (eqb number 7) as (λ b. cond b (seen_with text (seen_in (messages_at 7 before))) (seen_in (messages_at 7 before)) ≡ seen_in (messages_at 7 before ++ option_to_list (cond b (Some text) None))) [
      | true ↦ seen-push (messages_at 7 before) text
      | false ↦ ap seen_in (append_none (messages_at 7 before))
    ]
    ∙ ap seen_in (sym (messages_at-more 7 before (field_with number (Bytes text))))

none_chosen : (b : Bool) (o : Option (List ℕ)) → o ≡ None → None ≡ cond b o None
none_chosen true o none = sym none
none_chosen false o none = refl

seen_stays : (before : List FieldText) (field : FieldText) → bytes_of field.value ≡ None → seen_in (messages_at 7 before) ≡ seen_in (messages_at 7 (before ++ field ∷ []))
seen_stays before field none =
    ap seen_in (append_none (messages_at 7 before)
    ∙ ap (λ (o : Option (List ℕ)). messages_at 7 before ++ option_to_list o) (none_chosen (eqb field.number 7) (bytes_of field.value) none)
    ∙ sym (messages_at-more 7 before field))

-- Heartbeat
pub heartbeat_number : (before : List FieldText) (number value : ℕ) → heartbeat_with_number number value (heartbeat_in before) ≡ heartbeat_in (before ++ field_with number (Varint value) ∷ [])
heartbeat_number before number value =
    let field : FieldText = field_with number (Varint value) in
    λ i. record {
      id = text_stays 1 before field refl i;
      public = text_stays 2 before field refl i;
      data_center = text_stays 3 before field refl i;
      rack = text_stays 4 before field refl i;
      room = number_takes 5 number value before i;
      greatest = number_takes 6 number value before i;
      seen = seen_stays before field refl i;
    }

pub heartbeat_text : (before : List FieldText) (number : ℕ) (text : List ℕ) → heartbeat_with_text number text (heartbeat_in before) ≡ heartbeat_in (before ++ field_with number (Bytes text) ∷ [])
heartbeat_text before number text =
    let field : FieldText = field_with number (Bytes text) in
    λ i. record {
      id = text_takes 1 number text before i;
      public = text_takes 2 number text before i;
      data_center = text_takes 3 number text before i;
      rack = text_takes 4 number text before i;
      room = number_stays 5 before field refl i;
      greatest = number_stays 6 before field refl i;
      seen = seen_takes number text before i;
    }

pub heartbeat_stays : (before : List FieldText) (field : FieldText) → varint_of field.value ≡ None → bytes_of field.value ≡ None → heartbeat_in before ≡ heartbeat_in (before ++ field ∷ [])
heartbeat_stays before field no_number no_text = λ i. record {
  id = text_stays 1 before field no_text i;
  public = text_stays 2 before field no_text i;
  data_center = text_stays 3 before field no_text i;
  rack = text_stays 4 before field no_text i;
  room = number_stays 5 before field no_number i;
  greatest = number_stays 6 before field no_number i;
  seen = seen_stays before field no_text i;
}
