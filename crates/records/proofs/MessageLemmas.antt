-- What one field more makes of a message.
use Rattle.std.proofs.Common.{◌≡◌, ℕ, List, [], ◌∷◌, ◌++◌, Option, None, Some, Bool, true, false, cond, eqb, refl, sym, ap, ◌∙◌}
use Rattle.proto_wire.specs.Field.{Bytes, FieldText}
use Rattle.std.specs.Prelude.{is_some, unwrap_or, filter_map}
use Rattle.std.specs.List.{last_or}
use Rattle.std.specs.Option.{option_or}
use Rattle.proto_wire.specs.Taken.{bytes_of}
use Rattle.proto_wire.proofs.Seen.{text_takes, message_takes, text_stays, message_stays, last-more}
use Rattle.records.specs.Messages.{notification_in, is_old_entry, event_fields_in}
use Rattle.records.specs.Steps.{notification_with_text, event_with_text}
use Rattle.entry.proofs.MessageLemmas.{field_with}

-- EventNotification
old_chosen : (a b : Bool) (text : List ℕ) (before : Option Bool) → cond a true (cond b false (unwrap_or before false)) ≡ unwrap_or (option_or (cond (is_some (cond a (Some text) None)) (Some true) (cond (is_some (cond b (Some text) None)) (Some false) None)) before) false
old_chosen true b text before = refl
old_chosen false true text before = refl
old_chosen false false text before = refl

old_skipped : (a b : Bool) (o : Option (List ℕ)) → o ≡ None → cond (is_some (cond a o None)) (Some true) (cond (is_some (cond b o None)) (Some false) None) ≡ None
old_skipped true true o none = ap (λ p. cond (is_some p) (Some true) (cond (is_some p) (Some false) None)) none
old_skipped true false o none = ap (λ p. cond (is_some p) (Some true) None) none
old_skipped false true o none = ap (λ p. cond (is_some p) (Some false) None) none
old_skipped false false o none = refl

pub notification_text : (before : List FieldText) (number : ℕ) (text : List ℕ) → notification_with_text number text (notification_in before) ≡ notification_in (before ++ field_with number (Bytes text) ∷ [])
notification_text before number text =
    let field : FieldText = field_with number (Bytes text) in
    let last : cond (eqb number 1) true (cond (eqb number 2) false (unwrap_or (last_or None (filter_map is_old_entry before)) false)) ≡ unwrap_or (last_or None (filter_map is_old_entry (before ++ field ∷ []))) false =
    old_chosen (eqb number 1) (eqb number 2) text (last_or None (filter_map is_old_entry before)) ∙ ap (λ o. unwrap_or o false) (sym (last-more is_old_entry before field)) in
    λ i. record {
      old_entry = message_takes 1 number text before i;
      new_entry = message_takes 2 number text before i;
      new_parent = text_takes 4 number text before i;
      old_is_last = last i;
    }

pub notification_stays : (before : List FieldText) (field : FieldText) → bytes_of field.value ≡ None → notification_in before ≡ notification_in (before ++ field ∷ [])
notification_stays before field no_text =
    let last : unwrap_or (last_or None (filter_map is_old_entry before)) false ≡ unwrap_or (last_or None (filter_map is_old_entry (before ++ field ∷ []))) false =
    ap (λ o. unwrap_or (option_or o (last_or None (filter_map is_old_entry before))) false) (sym (old_skipped (eqb field.number 1) (eqb field.number 2) (bytes_of field.value) no_text))
    ∙ ap (λ o. unwrap_or o false) (sym (last-more is_old_entry before field)) in
    λ i. record {
      old_entry = message_stays 1 before field no_text i;
      new_entry = message_stays 2 before field no_text i;
      new_parent = text_stays 4 before field no_text i;
      old_is_last = last i;
    }

-- SubscribeMetadataResponse
pub event_text : (before : List FieldText) (number : ℕ) (text : List ℕ) → event_with_text number text (event_fields_in before) ≡ event_fields_in (before ++ field_with number (Bytes text) ∷ [])
event_text before number text = λ i. record {
  directory = text_takes 1 number text before i;
  notification = text_takes 2 number text before i;
}

pub event_stays : (before : List FieldText) (field : FieldText) → bytes_of field.value ≡ None → event_fields_in before ≡ event_fields_in (before ++ field ∷ [])
event_stays before field no_text = λ i. record {
  directory = text_stays 1 before field no_text i;
  notification = text_stays 2 before field no_text i;
}
