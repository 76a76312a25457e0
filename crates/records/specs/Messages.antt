-- The messages inside a record's text, each with what it takes of its own fields: the last value of a field that may
-- stand once. Of an earlier one, and of a field that isn't known, only the form is read.
use Rattle.std.specs.Prelude.{ℕ, List, Option, None, Some, is_some, unwrap_or, filter_map, Bool, true, false, if◌then◌else◌}
use Rattle.std.specs.List.{last_or}
use Rattle.proto_wire.specs.Field.{FieldText}
use Rattle.proto_wire.specs.Taken.{text_in, last_text, last_message}

-- Which of the two entries a field is: the old one, or the new one.
abbrev pub is_old_entry : FieldText → Option Bool
is_old_entry field =
    if is_some (text_in 1 field) then Some true else if is_some (text_in 2 field) then Some false else None

-- EventNotification's own fields, and whether the old entry stands behind the new one.
pub record NotificationText : Type 0 where
  pub old_entry : Option (List ℕ)
  pub new_entry : Option (List ℕ)
  pub new_parent : List ℕ
  pub old_is_last : Bool

-- What these fields give as a notification.
abbrev pub notification_in : List FieldText → NotificationText
notification_in fields = record {
  old_entry = last_message 1 fields;
  new_entry = last_message 2 fields;
  new_parent = last_text 4 fields;
  old_is_last = unwrap_or (last_or None (filter_map is_old_entry fields)) false;
}

-- SubscribeMetadataResponse's own fields. A missing notification is an empty one, which has no entries.
pub record EventFieldsText : Type 0 where
  pub directory : List ℕ
  pub notification : List ℕ

-- What these fields give as an event.
abbrev pub event_fields_in : List FieldText → EventFieldsText
event_fields_in fields = record { directory = last_text 1 fields; notification = last_text 2 fields }
