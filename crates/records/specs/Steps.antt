-- A message with the value of one field more.
use Rattle.std.specs.Prelude.{ℕ, List, Some, true, false, ◌==◌, if◌then◌else◌}
use Rattle.records.specs.Messages.{NotificationText, EventFieldsText}

-- A notification with one text more.
abbrev pub notification_with_text : ℕ → List ℕ → NotificationText → NotificationText
notification_with_text number text n = record {
  old_entry = if number == 1 then Some text else n.old_entry;
  new_entry = if number == 2 then Some text else n.new_entry;
  new_parent = if number == 4 then text else n.new_parent;
  old_is_last = if number == 1 then true else if number == 2 then false else n.old_is_last;
}

-- An event with one text more.
abbrev pub event_with_text : ℕ → List ℕ → EventFieldsText → EventFieldsText
event_with_text number text e = record {
  directory = if number == 1 then text else e.directory;
  notification = if number == 2 then text else e.notification;
}
