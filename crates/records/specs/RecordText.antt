-- The text of a record: a message of the proto3 wire format, with one event a change.
use Rattle.std.specs.Prelude.{ℕ, List, ◌++◌, flat_map}
use Rattle.weed_base.specs.Path.{IsPath, text_of}
use Rattle.proto_wire.specs.Text.{varint_field, bytes_field, message_field}
use Rattle.entry.specs.EntryWriting.{entry_text, FitsEntry}
use Rattle.name_core.specs.declared.change.Change.{Change}
use Rattle.name_core.specs.declared.change.Change.TheVariants.{Put, Drop}
use Rattle.name_core.specs.declared.change.Record.{Record}
use Rattle.name_core.specs.Namespace.{path_of}
use Rattle.name_core.specs.RecordText.{directory_of, name_of}

-- EventNotification: a Put is a new entry alone, a Drop an old one that holds its name alone.
abbrev pub notification_text : Change → List ℕ
notification_text (Put path entry) = message_field 2 (entry_text (name_of path) entry)
notification_text (Drop path) = message_field 1 (bytes_field 1 (name_of path))

-- SubscribeMetadataResponse: the directory in which the change is, and what changed.
abbrev pub change_text : Change → List ℕ
change_text change = bytes_field 1 (text_of (directory_of (path_of change))) ++ message_field 2 (notification_text change)

-- Each change.
abbrev pub events_text : List Change → List ℕ
events_text changes = flat_map (λ change. message_field 2 (change_text change)) changes

-- LogEntry: the time, and each change.
abbrev pub record_text : Record → List ℕ
record_text r = varint_field 1 r.time ++ events_text r.changes

-- The numbers of a Put's entry fit their types.
abbrev pub HasFittingEntry : Change → Type 0
HasFittingEntry (Put path entry) = FitsEntry entry
HasFittingEntry (Drop path) = Unit {0}

-- What the types of a change say of it: every change of a program is so.
pub record FitsChange (change : Change) : Type 0 where
  pub path : IsPath (path_of change)
  pub entry : HasFittingEntry change
