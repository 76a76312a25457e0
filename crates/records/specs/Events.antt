-- How the text of an event is read, and which changes it means. Of a message its own fields are read first, then the
-- messages that it takes, in the order of the bytes.
use Rattle.std.specs.declared.alloc.AllocError.{AllocError}
use Rattle.std.specs.Prelude.{◌≡◌, ℕ, List, [], ◌∷◌, ◌++◌, length, Option, None, Some, option_map, option_and_then, is_none, IsSome, Result, Ok, Err, Bool, true, false, ◌==◌, if◌then◌else◌}
use Rattle.weed_base.specs.Path.{parts_in}
use Rattle.weed_base.specs.PathFaults.{read_fault, join_fault}
use Rattle.weed_base.specs.PathOrder.{same_path}
use Rattle.proto_wire.specs.declared.fault.WireFault.{WireFault}
use Rattle.proto_wire.specs.Field.{◌>>=◌, fields_of}
use Rattle.entry.specs.EntryParts.{EntryParts}
use Rattle.entry.specs.EntryReading.{entry_at, is_entry, entry_of}
use Rattle.name_core.specs.declared.change.Change.{Change}
use Rattle.name_core.specs.declared.change.Change.TheVariants.{Put, Drop}
use Rattle.records.specs.Messages.{notification_in, event_fields_in}
use Rattle.name_core.specs.Namespace.{path_of}
use Rattle.records.specs.declared.event_parts.EntriesParts.{EntriesParts}
use Rattle.records.specs.declared.event_parts.EventParts.{EventParts}
use Rattle.records.specs.declared.meaning.EventChanges.{EventChanges}
use Rattle.records.specs.declared.meaning.EventChanges.TheVariants.{One, Two}

-- The entry of a text, where there is one.
abbrev pub entry_if_there : Option (List ℕ) → Result (Option EntryParts) WireFault
entry_if_there None = Ok None
entry_if_there (Some text) = entry_at text >>= λ entry. Ok (Some entry)

-- The entries of a notification.
abbrev pub entries_at : Bool → Option (List ℕ) → Option (List ℕ) → Result EntriesParts WireFault
entries_at false old_text new_text = do
  old ← entry_if_there old_text
  new ← entry_if_there new_text
  Ok (record { old_entry = old; new_entry = new })
entries_at true old_text new_text = do
  new ← entry_if_there new_text
  old ← entry_if_there old_text
  Ok (record { old_entry = old; new_entry = new })

-- SubscribeMetadataResponse. A missing notification is an empty one, which has no entries.
abbrev pub event_at : List ℕ → Result EventParts WireFault
event_at text = do
  outer ← fields_of text
  let event = event_fields_in outer
  inner ← fields_of event.notification
  let notification = notification_in inner
  entries ← entries_at notification.old_is_last notification.old_entry notification.new_entry
  Ok (record { fields = event; notification = notification; entries = entries })

-- ---- What it means, where it means anything

-- The directory of the new entry: the new parent's, where one is given.
abbrev pub directory_of_new : EventParts → List ℕ
directory_of_new event = if length event.notification.new_parent == 0 then event.fields.directory else event.notification.new_parent

-- The path that a text is read as, where it is one.
abbrev pub path_read : List ℕ → Option (List (List ℕ))
path_read text = if is_none (read_fault text) then Some (parts_in text) else None

-- The path of a name in a directory, where it is one.
abbrev pub path_with : List ℕ → List (List ℕ) → Option (List (List ℕ))
path_with name top = if is_none (join_fault top name) then Some (top ++ name ∷ []) else None

-- The same of the text of the directory.
abbrev pub path_in : List ℕ → List ℕ → Option (List (List ℕ))
path_in directory name = option_and_then (path_with name) (path_read directory)

-- The path of an entry, where its values are good and that is one.
abbrev pub place_of : List ℕ → EntryParts → Option (List (List ℕ))
place_of directory entry = if is_entry entry then path_in directory entry.fields.name else None

-- The Drop of an old entry.
abbrev pub drop_of : List ℕ → EntryParts → Option Change
drop_of directory old = option_map Drop (place_of directory old)

-- The Put of a new entry.
abbrev pub put_of : List ℕ → EntryParts → Option Change
put_of directory new = option_map (λ path. Put path (entry_of new)) (place_of directory new)

-- A Put that leaves the old path, if it is another one.
abbrev pub moved_to : List (List ℕ) → Change → List Change
moved_to path put = if same_path path (path_of put) then put ∷ [] else Drop path ∷ put ∷ []

-- The changes of an event with an old entry, a new one or both; without one it means nothing.
abbrev pub entries_mean : List ℕ → List ℕ → Option EntryParts → Option EntryParts → Option (List Change)
entries_mean from to None None = None
entries_mean from to None (Some new) = option_map (λ put. put ∷ []) (put_of to new)
entries_mean from to (Some old) None = option_map (λ drop. drop ∷ []) (drop_of from old)
entries_mean from to (Some old) (Some new) = option_and_then (λ path. option_map (moved_to path) (put_of to new)) (place_of from old)

-- The changes of an event.
abbrev pub event_means : EventParts → Option (List Change)
event_means event = entries_mean event.fields.directory (directory_of_new event) event.entries.old_entry event.entries.new_entry

-- The changes of an event as a list.
abbrev pub listed : EventChanges → List Change
listed (One change) = change ∷ []
listed (Two change other) = change ∷ other ∷ []

-- An answer is what is meant. Memory runs out only where that is something.
abbrev pub FindsMeant : {X : Type 0} → Option X → Result (Option X) AllocError → Type 0
FindsMeant meant (Ok found) = found ≡ meant
FindsMeant meant (Err failed) = IsSome meant

-- An answer is what an event means. Memory runs out only where that is something.
abbrev pub FindsChanges : Option (List Change) → Result (Option EventChanges) AllocError → Type 0
FindsChanges meant (Ok found) = option_map listed found ≡ meant
FindsChanges meant (Err failed) = (first : Change) × (more : List Change) × (meant ≡ Some (first ∷ more))

-- Both changes, where each is there.
abbrev pub both : Option (List Change) → Option (List Change) → Option (List Change)
both front back = option_and_then (λ xs. option_map (λ ys. xs ++ ys) back) front

-- The changes of the text of an event.
abbrev pub meant_at : List ℕ → Result (Option (List Change)) WireFault
meant_at text = event_at text >>= λ event. Ok (event_means event)

-- The changes of all these events, or the first fault.
abbrev pub all_meant_at : List (List ℕ) → Result (Option (List Change)) WireFault
all_meant_at [] = Ok (Some [])
all_meant_at (text ∷ more) = meant_at text >>= λ first. all_meant_at more >>= λ rest. Ok (both first rest)
