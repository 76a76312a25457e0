-- A record that is written is read back.
use Rattle.std.proofs.Common.{◌≡◌, ◌≢◌, ℕ, ◌+◌, ◌≤◌, ◌<◌, ◌^◌, true, false, cond, eqb, List, [], ◌∷◌, ◌++◌, length, map, None, Some, Result, Ok, Err, refl, ap, ◌∙◌, arith, All, length-append, append-nil}
use Rattle.std.specs.Prelude.{unwrap_or, option_map, filter_map}
use Rattle.std.proofs.lemmas.Bool.{le-leb, ne_eqb}
use Rattle.std.specs.List.{last_or}
use Rattle.std.proofs.lemmas.List.Elements.{filter_map-append, All-head, All-tail}
use Rattle.weed_base.specs.Path.{text_of}
use Rattle.proto_wire.specs.declared.fault.WireFault.{WireFault}
use Rattle.proto_wire.specs.Text.{varint_field, bytes_field, message_field}
use Rattle.proto_wire.specs.Field.{◌>>=◌, Varint, Bytes, FieldText, fields_of}
use Rattle.proto_wire.specs.Taken.{number_in, text_in, messages_at, last_number}
use Rattle.proto_wire.proofs.Spells.{Spells, Spells-append, Spells-nil, Spells-message, Spells-number, Spells-bytes, Spells-whole, number_fields, text_fields}
use Rattle.entry.specs.declared.entry.Entry.{Entry}
use Rattle.entry.specs.Entry.{IsValid}
use Rattle.entry.specs.EntryParts.{EntryParts}
use Rattle.entry.specs.EntryReading.{entry_at, is_entry, entry_of}
use Rattle.entry.specs.EntryWriting.{entry_text}
use Rattle.entry.proofs.MessageLemmas.{field_with}
use Rattle.entry.proofs.RoundTrip.{Makes, text_more, message_more, and_true, inside_message, inside_bytes}
use Rattle.name_core.specs.declared.change.Change.{Change}
use Rattle.name_core.specs.declared.change.Change.TheVariants.{Put, Drop}
use Rattle.name_core.specs.declared.change.Record.{Record}
use Rattle.records.specs.declared.record_fault.RecordFault.TheVariants as faults
use Rattle.name_core.specs.Log.{end_of_time}
use Rattle.records.specs.Messages.{NotificationText, notification_in, EventFieldsText, event_fields_in}
use Rattle.name_core.specs.Namespace.{path_of, AreRootless}
use Rattle.records.specs.RecordReading.{or_wire, record_with, record_if, record_with_events, record_of}
use Rattle.records.specs.Events.{path_in, entries_at, event_at, place_of, event_means, both, meant_at, all_meant_at}
use Rattle.name_core.specs.RecordText.{directory_of, name_of, HasValidEntry, CanBeWritten}
use Rattle.records.specs.Steps.{event_with_text}
use Rattle.records.proofs.MessageLemmas.{event_text}
use Rattle.records.proofs.ReadPaths.{path_found}
use Rattle.records.specs.declared.event_parts.EntriesParts.{EntriesParts}
use Rattle.records.specs.declared.event_parts.EventParts.{EventParts}
use Rattle.records.specs.RecordText.{change_text, events_text, record_text, FitsChange}
use Rattle.records.proofs.EntryRoundTrip.{ReadsBack, entry_is_read_back, name_is_read}

-- ---- The event of a directory and a notification

abbrev spelled_event : List ℕ → List ℕ → EventFieldsText
spelled_event directory notification = record { directory = directory; notification = notification }

event_fields_in-fields : (directory notification : List ℕ) → event_fields_in (text_fields 1 directory ++ (field_with 2 (Bytes notification) ∷ [])) ≡ spelled_event directory notification
event_fields_in-fields directory notification =
    let none : Makes event_fields_in [] (event_fields_in []) = record { is = refl } in
    let first = text_more event_fields_in (event_with_text 1) [] (event_fields_in []) 1 directory none refl (event_text [] 1 directory) in
    (message_more event_fields_in (event_with_text 2) _ (spelled_event directory []) 2 notification first (event_text (text_fields 1 directory) 2 notification)).is

abbrev event_parts : EventFieldsText → NotificationText → EntriesParts → EventParts
event_parts event notification entries = record { fields = event; notification = notification; entries = entries }

abbrev taken : EventFieldsText → NotificationText → Result EventParts WireFault
taken event n = entries_at n.old_is_last n.old_entry n.new_entry >>= λ entries. Ok (event_parts event n entries)

event_steps : (directory note : List ℕ) (inner : List FieldText) (entries : EntriesParts) → length directory < 2 ^ 64 → length note < 2 ^ 64 → Spells note inner
    → entries_at (notification_in inner).old_is_last (notification_in inner).old_entry (notification_in inner).new_entry ≡ Ok entries
    → event_at (bytes_field 1 directory ++ message_field 2 note) ≡ Ok (event_parts (spelled_event directory note) (notification_in inner) entries)
event_steps directory note inner entries above short spelled read =
    let outer : List FieldText = text_fields 1 directory ++ (field_with 2 (Bytes note) ∷ []) in
    let whole : fields_of (bytes_field 1 directory ++ message_field 2 note) ≡ Ok outer =
    Spells-whole _ _ (Spells-append _ _ _ _ (Spells-bytes 1 directory (record { low = omega arith; high = omega arith }) above) (Spells-message 2 note (record { low = omega arith; high = omega arith }) short)) in
    ap (λ r. r >>= λ fields. fields_of (event_fields_in fields).notification >>= λ more. taken (event_fields_in fields) (notification_in more)) whole
    ∙ ap (λ e. fields_of e.notification >>= λ more. taken e (notification_in more)) (event_fields_in-fields directory note)
    ∙ ap (λ r. r >>= λ more. taken (spelled_event directory note) (notification_in more)) (Spells-whole _ _ spelled)
    ∙ ap (λ r. r >>= λ found. Ok (event_parts (spelled_event directory note) (notification_in inner) found)) read

-- ---- A Put and a Drop mean themselves.

place_again : (path : List (List ℕ)) (parts : EntryParts) → is_entry parts ≡ true → parts.fields.name ≡ name_of path → path_in (text_of (directory_of path)) (name_of path) ≡ Some path
    → place_of (text_of (directory_of path)) parts ≡ Some path
place_again path parts good name found =
    let directory : List ℕ = text_of (directory_of path) in
    ap (λ b. cond b (path_in directory parts.fields.name) None) good ∙ ap (path_in directory) name ∙ found

-- Lengths of what stands in the text of an event
record Room (directory note inner : List ℕ) : Type 0 where
  directory_fits : length directory < 2 ^ 64
  note_fits : length note < 2 ^ 64
  inner_fits : length inner < 2 ^ 64

room : (number : ℕ) (directory inner : List ℕ) → length (bytes_field 1 directory ++ message_field 2 (message_field number inner)) < 2 ^ 64 → Room directory (message_field number inner) inner
room number directory inner short =
    let both : length (bytes_field 1 directory ++ message_field 2 (message_field number inner)) ≡ length (bytes_field 1 directory) + length (message_field 2 (message_field number inner)) = length-append (bytes_field 1 directory) (message_field 2 (message_field number inner)) in
    let note : length (message_field number inner) ≤ length (message_field 2 (message_field number inner)) = inside_message 2 (message_field number inner) in
    let deep : length inner ≤ length (message_field number inner) = inside_message number inner in
    let above : length directory ≤ length (bytes_field 1 directory) = inside_bytes 1 directory in
    record { directory_fits = omega arith; note_fits = omega arith; inner_fits = omega arith }

put_again : (path : List (List ℕ)) (entry : Entry) → FitsChange (Put path entry) → path ≢ [] → IsValid entry → length (change_text (Put path entry)) < 2 ^ 64
    → meant_at (change_text (Put path entry)) ≡ Ok (Some (Put path entry ∷ []))
put_again path entry fits filled valid short =
    let directory : List ℕ = text_of (directory_of path) in
    let inner : List ℕ = entry_text (name_of path) entry in
    let space : Room directory (message_field 2 inner) inner = room 2 directory inner short in
    let back : ReadsBack inner (name_of path) entry = entry_is_read_back (name_of path) entry valid fits.entry space.inner_fits in
    let place : place_of directory back.parts ≡ Some path = place_again path back.parts back.good back.name_is (path_found path fits.path filled) in
    let read : event_at (change_text (Put path entry)) ≡ Ok (event_parts (spelled_event directory (message_field 2 inner)) (notification_in (field_with 2 (Bytes inner) ∷ [])) (record { old_entry = None; new_entry = Some back.parts })) =
    event_steps directory (message_field 2 inner) (field_with 2 (Bytes inner) ∷ []) (record { old_entry = None; new_entry = Some back.parts }) space.directory_fits space.note_fits
    (Spells-message 2 inner (record { low = omega arith; high = omega arith }) space.inner_fits)
    (ap (λ r. (r >>= λ e. Ok (Some e)) >>= λ new. Ok (record { old_entry = None; new_entry = new })) back.read) in
    ap (λ r. r >>= λ event. Ok (event_means event)) read
    ∙ ap (λ o. Ok (option_map (λ put. put ∷ []) (option_map (λ p. Put p (entry_of back.parts)) o))) place
    ∙ ap (λ e. Ok (Some (Put path e ∷ []))) back.entry_is

drop_again : (path : List (List ℕ)) → FitsChange (Drop path) → path ≢ [] → length (change_text (Drop path)) < 2 ^ 64 → meant_at (change_text (Drop path)) ≡ Ok (Some (Drop path ∷ []))
drop_again path fits filled short =
    let directory : List ℕ = text_of (directory_of path) in
    let inner : List ℕ = bytes_field 1 (name_of path) in
    let space : Room directory (message_field 1 inner) inner = room 1 directory inner short in
    let name : length (name_of path) ≤ length inner = inside_bytes 1 (name_of path) in
    let back : (parts : EntryParts) × (entry_at inner ≡ Ok parts) × (is_entry parts ≡ true) × (parts.fields.name ≡ name_of path) = name_is_read (name_of path) (omega (arith, space.inner_fits)) in
    let parts : EntryParts = back.0 in
    let place : place_of directory parts ≡ Some path = place_again path parts back.2 back.3 (path_found path fits.path filled) in
    let read : event_at (change_text (Drop path)) ≡ Ok (event_parts (spelled_event directory (message_field 1 inner)) (notification_in (field_with 1 (Bytes inner) ∷ [])) (record { old_entry = Some parts; new_entry = None })) =
    event_steps directory (message_field 1 inner) (field_with 1 (Bytes inner) ∷ []) (record { old_entry = Some parts; new_entry = None }) space.directory_fits space.note_fits
    (Spells-message 1 inner (record { low = omega arith; high = omega arith }) space.inner_fits)
    (ap (λ r. (r >>= λ e. Ok (Some e)) >>= λ old. Ok (record { old_entry = old; new_entry = None })) back.1) in
    ap (λ r. r >>= λ event. Ok (event_means event)) read
    ∙ ap (λ o. Ok (option_map (λ drop. drop ∷ []) (option_map Drop o))) place

change_again : (change : Change) → FitsChange change → path_of change ≢ [] → HasValidEntry change → length (change_text change) < 2 ^ 64 → meant_at (change_text change) ≡ Ok (Some (change ∷ []))
change_again (Put path entry) fits filled valid short = put_again path entry fits filled valid short
change_again (Drop path) fits filled valid short = drop_again path fits filled short

-- ---- The record

abbrev event_fields : List Change → List FieldText
event_fields changes = map (λ change. field_with 2 (Bytes (change_text change))) changes

Spells-events : (changes : List Change) → length (events_text changes) < 2 ^ 64 → Spells (events_text changes) (event_fields changes)
Spells-events [] short = Spells-nil
Spells-events (change ∷ changes) short =
    let both : length (events_text (change ∷ changes)) ≡ length (message_field 2 (change_text change)) + length (events_text changes) = length-append (message_field 2 (change_text change)) (events_text changes) in
    Spells-append _ _ (field_with 2 (Bytes (change_text change)) ∷ []) (event_fields changes)
    (Spells-message 2 (change_text change) (record { low = omega arith; high = omega arith }) (omega (arith, inside_message 2 (change_text change))))
    (Spells-events changes (omega arith))

-- The events mean all changes.
all_again : (changes : List Change) → All FitsChange changes → AreRootless changes → All HasValidEntry changes → length (events_text changes) < 2 ^ 64
    → all_meant_at (map change_text changes) ≡ Ok (Some changes)
all_again [] fits filled valid short = refl
all_again (change ∷ changes) fits filled valid short =
    let parted : length (events_text (change ∷ changes)) ≡ length (message_field 2 (change_text change)) + length (events_text changes) = length-append (message_field 2 (change_text change)) (events_text changes) in
    let first : meant_at (change_text change) ≡ Ok (Some (change ∷ [])) =
    change_again change (All-head FitsChange change changes fits) (All-head (λ c. path_of c ≢ []) change changes filled) (All-head HasValidEntry change changes valid)
    (omega (arith, inside_message 2 (change_text change))) in
    let rest : all_meant_at (map change_text changes) ≡ Ok (Some changes) =
    all_again changes (All-tail FitsChange change changes fits) (All-tail (λ c. path_of c ≢ []) change changes filled) (All-tail HasValidEntry change changes valid) (omega arith) in
    ap (λ r. r >>= λ c. all_meant_at (map change_text changes) >>= λ more. Ok (both c more)) first ∙ ap (λ r. r >>= λ more. Ok (both (Some (change ∷ [])) more)) rest

no_message : (time : ℕ) → messages_at 2 (number_fields 1 time) ≡ []
no_message time = elim (eqb time 0) as (λ b. messages_at 2 (cond b [] (field_with 1 (Varint time) ∷ [])) ≡ []) [ true ↦ refl | false ↦ refl ]

messages_again : (changes : List Change) → messages_at 2 (event_fields changes) ≡ map change_text changes
messages_again [] = refl
messages_again (change ∷ changes) = ap (λ texts. change_text change ∷ texts) (messages_again changes)

no_number : (changes : List Change) → filter_map (number_in 1) (event_fields changes) ≡ []
no_number [] = refl
no_number (change ∷ changes) = no_number changes

time_again : (time : ℕ) (changes : List Change) → 1 ≤ time → last_number 1 (number_fields 1 time ++ event_fields changes) ≡ time
time_again time changes some =
    let there : eqb time 0 ≡ false = ne_eqb time 0 (λ e. omega arith) in
    ap (λ numbers. unwrap_or (last_or None numbers) 0)
    (filter_map-append (number_in 1) (number_fields 1 time) (event_fields changes)
    ∙ ap (λ back. filter_map (number_in 1) (number_fields 1 time) ++ back) (no_number changes)
    ∙ append-nil (filter_map (number_in 1) (number_fields 1 time))
    ∙ ap (λ b. filter_map (number_in 1) (cond b [] (field_with 1 (Varint time) ∷ []))) there)

filled_length : (changes : List Change) → changes ≢ [] → 1 ≤ length changes
filled_length [] filled = absurd (filled refl)
filled_length (change ∷ changes) filled = omega arith

with_time : (r : Record) → CanBeWritten r → record_with r.time r.changes ≡ Ok r
with_time r can =
    ap (λ b. cond b (Ok r) (Err faults.BadRecord))
    (and_true _ _ (and_true _ _ (le-leb 1 (length r.changes) (filled_length r.changes can.filled)) (le-leb 1 r.time can.after_start)) (le-leb r.time end_of_time can.before_end))

-- What is written is read back.
pub written_is_read : (r : Record) → CanBeWritten r → All FitsChange r.changes → length (record_text r) < 2 ^ 64 → record_of (record_text r) ≡ Ok r
written_is_read r can fits short =
    let fields : List FieldText = number_fields 1 r.time ++ event_fields r.changes in
    let parted : length (record_text r) ≡ length (varint_field 1 r.time) + length (events_text r.changes) = length-append (varint_field 1 r.time) (events_text r.changes) in
    let events : length (events_text r.changes) < 2 ^ 64 = omega arith in
    let whole : fields_of (record_text r) ≡ Ok fields =
    Spells-whole _ _ (Spells-append _ _ _ _ (Spells-number 1 r.time (record { low = omega arith; high = omega arith }) (omega (arith, can.before_end))) (Spells-events r.changes events)) in
    let texts : messages_at 2 fields ≡ map change_text r.changes =
    filter_map-append (text_in 2) (number_fields 1 r.time) (event_fields r.changes) ∙ ap (λ front. front ++ messages_at 2 (event_fields r.changes)) (no_message r.time) ∙ messages_again r.changes in
    let meant : all_meant_at (messages_at 2 fields) ≡ Ok (Some r.changes) = ap all_meant_at texts ∙ all_again r.changes fits can.rootless can.valid events in
    ap (λ read. or_wire read (λ f. record_with_events (last_number 1 f) f)) whole
    ∙ ap (λ time. record_with_events time fields) (time_again r.time r.changes can.after_start)
    ∙ ap (λ read. or_wire read (record_if r.time)) meant
    ∙ with_time r can
