-- What is read is a record that can be written.
use Rattle.std.proofs.Common.{◌≡◌, ◌≢◌, ℕ, ◌≤◌, Bool, true, false, cond, List, [], ◌∷◌, ◌++◌, length, Option, None, Some, Result, Ok, Err, refl, ap, subst, arith, leb, All}
use Rattle.std.specs.Prelude.{IfSome, IfOk, option_map, option_and_then, is_none}
use Rattle.std.specs.List.{AllByRecursion}
use Rattle.std.specs.Cmp.{first_so, second_so}
use Rattle.std.proofs.lemmas.Bool.{leb-true}
use Rattle.std.proofs.lemmas.List.Elements.{All-from_recursion, All-weaker}
use Rattle.weed_base.specs.PathFaults.{join_fault}
use Rattle.weed_base.specs.PathOrder.{same_path}
use Rattle.proto_wire.specs.declared.fault.WireFault.{WireFault}
use Rattle.proto_wire.specs.Field.{◌>>=◌, FieldText, fields_of}
use Rattle.proto_wire.specs.Taken.{last_number, messages_at}
use Rattle.proto_wire.proofs.Grammar.{ok_is, bind_ok}
use Rattle.entry.specs.EntryParts.{EntryParts, IsOfText}
use Rattle.entry.specs.EntryText.{taken_fault, entry_fields_in}
use Rattle.entry.specs.AttributesText.{attributes_in}
use Rattle.entry.specs.EntryReading.{behind_fault, or_no_fields, entry_parts, entry_with, entry_at, is_entry, entry_of}
use Rattle.entry.proofs.ValidEntries.{entry_is_valid}
use Rattle.name_core.specs.declared.change.Change.{Change}
use Rattle.name_core.specs.declared.change.Change.TheVariants.{Put, Drop}
use Rattle.name_core.specs.declared.change.Record.{Record}
use Rattle.records.specs.declared.record_fault.RecordFault.{RecordFault}
use Rattle.records.specs.declared.record_fault.RecordFault.TheVariants as faults
use Rattle.name_core.specs.Log.{end_of_time}
use Rattle.records.specs.Messages.{event_fields_in, notification_in}
use Rattle.name_core.specs.Namespace.{path_of}
use Rattle.records.specs.RecordReading.{or_wire, record_with, ReadsRecord, record_if, record_with_events, record_of}
use Rattle.records.specs.Events.{path_in, path_read, path_with, entry_if_there, entries_at, event_at, directory_of_new, place_of, drop_of, put_of, moved_to, entries_mean, event_means, both, meant_at, all_meant_at}
use Rattle.name_core.specs.RecordText.{HasValidEntry, CanBeWritten}
use Rattle.name_core.proofs.Paths.{filled-append}
use Rattle.records.specs.declared.event_parts.EntriesParts.{EntriesParts}
use Rattle.records.specs.declared.event_parts.EventParts.{EventParts}

-- A change that a record may have
pub record IsGood (change : Change) : Type 0 where
  pub rootless : path_of change ≢ []
  pub valid : HasValidEntry change

-- ---- What holds of a value that may be there

kept_if : {X : Type 0} (P : X → Type 0) (b : Bool) (x : X) → P x → IfSome (cond b (Some x) None) P
kept_if P true x is = is
kept_if P false x is = tt

kept_then : {X Y : Type 0} (P : Y → Type 0) (f : X → Option Y) (o : Option X) → ((x : X) → IfSome (f x) P) → IfSome (option_and_then f o) P
kept_then P f None each = tt
kept_then P f (Some x) each = each x

kept_map : {X Y : Type 0} (Q : X → Type 0) (P : Y → Type 0) (f : X → Y) (o : Option X) → IfSome o Q → ((x : X) → Q x → P (f x)) → IfSome (option_map f o) P
kept_map Q P f None is each = tt
kept_map Q P f (Some x) is each = each x is

kept_both : {X Y : Type 0} (Q : X → Type 0) (P : Y → Type 0) (f : X → Option Y) (o : Option X) → IfSome o Q → ((x : X) → Q x → IfSome (f x) P) → IfSome (option_and_then f o) P
kept_both Q P f None is each = tt
kept_both Q P f (Some x) is each = each x is

when_true : {X : Type 0} (P : X → Type 0) (b : Bool) (o : Option X) → (b ≡ true → IfSome o P) → IfSome (cond b o None) P
when_true P true o is = is refl
when_true P false o is = tt

-- ---- The parts of an entry are those of its text.

abbrev IsRead : EntryParts → Type 0
IsRead parts = IsOfText parts.text parts.fields

behind_ok : {X : Type 0} (fault : Option WireFault) (x y : X) → behind_fault fault (Ok x) ≡ Ok y → x ≡ y
behind_ok None x y is = ok_is x y is
behind_ok (Some fault) x y is = absurd cc

entry_is_read : (text : List ℕ) (parts : EntryParts) → entry_at text ≡ Ok parts → IsRead parts
entry_is_read text parts is =
    let read : (outer : List FieldText) × (fields_of text ≡ Ok outer) × (entry_with text outer ≡ Ok parts) = bind_ok (fields_of text) (entry_with text) parts is in
    let made : EntryParts = entry_parts text (entry_fields_in read.0) (attributes_in (or_no_fields (fields_of (entry_fields_in read.0).attributes))) in
    subst IsRead (behind_ok (taken_fault read.0) made parts read.2) (record { outer = read.0; whole = read.1; is = refl })

there_is_read : (text : Option (List ℕ)) (found : Option EntryParts) → entry_if_there text ≡ Ok found → IfSome found IsRead
there_is_read None found is = subst (λ o. IfSome o IsRead) (ok_is None found is) tt
there_is_read (Some text) found is =
    let read : (parts : EntryParts) × (entry_at text ≡ Ok parts) × (Ok (Some parts) ≡ Ok found) = bind_ok (entry_at text) (λ parts. Ok (Some parts)) found is in
    subst (λ o. IfSome o IsRead) (ok_is (Some read.0) found read.2) (entry_is_read text read.0 read.1)

abbrev entries : Option EntryParts → Option EntryParts → EntriesParts
entries old new = record { old_entry = old; new_entry = new }

new_is_read : (late : Bool) (old_text new_text : Option (List ℕ)) (found : EntriesParts) → entries_at late old_text new_text ≡ Ok found → IfSome found.new_entry IsRead
new_is_read false old_text new_text found is =
    let first : (old : Option EntryParts) × (entry_if_there old_text ≡ Ok old) × ((entry_if_there new_text >>= λ new. Ok (entries old new)) ≡ Ok found) = bind_ok (entry_if_there old_text) (λ old. entry_if_there new_text >>= λ new. Ok (entries old new)) found is in
    let second : (new : Option EntryParts) × (entry_if_there new_text ≡ Ok new) × (Ok (entries first.0 new) ≡ Ok found) = bind_ok (entry_if_there new_text) (λ new. Ok (entries first.0 new)) found first.2 in
    subst (λ e. IfSome e.new_entry IsRead) (ok_is (entries first.0 second.0) found second.2) (there_is_read new_text second.0 second.1)
new_is_read true old_text new_text found is =
    let first : (new : Option EntryParts) × (entry_if_there new_text ≡ Ok new) × ((entry_if_there old_text >>= λ old. Ok (entries old new)) ≡ Ok found) = bind_ok (entry_if_there new_text) (λ new. entry_if_there old_text >>= λ old. Ok (entries old new)) found is in
    let second : (old : Option EntryParts) × (entry_if_there old_text ≡ Ok old) × (Ok (entries old first.0) ≡ Ok found) = bind_ok (entry_if_there old_text) (λ old. Ok (entries old first.0)) found first.2 in
    subst (λ e. IfSome e.new_entry IsRead) (ok_is (entries second.0 first.0) found second.2) (there_is_read new_text first.0 first.1)

event_is_read : (text : List ℕ) (event : EventParts) → event_at text ≡ Ok event → IfSome event.entries.new_entry IsRead
event_is_read text event is =
    let outer = bind_ok (fields_of text) _ event is in
    let inner = bind_ok (fields_of (event_fields_in outer.0).notification) _ event outer.2 in
    let notification = notification_in inner.0 in
    let found = bind_ok (entries_at notification.old_is_last notification.old_entry notification.new_entry) _ event inner.2 in
    subst (λ e. IfSome e.entries.new_entry IsRead) (ok_is _ event found.2) (new_is_read notification.old_is_last notification.old_entry notification.new_entry found.0 found.1)

-- ---- An event's changes are good.

path_in_filled : (directory name : List ℕ) → IfSome (path_in directory name) (λ path. path ≢ [])
path_in_filled directory name =
    kept_then (λ path. path ≢ []) (path_with name) (path_read directory)
    (λ top. kept_if (λ path. path ≢ []) (is_none (join_fault top name)) (top ++ name ∷ []) (filled-append top name))

place_is_filled : (directory : List ℕ) (entry : EntryParts) → IfSome (place_of directory entry) (λ path. path ≢ [])
place_is_filled directory entry = when_true (λ path. path ≢ []) (is_entry entry) (path_in directory entry.fields.name) (λ is. path_in_filled directory entry.fields.name)

drop_is_good : (path : List (List ℕ)) → path ≢ [] → IsGood (Drop path)
drop_is_good path filled = record { rootless = filled; valid = tt }

put_is_good : (directory : List ℕ) (entry : EntryParts) → IsRead entry → IfSome (put_of directory entry) IsGood
put_is_good directory entry read =
    elim (is_entry entry) as (λ b. is_entry entry ≡ b → IfSome (option_map (λ path. Put path (entry_of entry)) (cond b (path_in directory entry.fields.name) None)) IsGood) [
      | true ↦ λ is. kept_map (λ path. path ≢ []) IsGood (λ path. Put path (entry_of entry)) (path_in directory entry.fields.name) (path_in_filled directory entry.fields.name) (λ path filled. record { rootless = filled; valid = entry_is_valid entry read is })
      | false ↦ λ is. tt
    ] refl

abbrev AreGood : List Change → Type 0
AreGood changes = AllByRecursion IsGood changes

moved_are_good : (path : List (List ℕ)) (put : Change) → path ≢ [] → IsGood put → AreGood (moved_to path put)
moved_are_good path put filled good =
    elim (same_path path (path_of put)) as (λ b. AreGood (cond b (put ∷ []) (Drop path ∷ put ∷ []))) [ true ↦ (good, tt) | false ↦ (drop_is_good path filled, (good, tt)) ]

entries_are_good : (from to : List ℕ) (old new : Option EntryParts) → IfSome new IsRead → IfSome (entries_mean from to old new) AreGood
entries_are_good from to None None read = tt
entries_are_good from to None (Some new) read = kept_map IsGood AreGood (λ put. put ∷ []) (put_of to new) (put_is_good to new read) (λ put good. (good, tt))
entries_are_good from to (Some old) None read =
    kept_map IsGood AreGood (λ drop. drop ∷ []) (drop_of from old)
    (kept_map (λ path. path ≢ []) IsGood Drop (place_of from old) (place_is_filled from old) drop_is_good) (λ drop good. (good, tt))
entries_are_good from to (Some old) (Some new) read =
    kept_both (λ path. path ≢ []) AreGood (λ path. option_map (moved_to path) (put_of to new)) (place_of from old) (place_is_filled from old)
    (λ path filled. kept_map IsGood AreGood (moved_to path) (put_of to new) (put_is_good to new read) (λ put good. moved_are_good path put filled good))

-- ---- All of them are.

good-append : (xs ys : List Change) → AreGood xs → AreGood ys → AreGood (xs ++ ys)
good-append [] ys front back = back
good-append (x ∷ xs) ys front back = (front.0, good-append xs ys front.1 back)

both_are_good : (a b : Option (List Change)) → IfSome a AreGood → IfSome b AreGood → IfSome (both a b) AreGood
both_are_good None b front back = tt
both_are_good (Some xs) None front back = tt
both_are_good (Some xs) (Some ys) front back = good-append xs ys front back

one_is_good : (text : List ℕ) (meant : Option (List Change)) → meant_at text ≡ Ok meant → IfSome meant AreGood
one_is_good text meant is =
    let read : (event : EventParts) × (event_at text ≡ Ok event) × (Ok (event_means event) ≡ Ok meant) = bind_ok (event_at text) (λ event. Ok (event_means event)) meant is in
    subst (λ o. IfSome o AreGood) (ok_is (event_means read.0) meant read.2)
    (entries_are_good read.0.fields.directory (directory_of_new read.0) read.0.entries.old_entry read.0.entries.new_entry (event_is_read text read.0 read.1))

all_are_good : (texts : List (List ℕ)) (meant : Option (List Change)) → all_meant_at texts ≡ Ok meant → IfSome meant AreGood
all_are_good [] meant is = subst (λ o. IfSome o AreGood) (ok_is (Some []) meant is) tt
all_are_good (text ∷ more) meant is =
    let first : (a : Option (List Change)) × (meant_at text ≡ Ok a) × ((all_meant_at more >>= λ rest. Ok (both a rest)) ≡ Ok meant) = bind_ok (meant_at text) _ meant is in
    let rest : (b : Option (List Change)) × (all_meant_at more ≡ Ok b) × (Ok (both first.0 b) ≡ Ok meant) = bind_ok (all_meant_at more) _ meant first.2 in
    subst (λ o. IfSome o AreGood) (ok_is (both first.0 rest.0) meant rest.2) (both_are_good first.0 rest.0 (one_is_good text first.0 first.1) (all_are_good more rest.0 rest.1))

wire_ok : {X Y : Type 0} (read : Result X WireFault) (next : X → Result Y RecordFault) (y : Y) → or_wire read next ≡ Ok y → (x : X) × (read ≡ Ok x) × (next x ≡ Ok y)
wire_ok (Ok x) next y is = (x, refl, is)
wire_ok (Err fault) next y is = absurd cc

when_ok : (P : Record → Type 0) (b : Bool) (made : Record) (fault : RecordFault) → (b ≡ true → P made) → IfOk (cond b (Ok made) (Err fault)) P
when_ok P true made fault is = is refl
when_ok P false made fault is = tt

record_can_be_written : (time : ℕ) (changes : List Change) → All IsGood changes → IfOk (record_with time changes) CanBeWritten
record_can_be_written time changes good =
    when_ok CanBeWritten _ (record { time = time; changes = changes }) faults.BadRecord (λ is.
    let some : 1 ≤ length changes = leb-true 1 (length changes) (first_so (leb 1 (length changes)) _ (first_so _ _ is)) in
    record {
      filled = λ none. let empty : length changes ≡ 0 = ap length none in omega arith;
      after_start = leb-true 1 time (second_so (leb 1 (length changes)) _ (first_so _ _ is));
      before_end = leb-true time end_of_time (second_so _ _ is);
      rootless = All-weaker IsGood (λ change. path_of change ≢ []) (λ change is. is.rootless) changes good;
      valid = All-weaker IsGood HasValidEntry (λ change is. is.valid) changes good;
    })

if_can_be_written : (time : ℕ) (meant : Option (List Change)) (r : Record) → IfSome meant AreGood → record_if time meant ≡ Ok r → CanBeWritten r
if_can_be_written time None r good is = absurd cc
if_can_be_written time (Some changes) r good is = subst (λ made. IfOk made CanBeWritten) is (record_can_be_written time changes (All-from_recursion IsGood changes good))

-- A record that a text is read as can be written.
pub can_be_written : (text : List ℕ) (r : Record) → record_of text ≡ Ok r → CanBeWritten r
can_be_written text r is =
    let whole : (fields : List FieldText) × (fields_of text ≡ Ok fields) × (record_with_events (last_number 1 fields) fields ≡ Ok r) = wire_ok (fields_of text) _ r is in
    let read : (meant : Option (List Change)) × (all_meant_at (messages_at 2 whole.0) ≡ Ok meant) × (record_if (last_number 1 whole.0) meant ≡ Ok r) = wire_ok (all_meant_at (messages_at 2 whole.0)) _ r whole.2 in
    if_can_be_written (last_number 1 whole.0) read.0 r (all_are_good (messages_at 2 whole.0) read.0 read.1) read.2

pub read_can_be_written : (text : List ℕ) (result : Result Record RecordFault) → ReadsRecord (record_of text) result → IfOk result CanBeWritten
read_can_be_written text (Ok r) reads = can_be_written text r reads
read_can_be_written text (Err fault) reads = tt
