-- The changes of a record, one event after another.
use Rattle.std.proofs.Common.{◌≡◌, ◌≢◌, ℕ, Bool, true, false, cond, ◌&&◌, nat_le, length, List, [], ◌∷◌, ◌++◌, Option, None, Some, Result, Ok, Err, refl, sym, ap, ◌∙◌, append_assoc, append-nil, subst, arith}
use Rattle.std.specs.Prelude.{IsSome, IsErr, MatchOption, MatchResult, option_map, option_and_then, option_to_list}
use Rattle.std.specs.Global.{Vec}
use Rattle.std.specs.Cmp.{first_so, second_so}
use Rattle.std.proofs.lemmas.Bool.Decides.{nat_tests}
use Rattle.std.proofs.lemmas.List.Elements.{filter_map-append}
use Rattle.proto_wire.specs.declared.fault.WireFault.{WireFault}
use Rattle.proto_wire.specs.Field.{◌>>=◌, FieldText, fields_of, with_first}
use Rattle.proto_wire.specs.Taken.{text_in, messages_at}
use Rattle.proto_wire.proofs.Grammar.{ok_is, bind_ok}
use Rattle.proto_wire.proofs.Seen.{with_seen, with_seen-none, with_seen-more, messages_at-more}
use Rattle.name_core.specs.declared.change.Change.{Change}
use Rattle.weed_base.specs.PathOrder.{same_path}
use Rattle.name_core.specs.declared.change.Change.TheVariants.{Drop}
use Rattle.name_core.specs.Namespace.{path_of}
use Rattle.name_core.specs.declared.change.Record.{Record}
use Rattle.records.specs.declared.record_fault.RecordFault.{RecordFault}
use Rattle.records.specs.declared.record_fault.RecordFault.TheVariants as faults
use Rattle.name_core.specs.Log.{end_of_time}
use Rattle.records.specs.RecordReading.{or_wire, record_if, record_with_events, Collects}
use Rattle.records.specs.Events.{FindsMeant, both, listed, moved_to, directory_of_new, place_of, put_of, entries_mean, FindsChanges, event_at, event_means, meant_at, all_meant_at}
use Rattle.entry.specs.EntryParts.{EntryParts}
use Rattle.std.specs.declared.alloc.AllocError.{AllocError}
use Rattle.records.specs.declared.event_parts.EventParts.{EventParts}
use Rattle.records.specs.declared.found.Found.{Found}
use Rattle.records.specs.declared.found.Found.TheVariants.{Changes, OutOfMemory, Nothing}
use Rattle.records.specs.declared.meaning.EventChanges.{EventChanges}
use Rattle.records.specs.declared.meaning.EventChanges.TheVariants.{One, Two}

-- ---- Lists of events

both_none : (b : Option (List Change)) → b ≡ both (Some []) b
both_none None = refl
both_none (Some ys) = refl

both_last : (a : Option (List Change)) → both a (Some []) ≡ a
both_last None = refl
both_last (Some xs) = ap Some (append-nil xs)

both_assoc : (a b c : Option (List Change)) → both a (both b c) ≡ both (both a b) c
both_assoc None b c = refl
both_assoc (Some xs) None c = refl
both_assoc (Some xs) (Some ys) None = refl
both_assoc (Some xs) (Some ys) (Some zs) = ap Some (sym (append_assoc xs ys zs))

front_none : (read : Result (Option (List Change)) WireFault) → read ≡ (read >>= λ rest. Ok (both (Some []) rest))
front_none (Ok rest) = ap Ok (both_none rest)
front_none (Err fault) = refl

front_more : (read : Result (Option (List Change)) WireFault) (a b : Option (List Change)) → ((read >>= λ rest. Ok (both b rest)) >>= λ rest. Ok (both a rest)) ≡ (read >>= λ rest. Ok (both (both a b) rest))
front_more (Ok rest) a b = ap Ok (both_assoc a b rest)
front_more (Err fault) a b = refl

all-append : (xs ys : List (List ℕ)) (meant : Option (List Change)) → all_meant_at xs ≡ Ok meant → all_meant_at (xs ++ ys) ≡ (all_meant_at ys >>= λ rest. Ok (both meant rest))
all-append [] ys meant is = front_none (all_meant_at ys) ∙ ap (λ front. all_meant_at ys >>= λ rest. Ok (both front rest)) (ok_is (Some []) meant is)
all-append (x ∷ xs) ys meant is =
    let first : (a : Option (List Change)) × (meant_at x ≡ Ok a) × ((all_meant_at xs >>= λ rest. Ok (both a rest)) ≡ Ok meant) = bind_ok (meant_at x) _ meant is in
    let a : Option (List Change) = first.0 in
    let rest : (b : Option (List Change)) × (all_meant_at xs ≡ Ok b) × (Ok (both a b) ≡ Ok meant) = bind_ok (all_meant_at xs) _ meant first.2 in
    ap (λ read. read >>= λ c. all_meant_at (xs ++ ys) >>= λ more. Ok (both c more)) first.1
    ∙ ap (λ read. read >>= λ more. Ok (both a more)) (all-append xs ys rest.0 rest.1)
    ∙ front_more (all_meant_at ys) a rest.0
    ∙ ap (λ front. all_meant_at ys >>= λ more. Ok (both front more)) (ok_is (both a rest.0) meant rest.2)

one_event : (text : List ℕ) (event : EventParts) → event_at text ≡ Ok event → all_meant_at (text ∷ []) ≡ Ok (event_means event)
one_event text event is = ap (λ read. (read >>= λ e. Ok (event_means e)) >>= λ first. Ok (both first (Some []))) is ∙ ap Ok (both_last (event_means event))

one_fault : (text : List ℕ) (more : List (List ℕ)) (fault : WireFault) → event_at text ≡ Err fault → all_meant_at (text ∷ more) ≡ Err fault
one_fault text more fault is = ap (λ read. (read >>= λ e. Ok (event_means e)) >>= λ first. all_meant_at more >>= λ rest. Ok (both first rest)) is

-- ---- A field more

-- What was read so far: the fields seen, and what their events mean
pub record ReadsSo (text : List ℕ) (left : Result (List FieldText) WireFault) (meant : Option (List Change)) : Type 0 where
  pub seen : List FieldText
  pub parts : fields_of text ≡ with_seen seen left
  pub read : all_meant_at (messages_at 2 seen) ≡ Ok meant

pub reads_none : (text : List ℕ) → ReadsSo text (fields_of text) (Some [])
reads_none text = record { seen = []; parts = with_seen-none (fields_of text); read = refl }

parts_more : (text : List ℕ) (seen : List FieldText) (field : FieldText) (left now : Result (List FieldText) WireFault) → fields_of text ≡ with_seen seen left → left ≡ with_first field now → fields_of text ≡ with_seen (seen ++ field ∷ []) now
parts_more text seen field left now parts first = parts ∙ ap (with_seen seen) first ∙ with_seen-more seen field now

pub reads_other : (text : List ℕ) (left now : Result (List FieldText) WireFault) (meant : Option (List Change)) (field : FieldText) → ReadsSo text left meant → left ≡ with_first field now → None ≡ text_in 2 field → ReadsSo text now meant
reads_other text left now meant field so first none = record {
  seen = so.seen ++ field ∷ [];
  parts = parts_more text so.seen field left now so.parts first;
  read =
      ap all_meant_at (messages_at-more 2 so.seen field ∙ ap (λ o. messages_at 2 so.seen ++ option_to_list o) (sym none) ∙ append-nil (messages_at 2 so.seen)) ∙ so.read;
}

pub reads_event : (text : List ℕ) (left now : Result (List FieldText) WireFault) (meant new : Option (List Change)) (field : FieldText) (event : List ℕ) (parts : EventParts)
    → ReadsSo text left meant → left ≡ with_first field now → Some event ≡ text_in 2 field → event_at event ≡ Ok parts → new ≡ both meant (event_means parts) → ReadsSo text now new
reads_event text left now meant new field event parts so first is means taken = record {
  seen = so.seen ++ field ∷ [];
  parts = parts_more text so.seen field left now so.parts first;
  read =
      ap all_meant_at (messages_at-more 2 so.seen field ∙ ap (λ o. messages_at 2 so.seen ++ option_to_list o) (sym is))
      ∙ all-append (messages_at 2 so.seen) (event ∷ []) meant so.read
      ∙ ap (λ read. read >>= λ rest. Ok (both meant rest)) (one_event event parts means)
      ∙ ap Ok (sym taken);
}

-- ---- The ends

all_seen : (seen fields : List FieldText) (left : Result (List FieldText) WireFault) → with_seen seen left ≡ Ok fields → (more : List FieldText) × (left ≡ Ok more) × (seen ++ more ≡ fields)
all_seen seen fields (Ok more) is = (more, refl, ok_is (seen ++ more) fields is)
all_seen seen fields (Err fault) is = absurd cc

pub reads_fault : (text : List ℕ) (left now : Result (List FieldText) WireFault) (meant : Option (List Change)) (fields : List FieldText) (time : ℕ) (field : FieldText) (event : List ℕ) (fault : WireFault) → ReadsSo text left meant → fields_of text ≡ Ok fields → left ≡ with_first field now → Some event ≡ text_in 2 field → event_at event ≡ Err fault → record_with_events time fields ≡ Err (faults.Wire fault)
reads_fault text left now meant fields time field event fault so whole first is means =
    let all : (more : List FieldText) × (now ≡ Ok more) × ((so.seen ++ field ∷ []) ++ more ≡ fields) = all_seen (so.seen ++ field ∷ []) fields now (sym (parts_more text so.seen field left now so.parts first) ∙ whole) in
    let here : messages_at 2 (so.seen ++ field ∷ []) ≡ messages_at 2 so.seen ++ event ∷ [] = messages_at-more 2 so.seen field ∙ ap (λ o. messages_at 2 so.seen ++ option_to_list o) (sym is) in
    let texts : messages_at 2 fields ≡ messages_at 2 so.seen ++ event ∷ messages_at 2 all.0 =
    ap (messages_at 2) (sym all.2) ∙ filter_map-append (text_in 2) (so.seen ++ field ∷ []) all.0 ∙ ap (λ front. front ++ messages_at 2 all.0) here
    ∙ append_assoc (messages_at 2 so.seen) (event ∷ []) (messages_at 2 all.0) in
    let read : all_meant_at (messages_at 2 fields) ≡ Err fault =
    ap all_meant_at texts ∙ all-append (messages_at 2 so.seen) (event ∷ messages_at 2 all.0) meant so.read
    ∙ ap (λ r. r >>= λ rest. Ok (both meant rest)) (one_fault event (messages_at 2 all.0) fault means) in
    ap (λ r. or_wire r (record_if time)) read

-- Where all events are read, the record is of all that they mean.
pub reads_all : (text : List ℕ) (left : Result (List FieldText) WireFault) (meant : Option (List Change)) (fields : List FieldText) (time : ℕ) → ReadsSo text left meant → fields_of text ≡ Ok fields → left ≡ Ok [] → record_with_events time fields ≡ record_if time meant
reads_all text left meant fields time so whole none =
    let all : (more : List FieldText) × (left ≡ Ok more) × (so.seen ++ more ≡ fields) = all_seen so.seen fields left (sym so.parts ∙ whole) in
    let no_more : all.0 ≡ [] = ok_is all.0 [] (sym all.1 ∙ none) in
    let seen : fields ≡ so.seen = sym all.2 ∙ ap (λ more. so.seen ++ more) no_more ∙ append-nil so.seen in
    ap (record_with_events time) seen ∙ ap (λ r. or_wire r (record_if time)) so.read

-- ---- What is kept

-- What was read so far, and what was found of it
pub record FindsSo (text : List ℕ) (left : Result (List FieldText) WireFault) (found : Found) : Type 0 where
  pub meant : Option (List Change)
  pub so : ReadsSo text left meant
  pub collects : Collects meant found

-- The changes of an event behind those of others
pub kept_more : (before : Option (List Change)) (changes added : List Change) → before ≡ Some changes → both before (Some added) ≡ Some (changes ++ added)
kept_more before changes added is = ap (λ o. both o (Some added)) is

pub none_more : (before : Option (List Change)) → both before None ≡ None
none_more None = refl
none_more (Some xs) = refl

begins : (changes : List Change) (first : Change) (more : List Change) → (one : Change) × (rest : List Change) × (changes ++ first ∷ more ≡ one ∷ rest)
begins [] first more = (first, more, refl)
begins (x ∷ xs) first more = (x, xs ++ first ∷ more, refl)

-- Changes that aren't kept any more
pub lost_more : (before : Option (List Change)) (changes : List Change) (first : Change) (more : List Change) → before ≡ Some changes
    → (one : Change) × (rest : List Change) × (both before (Some (first ∷ more)) ≡ Some (one ∷ rest))
lost_more before changes first more is =
    let some = begins changes first more in
    (some.0, some.1, kept_more before changes (first ∷ more) is ∙ ap Some some.2)

-- Where none is kept
pub unkept_more : (before : Option (List Change)) (found : Found) (first : Change) (more : List Change) → ((changes : Vec Change) → found ≢ Changes changes)
    → Collects before found → Collects (both before (Some (first ∷ more))) found
unkept_more before (Changes changes) first more other so = absurd (other changes refl)
unkept_more before OutOfMemory first more other so = lost_more before (so.0 ∷ so.1) first more so.2
unkept_more before Nothing first more other so = ap (λ o. both o (Some (first ∷ more))) so

pub listed_some : (found : EventChanges) → (first : Change) × (more : List Change) × (listed found ≡ first ∷ more)
listed_some (One change) = (change, [], refl)
listed_some (Two change other) = (change, other ∷ [], refl)

pub some_of : {X : Type 0} (o : Option X) → IsSome o → (x : X) × (o ≡ Some x)
some_of None is = absurd (let e : ◌≡◌ {A = Bool} false true = is in cc)
some_of (Some x) is = (x, refl)

pub moved_some : (path : List (List ℕ)) (put : Change) → (first : Change) × (more : List Change) × (moved_to path put ≡ first ∷ more)
moved_some path put = elim (same_path path (path_of put)) as (λ b. (first : Change) × (more : List Change) × (cond b (put ∷ []) (Drop path ∷ put ∷ []) ≡ first ∷ more)) [ true ↦ (put, [], refl) | false ↦ (Drop path, put ∷ [], refl) ]

err_finds : (meant : Option (List Change)) (result : Result (Option EventChanges) AllocError) → IsErr result → (first : Change) × (more : List Change) × (meant ≡ Some (first ∷ more)) → FindsChanges meant result
err_finds meant (Ok found) is some = absurd (let e : ◌≡◌ {A = Bool} false true = is in cc)
err_finds meant (Err failed) is some = some

some_moved : (p : List (List ℕ)) (put : Change) (new : Option Change) → new ≡ Some put → (first : Change) × (more : List Change) × (option_map (moved_to p) new ≡ Some (first ∷ more))
some_moved p put new is =
    let moved = moved_some p put in
    (moved.0, moved.1, ap (option_map (moved_to p)) is ∙ ap Some moved.2)

pub lost_finds : (put : Result (Option Change) AllocError) (result : Result (Option EventChanges) AllocError) (p : List (List ℕ)) (new : Option Change) → FindsMeant new put
    → MatchResult put (λ found. MatchOption found (result ≡ Ok None) (λ _. IsErr result)) (λ _. IsErr result) → FindsChanges (option_map (moved_to p) new) result
lost_finds (Ok None) result p new finds is = subst (FindsChanges (option_map (moved_to p) new)) (sym is) (ap (option_map (moved_to p)) finds)
lost_finds (Ok (Some put)) result p new finds is = err_finds (option_map (moved_to p) new) result is (some_moved p put new (sym finds))
lost_finds (Err failed) result p new finds is =
    let some = some_of new finds in err_finds (option_map (moved_to p) new) result is (some_moved p some.0 new some.1)

-- What an event means, by which of its entries it has
pub means_put : (event : EventParts) (to : List ℕ) (new : EntryParts) → event.entries.old_entry ≡ None → event.entries.new_entry ≡ Some new → to ≡ directory_of_new event
    → option_map (λ (put : Change). put ∷ []) (put_of to new) ≡ event_means event
means_put event to new none some same =
    ap (λ d. option_map (λ (put : Change). put ∷ []) (put_of d new)) same
    ∙ ap (λ o. entries_mean event.fields.directory (directory_of_new event) None o) (sym some)
    ∙ ap (λ o. entries_mean event.fields.directory (directory_of_new event) o event.entries.new_entry) (sym none)

pub means_drop : (event : EventParts) (old : EntryParts) → event.entries.old_entry ≡ Some old → event.entries.new_entry ≡ None
    → option_map (λ (drop : Change). drop ∷ []) (option_map Drop (place_of event.fields.directory old)) ≡ event_means event
means_drop event old some none =
    ap (λ o. entries_mean event.fields.directory (directory_of_new event) (Some old) o) (sym none)
    ∙ ap (λ o. entries_mean event.fields.directory (directory_of_new event) o event.entries.new_entry) (sym some)

pub means_both : (event : EventParts) (to : List ℕ) (old new : EntryParts) → event.entries.old_entry ≡ Some old → event.entries.new_entry ≡ Some new → to ≡ directory_of_new event
    → option_and_then (λ p. option_map (moved_to p) (put_of to new)) (place_of event.fields.directory old) ≡ event_means event
means_both event to old new some there same =
    ap (λ d. option_and_then (λ p. option_map (moved_to p) (put_of d new)) (place_of event.fields.directory old)) same
    ∙ ap (λ o. entries_mean event.fields.directory (directory_of_new event) (Some old) o) (sym there)
    ∙ ap (λ o. entries_mean event.fields.directory (directory_of_new event) o event.entries.new_entry) (sym some)

-- A record of a good time, where none is kept
pub good_record : (time : ℕ) (all : Option (List Change)) (first : Change) (more : List Change) → all ≡ Some (first ∷ more) → (nat_le 1 time && nat_le time end_of_time) ≡ true
    → record_if time all ≡ Ok (record { time = time; changes = first ∷ more })
good_record time all first more is good =
    let some : nat_le 1 (length (first ∷ more)) ≡ true = grind (arith, nat_tests) in
    let starts : nat_le 1 time ≡ true = first_so (nat_le 1 time) (nat_le time end_of_time) good in
    let ends : nat_le time end_of_time ≡ true = second_so (nat_le 1 time) (nat_le time end_of_time) good in
    let made : Record = record { time = time; changes = first ∷ more } in
    let whole : (nat_le 1 (length (first ∷ more)) && nat_le 1 time && nat_le time end_of_time) ≡ true = cc (some, starts, ends) in
    ap (record_if time) is ∙ ap (λ t. cond {A = Result Record RecordFault} t (Ok made) (Err faults.BadRecord)) whole
