-- Places in a log of records.
use Rattle.std.proofs.Common.{◌≡◌, ℕ, zero, suc, List, [], ◌∷◌, ◌++◌, take, drop, refl, sym, ◌∙◌, ap, subst, append_assoc, take-append-drop, Option, Some, None}
use Rattle.weed_base.specs.Files.{Files}
use Rattle.name_core.specs.declared.change.Record.{Record}
use Rattle.name_core.specs.Log.{TimesRise}
use Rattle.meta_log.specs.Held.{HoldsPayloads}
use Rattle.meta_log.specs.Records.{ReadAs, front_of_records}
use Rattle.meta_log.specs.Kept.{HoldsRecords}
use Rattle.meta_log.specs.Places.{place_behind, HoldsPlace, IsNext}
use Rattle.meta_log.specs.RecordPlaces.{LiesBetween, HoldsRecordPlace, AreNext}
use Rattle.meta_log.specs.declared.meta_log.MetaLog.{MetaLog}
use Rattle.meta_log.specs.declared.place.Place.{Place}

-- The start lies before all records.
pub start_lies : (files : Files) (meta : MetaLog) (place : Place) (records : List Record) → HoldsRecords files meta records → place ≡ place_behind [] → LiesBetween files meta place [] records
start_lies files meta place records kept begins = record { kept = kept; before = []; past = kept.payloads; split = refl; read_before = tt; read_past = kept.read; place_is = begins }

-- Payloads and their records, cut at one number
pub ReadAs-take : (room : ℕ) (payloads : List (List ℕ)) (records : List Record) → ReadAs payloads records → ReadAs (take room payloads) (take room records)
ReadAs-take zero payloads records read = tt
ReadAs-take (suc room) [] [] read = tt
ReadAs-take (suc room) [] (x ∷ records) read = absurd read
ReadAs-take (suc room) (text ∷ payloads) [] read = absurd read
ReadAs-take (suc room) (text ∷ payloads) (x ∷ records) read = (read.0, ReadAs-take room payloads records read.1)

pub ReadAs-drop : (room : ℕ) (payloads : List (List ℕ)) (records : List Record) → ReadAs payloads records → ReadAs (drop room payloads) (drop room records)
ReadAs-drop zero payloads records read = read
ReadAs-drop (suc room) [] [] read = tt
ReadAs-drop (suc room) [] (x ∷ records) read = absurd read
ReadAs-drop (suc room) (text ∷ payloads) [] read = absurd read
ReadAs-drop (suc room) (text ∷ payloads) (x ∷ records) read = ReadAs-drop room payloads records read.1

-- and one behind another
pub ReadAs-append : (page more : List (List ℕ)) (front back : List Record) → ReadAs page front → ReadAs more back → ReadAs (page ++ more) (front ++ back)
ReadAs-append [] more [] back read also = also
ReadAs-append [] more (x ∷ front) back read also = absurd read
ReadAs-append (text ∷ page) more [] back read also = absurd read
ReadAs-append (text ∷ page) more (x ∷ front) back read also = (read.0, ReadAs-append page more front back read.1 also)

recut : {X : Type 0} (room : ℕ) (first others : List X) → first ++ others ≡ (first ++ take room others) ++ drop room others
recut room first others = ap (λ (l : List _). first ++ l) (sym (take-append-drop room others)) ∙ sym (append_assoc first (take room others) (drop room others))

-- The next place lies behind records of the log too.
next_lies : (files : Files) (meta : MetaLog) (place next : Place) (room : ℕ) (texts : List (List ℕ)) → IsNext (Some files) meta.log place room texts next
    → AreNext (Some files) meta place room texts next
next_lies files meta place next room texts is first others lies =
    let found = is lies.before lies.past (subst (HoldsPayloads files meta.log) lies.split lies.kept.held) lies.place_is in
    let whole = recut room first others in
    let read = ReadAs-take room lies.past others lies.read_past in (
      found.0,
      subst (λ (l : List (List ℕ)). ReadAs l (take room others)) (sym found.0) read,
      record {
        kept = record {
          payloads = lies.kept.payloads;
          held = lies.kept.held;
          read = subst (ReadAs lies.kept.payloads) whole lies.kept.read;
          times = subst (TimesRise 0) whole lies.kept.times;
          front = lies.kept.front ∙ ap front_of_records whole;
        };
        before = lies.before ++ take room lies.past;
        past = drop room lies.past;
        split = lies.split ∙ recut room lies.before lies.past;
        read_before = ReadAs-append lies.before (take room lies.past) first (take room others) lies.read_before read;
        read_past = ReadAs-drop room lies.past others lies.read_past;
        place_is = found.1;
      },
    )

pub told_next_records : (told : Option Files) (meta : MetaLog) (place next : Place) (room : ℕ) (texts : List (List ℕ)) → IsNext told meta.log place room texts next → AreNext told meta place room texts next
told_next_records None meta place next room texts is = tt
told_next_records (Some files) meta place next room texts is = next_lies files meta place next room texts is

pub told_behind_records : (told now : Option Files) (meta : MetaLog) (place next : Place) (room : ℕ) (texts : List (List ℕ)) → now ≡ told → HoldsRecordPlace told meta place → IsNext told meta.log place room texts next
    → HoldsRecordPlace now meta next
told_behind_records None now meta place next room texts same keeps is = subst (λ o. HoldsRecordPlace o meta next) (sym same) ([], [], tt)
told_behind_records (Some files) now meta place next room texts same keeps is =
    let found = next_lies files meta place next room texts is keeps.0 keeps.1 keeps.2 in
    subst (λ o. HoldsRecordPlace o meta next) (sym same) (keeps.0 ++ take room keeps.1, drop room keeps.1, found.2)

-- What lies between records lies between payloads.
pub keeps_holds : (told : Option Files) (meta : MetaLog) (place : Place) → HoldsRecordPlace told meta place → HoldsPlace told meta.log place
keeps_holds None meta place keeps = tt
keeps_holds (Some files) meta place keeps = let lies = keeps.2 in (lies.before, lies.past, subst (HoldsPayloads files meta.log) lies.split lies.kept.held, lies.place_is)
