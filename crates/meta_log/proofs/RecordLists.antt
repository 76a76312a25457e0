-- Lists of records that grow at their end, and what a disk holds of them.
use Rattle.std.proofs.Common.{◌≡◌, ◌⊎◌, inl, inr, ℕ, ◌+◌, ◌≤◌, ◌<◌, List, [], ◌∷◌, ◌++◌, length, refl, sym, ◌∙◌, ap, subst, arith, Option, Some, None}
use Rattle.std.specs.Prelude.{MatchOption}
use Rattle.std.proofs.lemmas.List.{length_push}
use Rattle.weed_base.specs.Files.{Files, BothTold}
use Rattle.name_core.specs.declared.change.Record.{Record}
use Rattle.name_core.specs.Log.{TimesRise, last_time, last_time_from, end_of_time}
use Rattle.meta_log.specs.LogText.{segment_name, IsAllowed, HasSegment, IsLogText, ChangesOnly}
use Rattle.meta_log.specs.Held.{HoldsPayloads, TellsPayloads, TellsText, IsEither, TellsEither, stem_of}
use Rattle.meta_log.specs.Records.{ReadsAs, IsNoRecord, ReadAs, AreRecords, HasFront}
use Rattle.meta_log.specs.Kept.{HoldsRecords, TellsRecords, TellsEitherLog, front_of}
use Rattle.meta_log.proofs.RecordTimes.{time_bounded}
use Rattle.meta_log.specs.declared.stem.Stem.{Stem}
use Rattle.meta_log.specs.declared.stem.Stem.TheVariants.{Log}
use Rattle.meta_log.specs.declared.front.Front.{Front}
use Rattle.meta_log.specs.declared.gate_log.GateLog.{GateLog}
use Rattle.meta_log.specs.declared.meta_log.MetaLog.{MetaLog}
use Rattle.meta_log.proofs.Unique.{text_unique}

pub ReadAs-push : (payloads : List (List ℕ)) (records : List Record) (text : List ℕ) (known : Record) → ReadAs payloads records → ReadsAs text known → ReadAs (payloads ++ text ∷ []) (records ++ known ∷ [])
ReadAs-push [] [] text known read reads = (reads, tt)
ReadAs-push [] (first ∷ records) text known read reads = absurd read
ReadAs-push (payload ∷ payloads) [] text known read reads = absurd read
ReadAs-push (payload ∷ payloads) (first ∷ records) text known read reads = (read.0, ReadAs-push payloads records text known read.1 reads)

-- one list of records a list of payloads
cons : (a b : Record) (xs ys : List Record) → a ≡ b → xs ≡ ys → a ∷ xs ≡ b ∷ ys
cons a b xs ys p q i = p i ∷ q i

pub one_record : (text : List ℕ) (a b : Record) → ReadsAs text a → ReadsAs text b → a ≡ b
one_record text a b one two = cc

pub ReadAs-unique : (payloads : List (List ℕ)) (a b : List Record) → ReadAs payloads a → ReadAs payloads b → a ≡ b
ReadAs-unique [] [] [] one two = refl
ReadAs-unique [] [] (y ∷ ys) one two = absurd two
ReadAs-unique [] (x ∷ xs) b one two = absurd one
ReadAs-unique (payload ∷ payloads) [] b one two = absurd one
ReadAs-unique (payload ∷ payloads) (x ∷ xs) [] one two = absurd two
ReadAs-unique (payload ∷ payloads) (x ∷ xs) (y ∷ ys) one two = cons x y xs ys (one_record payload x y one.0 two.0) (ReadAs-unique payloads xs ys one.1 two.1)

-- the last payload reads as the last record
pub ReadAs-last : (payloads : List (List ℕ)) (text : List ℕ) (records : List Record) → ReadAs (payloads ++ text ∷ []) records
    → (before : List Record) × (last : Record) × (records ≡ before ++ last ∷ []) × ReadAs payloads before × ReadsAs text last
ReadAs-last [] text [] read = absurd read
ReadAs-last [] text (x ∷ []) read = ([], x, refl, tt, read.0)
ReadAs-last [] text (x ∷ y ∷ xs) read = absurd read.1
ReadAs-last (payload ∷ payloads) text [] read = absurd read
ReadAs-last (payload ∷ payloads) text (x ∷ xs) read =
    let rest = ReadAs-last payloads text xs read.1 in
    (x ∷ rest.0, rest.1, ap (λ (l : List Record). x ∷ l) rest.2, (read.0, rest.3), rest.4)

pub TimesRise-last : (before : ℕ) (records : List Record) (known : Record) → TimesRise before (records ++ known ∷ []) → last_time_from before records < known.time
TimesRise-last before [] known rise = rise.0
TimesRise-last before (first ∷ records) known rise = TimesRise-last first.time records known rise.2

pub last_time_from-push : (before : ℕ) (records : List Record) (known : Record) → last_time_from before (records ++ known ∷ []) ≡ known.time
last_time_from-push before [] known = refl
last_time_from-push before (first ∷ records) known = last_time_from-push first.time records known

pub TimesRise-push : (before : ℕ) (records : List Record) (known : Record) → TimesRise before records → last_time_from before records < known.time → known.time ≤ end_of_time → TimesRise before (records ++ known ∷ [])
TimesRise-push before [] known rise past bounded = (past, bounded, tt)
TimesRise-push before (first ∷ records) known rise past bounded = (rise.0, rise.1, TimesRise-push first.time records known rise.2 past bounded)

-- what a check of records says of the next payload
pub front_passed : (front : Front) (before : List (List ℕ)) (text : List ℕ) (known : Record) → HasFront front before → ReadsAs text known → front.time < known.time
    → HasFront (record { count = front.count + 1; time = known.time }) (before ++ text ∷ [])
front_passed front before text known has reads past =
    let times = subst (λ (f : Front). f.time < known.time) has.3 past in (
      has.0 ++ known ∷ [],
      ReadAs-push before has.0 text known has.1 reads,
      TimesRise-push 0 has.0 known has.2 times (time_bounded text known reads),
      ap (λ (f : Front). let g : Front = record { count = f.count + 1; time = known.time } in g) has.3
          ∙ ap (λ (n : ℕ). let g : Front = record { count = n; time = known.time } in g) (sym (length_push has.0 known))
          ∙ ap (λ (n : ℕ). let g : Front = record { count = length (has.0 ++ known ∷ []); time = n } in g) (sym (last_time_from-push 0 has.0 known)),
    )

pub front_refused : (front : Front) (before : List (List ℕ)) (text : List ℕ) → HasFront front before → ((known : Record) → ReadsAs text known → known.time ≤ front.time) → ¬ AreRecords (before ++ text ∷ [])
front_refused front before text has late = λ all.
    let split = ReadAs-last before text all.0 all.1 in
    let same = ReadAs-unique before split.0 has.0 split.3 has.1 in
    let rise = TimesRise-last 0 split.0 split.1 (subst (λ (l : List Record). TimesRise 0 l) split.2 all.2) in
    let past = subst (λ (l : List Record). last_time l < split.1.time) same rise in
    omega (arith, past, late split.1 split.4, ap (λ (f : Front). f.time) has.3)

-- what a reading of the payload's time tells
abbrev pub TellsTime : List ℕ → Option ℕ → Type 0
TellsTime text found = MatchOption found (IsNoRecord text) (λ time. (known : Record) × ReadsAs text known × (known.time ≡ time))

pub time_passed : (front : Front) (before : List (List ℕ)) (text : List ℕ) (found : Option ℕ) (time : ℕ) → found ≡ Some time → TellsTime text found → HasFront front before → front.time < time
    → HasFront (record { count = front.count + 1; time = time }) (before ++ text ∷ [])
time_passed front before text found time is tells has past =
    let known = subst (TellsTime text) is tells in
    subst (λ (n : ℕ). HasFront (record { count = front.count + 1; time = n }) (before ++ text ∷ [])) known.2
    (front_passed front before text known.0 has known.1 (omega (arith, past, known.2)))

pub time_refused : (front : Front) (before : List (List ℕ)) (text : List ℕ) (found : Option ℕ) (time : ℕ) → found ≡ Some time → TellsTime text found → HasFront front before → time ≤ front.time → ¬ AreRecords (before ++ text ∷ [])
time_refused front before text found time is tells has late =
    let known = subst (TellsTime text) is tells in
    front_refused front before text has (λ other reads. omega (arith, late, known.2, ap (λ (r : Record). r.time) (one_record text other known.0 reads known.1)))

pub none_refused : (front : Front) (before : List (List ℕ)) (text : List ℕ) (found : Option ℕ) → found ≡ None → TellsTime text found → HasFront front before → ¬ AreRecords (before ++ text ∷ [])
none_refused front before text found is tells has =
    let nothing = subst (TellsTime text) is tells in
    front_refused front before text has (λ other reads. absurd (nothing other reads))

-- The list grows by a record.
module _ (records : List Record) (known : Record) (text : List ℕ) (reads : ReadsAs text known) (past : last_time records < known.time) where
  pub grown : (payloads : List (List ℕ)) → ReadAs payloads records → TimesRise 0 records → ReadAs (payloads ++ text ∷ []) (records ++ known ∷ []) × TimesRise 0 (records ++ known ∷ [])
  grown payloads read rise = (ReadAs-push payloads records text known read reads, TimesRise-push 0 records known rise past (time_bounded text known reads))

-- An append that was done.
pub record_appended : (old new : Option Files) (meta later : MetaLog) (text : List ℕ) → BothTold (ChangesOnly (segment_name Log 1)) old new
    → ((payloads : List (List ℕ)) → TellsPayloads old meta.log payloads → TellsPayloads new later.log (payloads ++ text ∷ []))
    → (records : List Record) (known : Record) → TellsRecords old meta records → ReadsAs text known → (front_of meta).time < known.time
    → front_of later ≡ record { count = (front_of meta).count + 1; time = known.time } → TellsRecords new later (records ++ known ∷ [])
record_appended old None meta later text told appended records known held reads past front = tt
record_appended None (Some new) meta later text told appended records known held reads past front = absurd told
record_appended (Some old) (Some new) meta later text told appended records known held reads past front =
    let more = grown records known text reads (subst (λ (f : Front). f.time < known.time) held.front past) held.payloads held.read held.times in
    record {
      payloads = held.payloads ++ text ∷ [];
      held = appended held.payloads held.held;
      read = more.0;
      times = more.1;
      front = front
          ∙ ap (λ (f : Front). let g : Front = record { count = f.count + 1; time = known.time } in g) held.front
          ∙ ap (λ (n : ℕ). let g : Front = record { count = n; time = known.time } in g) (sym (length_push records known))
          ∙ ap (λ (n : ℕ). let g : Front = record { count = length (records ++ known ∷ []); time = n } in g) (sym (last_time_from-push 0 records known));
    }

-- One that failed.
pub record_failed : (old new : Option Files) (meta : MetaLog) (text : List ℕ) → BothTold (ChangesOnly (segment_name Log 1)) old new → stem_of meta.log ≡ Log
    → ((payloads : List (List ℕ)) → TellsPayloads old meta.log payloads → TellsEither (stem_of meta.log) new payloads text)
    → (records : List Record) (known : Record) → TellsRecords old meta records → ReadsAs text known → (front_of meta).time < known.time → TellsEitherLog new records known
record_failed old None meta text told is_log failed records known held reads past = tt
record_failed None (Some new) meta text told is_log failed records known held reads past = absurd told
record_failed (Some old) (Some new) meta text told is_log failed records known held reads past =
    let more = grown records known text reads (subst (λ (f : Front). f.time < known.time) held.front past) held.payloads held.read held.times in
    let outcome = subst (λ (s : Stem). IsLogText s new held.payloads ⊎ IsLogText s new (held.payloads ++ text ∷ [])) is_log (failed held.payloads held.held) in
    elim outcome [
      | inl same ↦ inl (record { payloads = held.payloads; text = same; read = held.read; times = held.times })
      | inr other ↦ inr (record { payloads = held.payloads ++ text ∷ []; text = other; read = more.0; times = more.1 })
    ]

-- What a log of records holds is the text of its disk.
held_text : (files : Files) (meta : MetaLog) (records : List Record) (payloads : List (List ℕ)) → meta.log.stem ≡ Log → HoldsRecords files meta records → IsLogText Log files payloads → HoldsPayloads files meta.log payloads
held_text files meta records payloads is_log kept text =
    let segment = subst (λ (s : Stem). HasSegment (IsAllowed s) s files kept.payloads) is_log kept.held.segment in
    subst (HoldsPayloads files meta.log) (text_unique (IsAllowed Log) (IsAllowed Log) Log files kept.payloads payloads (inr segment) text) kept.held

-- An append that was done, by its texts.
pub texts_appended : (old new : Option Files) (meta : MetaLog) (later : GateLog) (text : List ℕ) (records : List Record) → BothTold (ChangesOnly (segment_name Log 1)) old new → meta.log.stem ≡ Log → later.stem ≡ meta.log.stem
    → TellsRecords old meta records → ((payloads : List (List ℕ)) → TellsPayloads old meta.log payloads → TellsPayloads new later (payloads ++ text ∷ []))
    → (payloads : List (List ℕ)) → TellsText Log old payloads → TellsText Log new (payloads ++ text ∷ [])
texts_appended old None meta later text records told is_log same kept appended payloads was = tt
texts_appended None (Some new) meta later text records told is_log same kept appended payloads was = absurd told
texts_appended (Some old) (Some new) meta later text records told is_log same kept appended payloads was =
    let now = appended payloads (held_text old meta records payloads is_log kept was) in
    inr (subst (λ (s : Stem). HasSegment (IsAllowed s) s new (payloads ++ text ∷ [])) (same ∙ is_log) now.segment)

-- One that failed.
pub texts_failed : (old new : Option Files) (meta : MetaLog) (text : List ℕ) (records : List Record) → BothTold (ChangesOnly (segment_name Log 1)) old new → meta.log.stem ≡ Log
    → TellsRecords old meta records → ((payloads : List (List ℕ)) → TellsPayloads old meta.log payloads → TellsEither (stem_of meta.log) new payloads text)
    → (payloads : List (List ℕ)) → TellsText Log old payloads → TellsEither Log new payloads text
texts_failed old None meta text records told is_log kept failed payloads was = tt
texts_failed None (Some new) meta text records told is_log kept failed payloads was = absurd told
texts_failed (Some old) (Some new) meta text records told is_log kept failed payloads was =
    subst (λ (s : Stem). IsEither s payloads text new) is_log (failed payloads (held_text old meta records payloads is_log kept was))
