-- Records that are passed over, whatever the bytes of the file are.
use Rattle.std.proofs.Common.{◌≡◌, inl, inr, ℕ, ◌+◌, ◌≤◌, ◌<◌, List, [], ◌∷◌, ◌++◌, length, sym, ◌∙◌, ap, subst, arith, length-append, Option, Some, None}
use Rattle.std.specs.Prelude.{IfSome}
use Rattle.std.proofs.lemmas.List.Elements.{All-nil, All-cons, All-append}
use Rattle.weed_base.specs.Files.{Files, content}
use Rattle.name_core.specs.declared.change.Record.{Record}
use Rattle.meta_log.specs.Segment.{item, items}
use Rattle.meta_log.specs.Left.{StandsAt, NoItemAt, StandFrom, BreaksAt, batch_from, FillsOrEnds}
use Rattle.meta_log.specs.Kept.{ReadsAfter, BreaksAfter}
use Rattle.meta_log.specs.Records.{ReadsAs, IsNoRecord}
use Rattle.meta_log.specs.Skip.{PassesTo, StopsAt, NoRecordAt}
use Rattle.meta_log.proofs.Frames.{items-append, length-framed}
use Rattle.meta_log.proofs.RecordLists.{TellsTime}
use Rattle.meta_log.proofs.RecordPlaces.{ReadAs-append}
use Rattle.meta_log.proofs.Stands.{one_stands, stand_both}

module _ (bytes : List ℕ) (gate after : ℕ) where
  pub passes_none : (at : ℕ) → PassesTo bytes gate after at at
  passes_none at = record { texts = []; records = []; stand = tt; read = tt; early = All-nil (λ (r : Record). r.time ≤ after); place = omega arith }

  pub passes_one : (at later : ℕ) (text : List ℕ) (known : Record) → at < gate → StandsAt bytes at text → ReadsAs text known → known.time ≤ after → later ≡ at + (5 + length text) → PassesTo bytes gate after at later
  passes_one at later text known inside stands reads early is = record {
    texts = text ∷ [];
    records = known ∷ [];
    stand = (inside, stands, tt);
    read = (reads, tt);
    early = All-cons (λ (r : Record). r.time ≤ after) known [] early (All-nil (λ (r : Record). r.time ≤ after));
    place = omega (arith, is, length-append (item text) [], length-framed text);
  }

  pub passes_both : (from mid at : ℕ) → PassesTo bytes gate after from mid → PassesTo bytes gate after mid at → PassesTo bytes gate after from at
  passes_both from mid at front back = record {
    texts = front.texts ++ back.texts;
    records = front.records ++ back.records;
    stand = stand_both bytes gate from mid front.texts back.texts front.place front.stand back.stand;
    read = ReadAs-append front.texts back.texts front.records back.records front.read back.read;
    early = All-append (λ (r : Record). r.time ≤ after) front.records back.records front.early back.early;
    place = omega (arith, front.place, back.place, ap length (items-append front.texts back.texts), length-append (items front.texts) (items back.texts));
  }

-- what stands there is no record's text
unread_there : (bytes : List ℕ) (at : ℕ) (text : List ℕ) → StandsAt bytes at text → IsNoRecord text → NoRecordAt bytes at
unread_there bytes at text stands unread other there = subst IsNoRecord (one_stands bytes at text other stands there) unread

-- The same over a disk that is told or isn't.
pub told_passes_one : (told : Option Files) (name : List ℕ) (gate after at later time : ℕ) (text : List ℕ) (size : ℕ) (found : Option ℕ) → found ≡ Some time → time ≤ after → TellsTime text found → length text ≡ size → later ≡ at + (5 + size)
    → IfSome told (λ files. (at < gate) × StandsAt (content files name) at text) → IfSome told (λ files. PassesTo (content files name) gate after at later)
told_passes_one None name gate after at later time text size found is early tells counted later_is stands = tt
told_passes_one (Some files) name gate after at later time text size found is early tells counted later_is stands =
    let known = subst (TellsTime text) is tells in
    passes_one (content files name) gate after at later text known.0 stands.0 stands.1 known.1 (omega (arith, early, known.2)) (omega (arith, later_is, counted))

pub told_stops_late : (told : Option Files) (name : List ℕ) (gate after at now time : ℕ) (text : List ℕ) (found : Option ℕ) → found ≡ Some time → after < time → TellsTime text found → now ≡ at
    → IfSome told (λ files. (at < gate) × StandsAt (content files name) at text) → IfSome told (λ files. (now ≡ at) × StopsAt (content files name) gate after now)
told_stops_late None name gate after at now time text found is late tells same stands = tt
told_stops_late (Some files) name gate after at now time text found is late tells same stands =
    let known = subst (TellsTime text) is tells in
    (same, inr (text, known.0, subst (λ (n : ℕ). StandsAt (content files name) n text) (sym same) stands.1, known.1, omega (arith, late, known.2)))

pub told_stops_gate : (told : Option Files) (name : List ℕ) (gate after at now : ℕ) → now ≡ at → IfSome told (λ files. gate ≤ at) → IfSome told (λ files. (now ≡ at) × StopsAt (content files name) gate after now)
told_stops_gate None name gate after at now same past = tt
told_stops_gate (Some files) name gate after at now same past = (same, inl (omega (arith, same, past)))

pub told_unread_there : (told : Option Files) (name : List ℕ) (gate at now : ℕ) (text : List ℕ) (found : Option ℕ) → found ≡ None → TellsTime text found → now ≡ at
    → IfSome told (λ files. (at < gate) × StandsAt (content files name) at text) → IfSome told (λ files. NoRecordAt (content files name) now)
told_unread_there None name gate at now text found is tells same stands = tt
told_unread_there (Some files) name gate at now text found is tells same stands =
    subst (λ (n : ℕ). NoRecordAt (content files name) n) (sym same) (unread_there (content files name) at text stands.1 (subst (TellsTime text) is tells))

pub told_none_there : (told : Option Files) (name : List ℕ) (at : ℕ) → IfSome told (λ files. NoItemAt (content files name) at) → IfSome told (λ files. NoRecordAt (content files name) at)
told_none_there None name at none = tt
told_none_there (Some files) name at none = λ text stands. absurd (none text stands)

-- What was passed over so far, with one more.
pub told_passes_none : (told : Option Files) (name : List ℕ) (gate after at : ℕ) → IfSome told (λ files. PassesTo (content files name) gate after at at)
told_passes_none None name gate after at = tt
told_passes_none (Some files) name gate after at = passes_none (content files name) gate after at

pub told_passes_more : (told now : Option Files) (name : List ℕ) (gate after from mid at : ℕ) → now ≡ told → IfSome told (λ files. PassesTo (content files name) gate after from mid) → IfSome now (λ files. PassesTo (content files name) gate after mid at)
    → IfSome told (λ files. PassesTo (content files name) gate after from at)
told_passes_more None now name gate after from mid at same front back = tt
told_passes_more (Some files) now name gate after from mid at same front back =
    passes_both (content files name) gate after from mid at front (subst (λ o. IfSome o (λ f. PassesTo (content f name) gate after mid at)) same back)

pub told_passes_stop : (told now : Option Files) (name : List ℕ) (gate after from mid at : ℕ) → now ≡ told → IfSome told (λ files. PassesTo (content files name) gate after from mid)
    → IfSome now (λ files. (at ≡ mid) × StopsAt (content files name) gate after at) → IfSome told (λ files. PassesTo (content files name) gate after from at × StopsAt (content files name) gate after at)
told_passes_stop None now name gate after from mid at same front stops = tt
told_passes_stop (Some files) now name gate after from mid at same front stops =
    let here = subst (λ o. IfSome o (λ f. (at ≡ mid) × StopsAt (content f name) gate after at)) same stops in
    (subst (PassesTo (content files name) gate after from) (sym here.0) front, here.1)

pub told_passes_break : (told now : Option Files) (name : List ℕ) (gate after from mid at : ℕ) → now ≡ told → IfSome told (λ files. PassesTo (content files name) gate after from mid)
    → (at ≡ mid) × IfSome now (λ files. NoRecordAt (content files name) at) → IfSome told (λ files. PassesTo (content files name) gate after from at × NoRecordAt (content files name) at)
told_passes_break None now name gate after from mid at same front breaks = tt
told_passes_break (Some files) now name gate after from mid at same front breaks =
    (subst (PassesTo (content files name) gate after from) (sym breaks.0) front, subst (λ o. IfSome o (λ f. NoRecordAt (content f name) at)) same breaks.1)

-- A reading began at the start, passed over records up to the time, and a batch was collected.
pub told_reads_after : (told mid now : Option Files) (name file : List ℕ) (gate after room begun at next : ℕ) (collected texts : List (List ℕ)) → name ≡ file → mid ≡ told → now ≡ mid → texts ≡ collected → begun ≡ 0
    → IfSome mid (λ files. PassesTo (content files name) gate after begun at × StopsAt (content files name) gate after at) → IfSome now (λ files. StandFrom (content files name) gate at collected)
    → batch_from 67108864 room 0 collected ≡ collected → next ≡ at + length (items collected) → FillsOrEnds room 67108864 gate next collected → IfSome told (λ files. ReadsAfter (content files file) gate after room texts)
told_reads_after None mid now name file gate after room begun at next collected texts name_is same_mid same_now texts_is start passes stand few next_is whole = tt
told_reads_after (Some files) mid now name file gate after room begun at next collected texts name_is same_mid same_now texts_is start passes stand few next_is whole =
    let passed = subst (λ o. IfSome o (λ f. PassesTo (content f name) gate after begun at × StopsAt (content f name) gate after at)) same_mid passes in
    let here = subst (λ o. IfSome o (λ f. StandFrom (content f name) gate at collected)) (same_now ∙ same_mid) stand in
    let P : List ℕ → Type 0 = λ n. ReadsAfter (content files n) gate after room texts in
    let Q : List (List ℕ) → Type 0 = λ l. ReadsAfter (content files name) gate after room l in
    subst P name_is (subst Q (sym texts_is) (record {
      at = at;
      passed = subst (λ (n : ℕ). PassesTo (content files name) gate after n at) start passed.0;
      stops = passed.1;
      stand = here;
      few = few;
      whole = subst (λ (n : ℕ). FillsOrEnds room 67108864 gate n collected) next_is whole;
    }))

-- Where no record stands there, among those that are passed over
pub told_breaks_passing : (told mid : Option Files) (name file : List ℕ) (gate after room begun at : ℕ) → name ≡ file → mid ≡ told → begun ≡ 0 → at < gate
    → IfSome mid (λ files. PassesTo (content files name) gate after begun at × NoRecordAt (content files name) at) → IfSome told (λ files. BreaksAfter (content files file) gate after room at)
told_breaks_passing None mid name file gate after room begun at name_is same start inside breaks = tt
told_breaks_passing (Some files) mid name file gate after room begun at name_is same start inside breaks =
    let here = subst (λ o. IfSome o (λ f. PassesTo (content f name) gate after begun at × NoRecordAt (content f name) at)) same breaks in
    let P : List ℕ → Type 0 = λ n. BreaksAfter (content files n) gate after room at in
    subst P name_is (inl (subst (λ (n : ℕ). PassesTo (content files name) gate after n at) start here.0, inside, here.1))

-- Or no item among those that are collected
pub told_breaks_behind : (told mid now : Option Files) (name file : List ℕ) (gate after room begun from at : ℕ) → name ≡ file → mid ≡ told → now ≡ mid → begun ≡ 0
    → IfSome mid (λ files. PassesTo (content files name) gate after begun from × StopsAt (content files name) gate after from)
    → IfSome now (λ files. BreaksAt (content files name) gate room 67108864 from at) → IfSome told (λ files. BreaksAfter (content files file) gate after room at)
told_breaks_behind None mid now name file gate after room begun from at name_is same_mid same_now start passes breaks = tt
told_breaks_behind (Some files) mid now name file gate after room begun from at name_is same_mid same_now start passes breaks =
    let passed = subst (λ o. IfSome o (λ f. PassesTo (content f name) gate after begun from × StopsAt (content f name) gate after from)) same_mid passes in
    let here = subst (λ o. IfSome o (λ f. BreaksAt (content f name) gate room 67108864 from at)) (same_now ∙ same_mid) breaks in
    let P : List ℕ → Type 0 = λ n. BreaksAfter (content files n) gate after room at in
    subst P name_is (inr (from, subst (λ (n : ℕ). PassesTo (content files name) gate after n from) start passed.0, passed.1, here))
