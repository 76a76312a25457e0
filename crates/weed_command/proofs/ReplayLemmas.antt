-- Records that are taken from a log in their order.
use Rattle.std.proofs.Common.{◌≡◌, ℕ, zero, suc, ◌+◌, ◌-◌, ◌<◌, List, [], ◌∷◌, ◌++◌, length, take, drop, get_or, ◌≤◌, ◌⊎◌, Option, Some, None, refl, sym, ap, ◌∙◌, subst, arith, append_assoc, length-append, inl, inr}
use Rattle.std.specs.Prelude.{IfSome}
use Rattle.std.specs.FinMap.{empty}
use Rattle.std.proofs.lemmas.List.{append-nil, take-append-drop, take_more, drop_more, nil_from_length}
use Rattle.weed_base.specs.Files.{Files, content}
use Rattle.name_core.specs.declared.change.Change.{Change}
use Rattle.name_core.specs.declared.change.Record.{Record}
use Rattle.name_core.specs.Namespace.{Namespace, after_changes}
use Rattle.name_core.specs.Log.{changes_of, fold}
use Rattle.name_core.proofs.NamespaceLemmas.{after_changes-append}
use Rattle.meta_log.specs.LogText.{IsAllowed}
use Rattle.meta_log.specs.Segment.{items}
use Rattle.meta_log.specs.Left.{BreaksAt}
use Rattle.meta_log.specs.Places.{place_behind, begins_at, ReadsFrom}
use Rattle.meta_log.specs.Records.{ReadsAs, IsNoRecord, ReadAs}
use Rattle.meta_log.specs.Kept.{HoldsRecords, TellsRecords, HoldsMetaLog, front_of}
use Rattle.meta_log.specs.RecordPlaces.{AreNext, HoldsRecordPlace}
use Rattle.meta_log.specs.declared.front.Front.{Front}
use Rattle.meta_log.specs.declared.meta_log.MetaLog.{MetaLog}
use Rattle.meta_log.specs.declared.place.Place.{Place}
use Rattle.meta_log.proofs.Frames.{items-append}
use Rattle.meta_log.proofs.Stands.{stand_both, stand_within}
use Rattle.meta_log.proofs.RecordLists.{ReadAs-unique}
use Rattle.meta_log.proofs.RecordPlaces.{ReadAs-append, start_lies}
use Rattle.meta_log.proofs.Unique.{text_unique}
use Rattle.weed_command.specs.NameTable.{names_of}
use Rattle.weed_command.specs.Replay.{Takes, TakesMany, AreUnreadable, HoldsTaken, HoldsNames, TakesFrom, BlamesBehind, IsToBlame}
use Rattle.weed_command.specs.declared.name_table.NameTable.{NameTable}

-- What two lists of records leave
changes_of_both : (old new : List Record) → changes_of (old ++ new) ≡ changes_of old ++ changes_of new
changes_of_both [] new = refl
changes_of_both (x ∷ old) new = ap (λ (l : List Change). x.changes ++ l) (changes_of_both old new) ∙ sym (append_assoc x.changes (changes_of old) (changes_of new))

after_both : (old new : List Record) (names : Namespace) → after_changes (changes_of (old ++ new)) names ≡ after_changes (changes_of new) (after_changes (changes_of old) names)
after_both old new names = ap (λ (l : List Change). after_changes l names) (changes_of_both old new) ∙ after_changes-append (changes_of old) (changes_of new) names

-- One text
pub takes_one : (text : List ℕ) (known : Record) (old new : Namespace) → ReadsAs text known → new ≡ after_changes known.changes old → Takes (text ∷ []) old new
takes_one text known old new reads names = record {
  records = known ∷ [];
  read = (reads, tt);
  names = names ∙ ap (λ (l : List Change). after_changes l old) (sym (append-nil known.changes));
}

-- Texts behind others
takes_more : (page more : List (List ℕ)) (first second third : Namespace) → Takes page first second → Takes more second third → Takes (page ++ more) first third
takes_more page more first second third front back = record {
  records = front.records ++ back.records;
  read = ReadAs-append page more front.records back.records front.read back.read;
  names = back.names ∙ ap (after_changes (changes_of back.records)) front.names ∙ sym (after_both front.records back.records first);
}

-- None are taken, and more behind others
pub takes_none : (names : Namespace) (front count : ℕ) → names ≡ empty → count ≡ front → TakesMany (front - count) empty names
takes_none names front count none same = ([], record { records = []; read = tt; names = none }, omega (arith, same))

pub takes_both : (front before after : ℕ) (first second third : Namespace) → after < before → TakesMany (front - before) first second → TakesMany (before - after) second third → TakesMany (front - after) first third
takes_both front before after first second third less (page, takes, count) (more, takes', count') =
    (page ++ more, takes_more page more first second third takes takes', omega (arith, less, count, count', length-append page more))

-- A text that is no record's among others
unread_within : (page : List (List ℕ)) (text : List ℕ) (more : List (List ℕ)) → IsNoRecord text → AreUnreadable (page ++ text ∷ more)
unread_within [] text more unread [] read = absurd read
unread_within [] text more unread (x ∷ records) read = unread x read.0
unread_within (other ∷ page) text more unread [] read = absurd read
unread_within (other ∷ page) text more unread (x ∷ records) read = unread_within page text more unread records read.1

-- The text at an index
module _ (texts : List (List ℕ)) (i : ℕ) (item piece : List ℕ) (within : i < length texts) (item_is : item ≡ get_or texts i item) (piece_is : piece ≡ item) where
  piece_at : get_or texts i item ≡ piece
  piece_at = sym item_is ∙ sym piece_is

  one_more : take (i + 1) texts ≡ take i texts ++ piece ∷ []
  one_more = take_more texts i item within ∙ ap (λ (x : List ℕ). take i texts ++ x ∷ []) piece_at

  all_texts : texts ≡ take i texts ++ (piece ∷ drop (i + 1) texts)
  all_texts = sym (take-append-drop i texts) ∙ ap (λ (l : List (List ℕ)). take i texts ++ l) (drop_more texts i item within ∙ ap (λ (x : List ℕ). x ∷ drop (i + 1) texts) piece_at)

  pub takes_step : (first second third : Namespace) → Takes (take i texts) first second → Takes (piece ∷ []) second third → Takes (take (i + 1) texts) first third
  takes_step first second third front more =
      subst (λ (l : List (List ℕ)). Takes l first third) (sym one_more) (takes_more (take i texts) (piece ∷ []) first second third front more)

  pub takes_ends : IsNoRecord piece → AreUnreadable texts
  takes_ends unread = subst AreUnreadable (sym all_texts) (unread_within (take i texts) piece (drop (i + 1) texts) unread)

-- Files hold one list of records.
records_unique : (files : Files) (log : MetaLog) (a b : List Record) → HoldsRecords files log a → HoldsRecords files log b → a ≡ b
records_unique files log a b one two =
    let allowed = IsAllowed log.log.stem in
    let same = text_unique allowed allowed log.log.stem files one.payloads two.payloads (inr one.held.segment) (inr two.held.segment) in
    ReadAs-unique two.payloads a b (subst (λ (l : List (List ℕ)). ReadAs l a) same one.read) two.read

-- As many texts as records
same_length : (texts : List (List ℕ)) (records : List Record) → ReadAs texts records → length texts ≡ length records
same_length [] [] read = refl
same_length [] (x ∷ records) read = absurd read
same_length (text ∷ texts) [] read = absurd read
same_length (text ∷ texts) (x ∷ records) read = ap suc (same_length texts records read.1)

left_behind : {X : Type 0} (room : ℕ) (others : List X) → length others - length (take room others) ≡ length (drop room others)
left_behind room others =
    let whole = ap length (take-append-drop room others) in
    omega (arith, whole, length-append (take room others) (drop room others))

-- Before the first page nothing is taken.
pub none_taken : (told : Option Files) (log : MetaLog) (names : NameTable) (place : Place) (left : ℕ) → (records : List Record) × TellsRecords told log records
    → names_of names ≡ empty → place ≡ place_behind [] → left ≡ (front_of log).count → HoldsTaken told log names place left
none_taken None log names place left held none begins count = tt
none_taken (Some files) log names place left held none begins count =
    record {
      taken = [];
      others = held.0;
      lies = start_lies files log place held.0 held.1 begins;
      names_are = none;
      left_is = count ∙ ap (λ (f : Front). f.count) held.1.front;
    }

-- What is taken keeps its place.
pub taken_keeps : (told : Option Files) (log : MetaLog) (names : NameTable) (place : Place) (left : ℕ) → HoldsTaken told log names place left → HoldsRecordPlace told log place
taken_keeps None log names place left taken = ([], [], tt)
taken_keeps (Some files) log names place left taken = (taken.taken, taken.others, taken.lies)

-- With a page that was taken, more records are taken.
pub more_taken : (told : Option Files) (log : MetaLog) (old new : NameTable) (place next : Place) (left room : ℕ) (texts : List (List ℕ)) → HoldsTaken told log old place left
    → AreNext told log place room texts next → Takes texts (names_of old) (names_of new) → HoldsTaken told log new next (left - length texts)
more_taken None log old new place next left room texts taken is takes = tt
more_taken (Some files) log old new place next left room texts taken is takes =
    let page = is taken.taken taken.others taken.lies in
    let same = ReadAs-unique texts takes.records (take room taken.others) takes.read page.1 in
    record {
      taken = taken.taken ++ take room taken.others;
      others = drop room taken.others;
      lies = page.2;
      names_are = takes.names
          ∙ ap (after_changes (changes_of takes.records)) taken.names_are
          ∙ sym (after_both taken.taken takes.records empty)
          ∙ ap (λ (l : List Record). fold (taken.taken ++ l)) same;
      left_is = ap (λ (n : ℕ). n - length texts) taken.left_is
          ∙ ap (λ (n : ℕ). length taken.others - n) (same_length texts (take room taken.others) page.1)
          ∙ left_behind room taken.others;
    }

-- Where none is left, all are.
all_taken : (told : Option Files) (log : MetaLog) (names : NameTable) (place : Place) (left : ℕ) → left ≡ 0 → HoldsTaken told log names place left → HoldsNames told log names
all_taken None log names place left none taken = tt
all_taken (Some files) log names place left none taken = λ records kept.
    let nothing = nil_from_length taken.others (sym taken.left_is ∙ none) in
    let whole : taken.taken ++ taken.others ≡ taken.taken = ap (λ (l : List Record). taken.taken ++ l) nothing ∙ append-nil taken.taken in
    taken.names_are ∙ ap fold (sym whole ∙ records_unique files log (taken.taken ++ taken.others) records taken.lies.kept kept)

pub all_names : (told : Option Files) (log : MetaLog) (names : NameTable) (place : Place) (left : ℕ) → left ≡ 0 → (HoldsMetaLog told log → HoldsTaken told log names place left) → HoldsNames told log names
all_names None log names place left none taken = tt
all_names (Some files) log names place left none taken = λ records kept. all_taken (Some files) log names place left none (taken (records, kept)) records kept

-- Only a disk that tells nothing gives a page with nothing, where records are left, or with other texts.
pub untold_empty : (told : Option Files) (log : MetaLog) (names : NameTable) (place next : Place) (left room : ℕ) (texts : List (List ℕ)) → 0 < left → 0 < room → HoldsTaken told log names place left
    → AreNext told log place room texts next → length texts ≡ 0 → told ≡ None
untold_empty None log names place next left room texts more wide taken is none = refl
untold_empty (Some files) log names place next left room texts more wide taken is none =
    let page = is taken.taken taken.others taken.lies in
    absurd (filled room taken.others wide (omega (arith, more, taken.left_is)) (sym (same_length texts (take room taken.others) page.1) ∙ none))
  where
    filled : {X : Type 0} (room : ℕ) (others : List X) → 0 < room → 0 < length others → ¬ (length (take room others) ≡ 0)
    filled zero others wide some none = omega (arith, wide)
    filled (suc room) [] wide some none = omega (arith, some)
    filled (suc room) (x ∷ others) wide some none = omega (arith, none)

pub untold_unread : (told : Option Files) (log : MetaLog) (names : NameTable) (place next : Place) (left room : ℕ) (texts : List (List ℕ)) → HoldsTaken told log names place left
    → AreNext told log place room texts next → AreUnreadable texts → told ≡ None
untold_unread None log names place next left room texts taken is unread = refl
untold_unread (Some files) log names place next left room texts taken is unread = absurd (unread (take room taken.others) (is taken.taken taken.others taken.lies).1)

-- What is read of a file, whatever its bytes are.

-- The records of texts behind others
ReadAs-behind : (page more : List (List ℕ)) (records : List Record) → ReadAs (page ++ more) records → (others : List Record) × ReadAs more others
ReadAs-behind [] more records read = (records, read)
ReadAs-behind (text ∷ page) more [] read = absurd read
ReadAs-behind (text ∷ page) more (x ∷ records) read = ReadAs-behind page more records read.1

unread_behind : (page more : List (List ℕ)) → AreUnreadable more → AreUnreadable (page ++ more)
unread_behind page more unread records read = let behind = ReadAs-behind page more records read in unread behind.0 behind.1

module _ (bytes : List ℕ) (gate : ℕ) where
  -- The next page begins right behind the last.
  begins_behind : (place : Place) (count left : ℕ) (first second : Namespace) → TakesFrom bytes gate 0 place.at count left first second → begins_at bytes place ≡ place.at
  begins_behind place count left first second so_far = omega (arith, so_far.place, stand_within bytes gate 0 so_far.texts (omega arith) so_far.stand)

  takes_from_both : (mid at count left less : ℕ) (first second third : Namespace) → TakesFrom bytes gate 0 mid count left first second → TakesFrom bytes gate mid at left less second third → TakesFrom bytes gate 0 at count less first third
  takes_from_both mid at count left less first second third front back = record {
    texts = front.texts ++ back.texts;
    stand = stand_both bytes gate 0 mid front.texts back.texts front.place front.stand back.stand;
    takes = takes_more front.texts back.texts first second third front.takes back.takes;
    place = omega (arith, front.place, back.place, ap length (items-append front.texts back.texts), length-append (items front.texts) (items back.texts));
    left_is = omega (arith, front.left_is, back.left_is, length-append front.texts back.texts);
  }

  blames_behind : (mid at count left : ℕ) (first second : Namespace) → (front : TakesFrom bytes gate 0 mid count left first second) → (texts : List (List ℕ)) → BlamesBehind bytes gate mid at left texts → BlamesBehind bytes gate 0 at count (front.texts ++ texts)
  blames_behind mid at count left first second front texts (inl broken) =
      let long = ap length (items-append front.texts texts) in
      inl (omega (arith, broken.0, front.place, long, length-append (items front.texts) (items texts)), broken.1, broken.2)
  blames_behind mid at count left first second front texts (inr (start, inl unread)) = inr (start, inl (unread_behind front.texts texts unread))
  blames_behind mid at count left first second front texts (inr (start, inr few)) =
      let long = ap length (items-append front.texts texts) in
      inr (start, inr (omega (arith, few.0, front.place, long, length-append (items front.texts) (items texts)), omega (arith, few.1, front.left_is, length-append front.texts texts)))

  blames_both : (mid at count left : ℕ) (first second : Namespace) → TakesFrom bytes gate 0 mid count left first second → IsToBlame bytes gate mid at left → IsToBlame bytes gate 0 at count
  blames_both mid at count left first second front blame =
      (front.texts ++ blame.0, stand_both bytes gate 0 mid front.texts blame.0 front.place front.stand blame.1, blames_behind mid at count left first second front blame.0 blame.2)

-- The same over a disk that is told or isn't.
pub told_takes_none : (told : Option Files) (name : List ℕ) (gate at count left : ℕ) (names : Namespace) → at ≡ 0 → left ≡ count → names ≡ empty → IfSome told (λ files. TakesFrom (content files name) gate 0 at count left empty names)
told_takes_none None name gate at count left names start same none = tt
told_takes_none (Some files) name gate at count left names start same none =
    record { texts = []; stand = tt; takes = record { records = []; read = tt; names = none }; place = start; left_is = omega (arith, same) }

pub told_takes_more : (told now : Option Files) (name : List ℕ) (gate : ℕ) (place : Place) (at count left less : ℕ) (first second third : Namespace) → now ≡ told
    → IfSome told (λ files. TakesFrom (content files name) gate 0 place.at count left first second)
    → IfSome now (λ files. TakesFrom (content files name) gate (begins_at (content files name) place) at left less second third) → IfSome told (λ files. TakesFrom (content files name) gate 0 at count less first third)
told_takes_more None now name gate place at count left less first second third same front back = tt
told_takes_more (Some files) now name gate place at count left less first second third same front back =
    let bytes = content files name in
    let page = subst (λ o. IfSome o (λ f. TakesFrom (content f name) gate (begins_at (content f name) place) at left less second third)) same back in
    let there = subst (λ (n : ℕ). TakesFrom bytes gate n at left less second third) (begins_behind bytes gate place count left first second front) page in
    takes_from_both bytes gate place.at at count left less first second third front there

pub told_blames : (told now : Option Files) (name : List ℕ) (gate : ℕ) (place : Place) (at count left : ℕ) (first second : Namespace) → now ≡ told
    → IfSome told (λ files. TakesFrom (content files name) gate 0 place.at count left first second)
    → IfSome now (λ files. IsToBlame (content files name) gate (begins_at (content files name) place) at left) → IfSome told (λ files. IsToBlame (content files name) gate 0 at count)
told_blames None now name gate place at count left first second same front blame = tt
told_blames (Some files) now name gate place at count left first second same front blame =
    let bytes = content files name in
    let page = subst (λ o. IfSome o (λ f. IsToBlame (content f name) gate (begins_at (content f name) place) at left)) same blame in
    let there = subst (λ (n : ℕ). IsToBlame bytes gate n at left) (begins_behind bytes gate place count left first second front) page in
    blames_both bytes gate place.at at count left first second front there

pub told_all_taken : (told : Option Files) (name : List ℕ) (gate at count left : ℕ) (old new : Namespace) → left ≡ 0 → IfSome told (λ files. TakesFrom (content files name) gate 0 at count left old new)
    → IfSome told (λ files. (end : ℕ) × TakesFrom (content files name) gate 0 end count 0 old new)
told_all_taken None name gate at count left old new none taken = tt
told_all_taken (Some files) name gate at count left old new none taken = (at, subst (λ (n : ℕ). TakesFrom (content files name) gate 0 at count n old new) none taken)

-- One page: it was taken, or broken, or none of it, or not all of it, reads as records.
pub told_page : (told : Option Files) (name : List ℕ) (gate : ℕ) (place next : Place) (room left less : ℕ) (page texts : List (List ℕ)) (old new : Namespace) → texts ≡ page → less ≡ left - length texts
    → IfSome told (λ files. ReadsFrom (content files name) gate place room page next) → Takes texts old new
    → IfSome told (λ files. TakesFrom (content files name) gate (begins_at (content files name) place) next.at left less old new)
told_page None name gate place next room left less page texts old new same left_is reads takes = tt
told_page (Some files) name gate place next room left less page texts old new same left_is reads takes =
    record {
      texts = page;
      stand = reads.stand;
      takes = subst (λ (l : List (List ℕ)). Takes l old new) same takes;
      place = ap (λ (p : Place). p.at) reads.next_is;
      left_is = left_is ∙ ap (λ (l : List (List ℕ)). left - length l) same;
    }

pub told_page_broken : (told : Option Files) (name : List ℕ) (gate room most left : ℕ) (place : Place) (at : ℕ) → IfSome told (λ files. BreaksAt (content files name) gate room most (begins_at (content files name) place) at)
    → IfSome told (λ files. IsToBlame (content files name) gate (begins_at (content files name) place) at left)
told_page_broken None name gate room most left place at breaks = tt
told_page_broken (Some files) name gate room most left place at breaks = (breaks.texts, breaks.stand, inl (breaks.place, breaks.inside, breaks.none))

pub told_page_empty : (told : Option Files) (name : List ℕ) (gate room left : ℕ) (place next : Place) (page : List (List ℕ)) → 0 < left → 0 < room → length page ≡ 0 → (length page ≡ room) ⊎ (gate ≤ next.at)
    → IfSome told (λ files. ReadsFrom (content files name) gate place room page next) → IfSome told (λ files. IsToBlame (content files name) gate (begins_at (content files name) place) 0 left)
told_page_empty None name gate room left place next page some wide none whole reads = tt
told_page_empty (Some files) name gate room left place next page some wide none (inl full) reads = absurd (omega (arith, wide, none, full))
told_page_empty (Some files) name gate room left place next page some wide none (inr end) reads =
    (page, reads.stand, inr (refl, inr (omega (arith, end, ap (λ (p : Place). p.at) reads.next_is), omega (arith, some, none))))

pub told_page_unread : (told : Option Files) (name : List ℕ) (gate room left : ℕ) (place next : Place) (page : List (List ℕ)) → AreUnreadable page
    → IfSome told (λ files. ReadsFrom (content files name) gate place room page next) → IfSome told (λ files. IsToBlame (content files name) gate (begins_at (content files name) place) 0 left)
told_page_unread None name gate room left place next page unread reads = tt
told_page_unread (Some files) name gate room left place next page unread reads = (page, reads.stand, inr (refl, inl unread))
