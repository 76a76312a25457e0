-- Records that are taken from a log into a keeper's names, in their order.
use Rattle.std.proofs.Common.{◌≡◌, ◌≢◌, ℕ, suc, ◌+◌, ◌-◌, ◌<◌, ◌≤◌, List, [], ◌∷◌, ◌++◌, length, take, drop, get_or, Option, Some, None, Err, Result, refl, sym, ap, ◌∙◌, subst, arith, append_assoc, take-append-drop, length-append, inr}
use Rattle.std.specs.Prelude.{IfErr}
use Rattle.std.specs.Option.{option_map}
use Rattle.std.specs.FinMap.{empty}
use Rattle.std.proofs.Math.Seq.{take-length}
use Rattle.std.proofs.lemmas.List.{append-nil, take_more, drop_more, length-drop, length-take-le}
use Rattle.weed_base.specs.Files.{Files}
use Rattle.name_core.specs.declared.change.Change.{Change}
use Rattle.name_core.specs.declared.change.Record.{Record}
use Rattle.name_core.specs.Namespace.{Namespace, after_changes}
use Rattle.name_core.specs.Log.{changes_of}
use Rattle.name_core.proofs.NamespaceLemmas.{after_changes-append}
use Rattle.meta_log.specs.LogText.{IsAllowed}
use Rattle.meta_log.specs.Places.{place_behind}
use Rattle.meta_log.specs.Records.{ReadsAs, IsNoRecord, ReadAs}
use Rattle.meta_log.specs.Kept.{HoldsRecords, TellsRecords, front_of}
use Rattle.meta_log.specs.RecordPlaces.{AreNext, HoldsRecordPlace}
use Rattle.meta_log.specs.Faults.{IfDamaged as IfLogDamaged}
use Rattle.meta_log.specs.declared.fault.LogFault.{LogFault}
use Rattle.meta_log.specs.declared.fault.LogFault.TheVariants as log
use Rattle.meta_log.specs.declared.front.Front.{Front}
use Rattle.meta_log.specs.declared.meta_log.MetaLog.{MetaLog}
use Rattle.meta_log.specs.declared.place.Place.{Place}
use Rattle.meta_log.proofs.RecordLists.{ReadAs-unique}
use Rattle.meta_log.proofs.RecordPlaces.{ReadAs-append, start_lies}
use Rattle.meta_log.proofs.Unique.{text_unique}
use Rattle.filer.specs.Faults.{IfDamaged, look_fault_of_log}
use Rattle.filer.specs.Taken.{Takes, TakesMany, AreUnreadable, AreNamesOf, HoldsTaken, IsAllTaken, HoldsAllTaken}
use Rattle.filer.specs.declared.fault.LookFault.{LookFault}
use Rattle.filer.specs.declared.fault.LookFault.TheVariants as look

-- What is said of damage, weakened
pub damage_weaker : (P Q : List ℕ → ℕ → Type 0) (fault : LookFault) → ((file : List ℕ) (at : ℕ) → P file at → Q file at) → IfDamaged P fault → IfDamaged Q fault
damage_weaker P Q look.DiskFault weaker said = tt
damage_weaker P Q look.KeeperFault weaker said = tt
damage_weaker P Q (look.Damaged file at) weaker said = weaker file at said
damage_weaker P Q (look.Broken tick) weaker said = tt
damage_weaker P Q look.Memory weaker said = tt

damage_of_log : (P Q : List ℕ → ℕ → Type 0) (fault : LogFault) → ((file : List ℕ) (at : ℕ) → P file at → Q file at) → IfLogDamaged P fault → IfDamaged Q (look_fault_of_log fault)
damage_of_log P Q log.DiskFault weaker said = tt
damage_of_log P Q (log.Damaged file at) weaker said = weaker file at said
damage_of_log P Q log.Memory weaker said = tt

-- at the exit of a `?`
pub damaged_on : {T : Type 0} (P Q : List ℕ → ℕ → Type 0) (result : Result T LookFault) (fault other : LookFault) → result ≡ Err fault → fault ≡ other → ((file : List ℕ) (at : ℕ) → P file at → Q file at)
    → IfDamaged P other → IfErr result (IfDamaged Q)
damaged_on P Q result fault other is same weaker said =
    subst (λ r. IfErr r (IfDamaged Q)) (sym is) (damage_weaker P Q fault weaker (subst (IfDamaged P) (sym same) said))

pub log_damaged_on : {T : Type 0} (P Q : List ℕ → ℕ → Type 0) (result : Result T LookFault) (fault : LookFault) (other : LogFault) → result ≡ Err fault → fault ≡ look_fault_of_log other
    → ((file : List ℕ) (at : ℕ) → P file at → Q file at) → IfLogDamaged P other → IfErr result (IfDamaged Q)
log_damaged_on P Q result fault other is same weaker said =
    subst (λ r. IfErr r (IfDamaged Q)) (sym is) (subst (IfDamaged Q) (sym same) (damage_of_log P Q other weaker said))

-- What two lists of records leave
changes_of_both : (old new : List Record) → changes_of (old ++ new) ≡ changes_of old ++ changes_of new
changes_of_both [] new = refl
changes_of_both (x ∷ old) new = ap (λ (l : List Change). x.changes ++ l) (changes_of_both old new) ∙ sym (append_assoc x.changes (changes_of old) (changes_of new))

after_both : (old new : List Record) (names : Namespace) → after_changes (changes_of (old ++ new)) names ≡ after_changes (changes_of new) (after_changes (changes_of old) names)
after_both old new names = ap (λ (l : List Change). after_changes l names) (changes_of_both old new) ∙ after_changes-append (changes_of old) (changes_of new) names

told_after_both : (old new : List Record) (told : Option Namespace)
    → option_map (after_changes (changes_of new)) (option_map (after_changes (changes_of old)) told) ≡ option_map (after_changes (changes_of (old ++ new))) told
told_after_both old new None = refl
told_after_both old new (Some names) = ap Some (sym (after_both old new names))

told_same : (told : Option Namespace) → told ≡ option_map (after_changes []) told
told_same None = refl
told_same (Some names) = refl

-- No text
pub takes_none : (names : Option Namespace) → Takes [] names names
takes_none names = record { records = []; read = tt; names = told_same names }

pub takes_none_many : (names : Option Namespace) (count : ℕ) → count ≡ 0 → TakesMany count names names
takes_none_many names count none = ([], takes_none names, sym none)

-- One text
pub takes_one : (text : List ℕ) (known : Record) (old new : Option Namespace) → ReadsAs text known → new ≡ option_map (after_changes known.changes) old → Takes (text ∷ []) old new
takes_one text known old new reads names = record {
  records = known ∷ [];
  read = (reads, tt);
  names = names ∙ ap (λ (l : List Change). option_map (after_changes l) old) (sym (append-nil known.changes));
}

-- Texts behind others
takes_more : (page more : List (List ℕ)) (first second third : Option Namespace) → Takes page first second → Takes more second third → Takes (page ++ more) first third
takes_more page more first second third front back = record {
  records = front.records ++ back.records;
  read = ReadAs-append page more front.records back.records front.read back.read;
  names = back.names ∙ ap (option_map (after_changes (changes_of back.records))) front.names ∙ told_after_both front.records back.records first;
}

pub takes_both : (before room count : ℕ) (more : List (List ℕ)) (first second third : Option Namespace) → TakesMany before first second → Takes more second third → length more ≡ room → before + room ≡ count → TakesMany count first third
takes_both before room count more first second third (page, takes, length_is) also more_is whole =
    (page ++ more, takes_more page more first second third takes also, omega (arith, length-append page more, length_is, more_is, whole))

-- A text that is no record's among others
unread_within : (page : List (List ℕ)) (text : List ℕ) (more : List (List ℕ)) → IsNoRecord text → AreUnreadable (page ++ text ∷ more)
unread_within [] text more unread [] read = absurd read
unread_within [] text more unread (x ∷ records) read = unread x read.0
unread_within (other ∷ page) text more unread [] read = absurd read
unread_within (other ∷ page) text more unread (x ∷ records) read = unread_within page text more unread records read.1

-- The text at an index
module _ (texts : List (List ℕ)) (i : ℕ) (item piece : List ℕ) (within : i < length texts) (item_is : item ≡ get_or texts i item) (piece_is : piece ≡ item) where
  piece_at : get_or texts i item ≡ piece
  piece_at = sym item_is ∙ sym piece_is

  one_more : take (i + 1) texts ≡ take i texts ++ piece ∷ []
  one_more = take_more texts i item within ∙ ap (λ (x : List ℕ). take i texts ++ x ∷ []) piece_at

  all_texts : texts ≡ take i texts ++ (piece ∷ drop (i + 1) texts)
  all_texts = sym (take-append-drop i texts) ∙ ap (λ (l : List (List ℕ)). take i texts ++ l) (drop_more texts i item within ∙ ap (λ (x : List ℕ). x ∷ drop (i + 1) texts) piece_at)

  pub takes_step : (first second third : Option Namespace) → Takes (take i texts) first second → Takes (piece ∷ []) second third → Takes (take (i + 1) texts) first third
  takes_step first second third front more =
      subst (λ (l : List (List ℕ)). Takes l first third) (sym one_more) (takes_more (take i texts) (piece ∷ []) first second third front more)

  pub takes_ends : IsNoRecord piece → AreUnreadable texts
  takes_ends unread = subst AreUnreadable (sym all_texts) (unread_within (take i texts) piece (drop (i + 1) texts) unread)

-- Files hold one list of records.
records_unique : (files : Files) (log : MetaLog) (a b : List Record) → HoldsRecords files log a → HoldsRecords files log b → a ≡ b
records_unique files log a b one two =
    let allowed = IsAllowed log.log.stem in
    let same = text_unique allowed allowed log.log.stem files one.payloads two.payloads (inr one.held.segment) (inr two.held.segment) in
    ReadAs-unique two.payloads a b (subst (λ (l : List (List ℕ)). ReadAs l a) same one.read) two.read

-- As many texts as records
pub same_length : (texts : List (List ℕ)) (records : List Record) → ReadAs texts records → length texts ≡ length records
same_length [] [] read = refl
same_length [] (x ∷ records) read = absurd read
same_length (text ∷ texts) [] read = absurd read
same_length (text ∷ texts) (x ∷ records) read = ap suc (same_length texts records read.1)

-- No names are those of no records.
pub no_names : (was now : Option Namespace) → now ≡ option_map (λ _. empty) was → AreNamesOf [] now
no_names None now is = subst (AreNamesOf []) (sym is) tt
no_names (Some names) now is = subst (AreNamesOf []) (sym is) refl

-- The names of more records
more_names : (taken more : List Record) (old new : Option Namespace) → new ≡ option_map (after_changes (changes_of more)) old → AreNamesOf taken old → AreNamesOf (taken ++ more) new
more_names taken more None new is names = subst (AreNamesOf (taken ++ more)) (sym is) tt
more_names taken more (Some old) new is names =
    subst (AreNamesOf (taken ++ more)) (sym is) (ap (after_changes (changes_of more)) names ∙ sym (after_both taken more empty))

-- Before the first page nothing is taken.
pub none_taken : (told : Option Files) (log : MetaLog) (names : Option Namespace) (place : Place) (left : ℕ) → (records : List Record) × TellsRecords told log records
    → AreNamesOf [] names → place ≡ place_behind [] → left ≡ (front_of log).count → HoldsTaken told log names place left
none_taken None log names place left held none begins count = tt
none_taken (Some files) log names place left held none begins count =
    record {
      taken = [];
      others = held.0;
      lies = start_lies files log place held.0 held.1 begins;
      names_are = none;
      left_is = count ∙ ap (λ (f : Front). f.count) held.1.front;
    }

-- What is taken keeps its place.
pub taken_keeps : (told : Option Files) (log : MetaLog) (names : Option Namespace) (place : Place) (left : ℕ) → HoldsTaken told log names place left → HoldsRecordPlace told log place
taken_keeps None log names place left taken = ([], [], tt)
taken_keeps (Some files) log names place left taken = (taken.taken, taken.others, taken.lies)

-- With a page that was taken, more records are taken.
pub more_taken : (told : Option Files) (log : MetaLog) (old new : Option Namespace) (place next : Place) (left room less : ℕ) (texts : List (List ℕ)) → less ≡ left - room → HoldsTaken told log old place left
    → AreNext told log place room texts next → Takes texts old new → HoldsTaken told log new next less
more_taken None log old new place next left room less texts less_is taken is takes = tt
more_taken (Some files) log old new place next left room less texts less_is taken is takes =
    let page = is taken.taken taken.others taken.lies in
    let same = ReadAs-unique texts takes.records (take room taken.others) takes.read page.1 in
    record {
      taken = taken.taken ++ take room taken.others;
      others = drop room taken.others;
      lies = page.2;
      names_are = more_names taken.taken (take room taken.others) old new (takes.names ∙ ap (λ (l : List Record). option_map (after_changes (changes_of l)) old) same) taken.names_are;
      left_is = omega (arith, less_is, taken.left_is, length-drop room taken.others);
    }

-- The texts of a page, where no names are told
pub takes_untold : (texts : List (List ℕ)) (old new : Option Namespace) → Takes texts old new → Takes texts None None
takes_untold texts old new takes = record { records = takes.records; read = takes.read; names = refl }

-- The last page has the last of the texts.
pub all_taken : (told : Option Files) (log : MetaLog) (old new : Option Namespace) (place next : Place) (left : ℕ) (texts : List (List ℕ)) → HoldsTaken told log old place left
    → AreNext told log place left texts next → Takes texts old new → HoldsAllTaken told log new texts
all_taken None log old new place next left texts taken is takes = tt
all_taken (Some files) log old new place next left texts taken is takes = λ records kept.
    let page = is taken.taken taken.others taken.lies in
    let whole : take left taken.others ≡ taken.others = subst (λ (n : ℕ). take n taken.others ≡ taken.others) (sym taken.left_is) (take-length taken.others) in
    let long : left ≡ length taken.lies.past = taken.left_is ∙ sym (same_length taken.lies.past taken.others taken.lies.read_past) in
    let past : texts ≡ taken.lies.past = page.0 ∙ subst (λ (n : ℕ). take n taken.lies.past ≡ taken.lies.past) (sym long) (take-length taken.lies.past) in
    let same = ReadAs-unique texts takes.records (take left taken.others) takes.read page.1 ∙ whole in
    subst (IsAllTaken files log new texts) (records_unique files log (taken.taken ++ taken.others) records taken.lies.kept kept)
    (record {
      kept = taken.lies.kept;
      names_are = more_names taken.taken taken.others old new (takes.names ∙ ap (λ (l : List Record). option_map (after_changes (changes_of l)) old) same) taken.names_are;
      ahead = taken.lies.before;
      split = taken.lies.split ∙ ap (λ (l : List (List ℕ)). taken.lies.before ++ l) (sym past);
    })

-- Only a disk that tells nothing gives a page that is too short, or with other texts.
pub untold_short : (told : Option Files) (log : MetaLog) (names : Option Namespace) (place next : Place) (left room : ℕ) (texts : List (List ℕ)) → HoldsTaken told log names place left → room ≤ left
    → AreNext told log place room texts next → length texts ≢ room → told ≡ None
untold_short None log names place next left room texts taken most is short = refl
untold_short (Some files) log names place next left room texts taken most is short =
    let page = is taken.taken taken.others taken.lies in
    let some : room ≤ length taken.others = omega (arith, most, taken.left_is) in
    absurd (short (same_length texts (take room taken.others) page.1 ∙ length-take-le room taken.others some))

pub untold_unread : (told : Option Files) (log : MetaLog) (names : Option Namespace) (place next : Place) (left room : ℕ) (texts : List (List ℕ)) → HoldsTaken told log names place left
    → AreNext told log place room texts next → AreUnreadable texts → told ≡ None
untold_unread None log names place next left room texts taken is unread = refl
untold_unread (Some files) log names place next left room texts taken is unread = absurd (unread (take room taken.others) (is taken.taken taken.others taken.lies).1)
