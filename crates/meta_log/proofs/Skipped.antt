-- Records that are skipped by their time.
use Rattle.std.proofs.Common.{◌≡◌, ℕ, ◌≤◌, ◌<◌, List, [], ◌∷◌, ◌++◌, sym, ◌∙◌, ap, subst, arith, Option, Some, None}
use Rattle.std.specs.Prelude.{IfSome, All}
use Rattle.std.proofs.lemmas.List.Elements.{All-head, All-tail}
use Rattle.weed_base.specs.Files.{Files, content}
use Rattle.name_core.specs.declared.change.Record.{Record}
use Rattle.meta_log.specs.Left.{IsLeft}
use Rattle.meta_log.specs.Records.{ReadsAs, IsNoRecord, ReadAs}
use Rattle.meta_log.specs.Skip.{IsAhead, AreLate, NoneAhead}
use Rattle.meta_log.proofs.RecordLists.{TellsTime, one_record}

first_of : (p q : List ℕ) (ps qs : List (List ℕ)) → p ∷ ps ≡ q ∷ qs → p ≡ q
first_of p q ps qs same = cc

rest_of : (p q : List ℕ) (ps qs : List (List ℕ)) → p ∷ ps ≡ q ∷ qs → ps ≡ qs
rest_of p q ps qs same = cc

-- a payload has one time
time_is : (text : List ℕ) (known : Record) (found : Option ℕ) (time : ℕ) → found ≡ Some time → TellsTime text found → ReadsAs text known → known.time ≡ time
time_is text known found time is tells reads =
    let told = subst (TellsTime text) is tells in
    ap (λ (r : Record). r.time) (one_record text known told.0 reads told.1) ∙ told.2

module _ (bytes : List ℕ) (gate after later : ℕ) (text : List ℕ) (rest : List (List ℕ)) (here : IsLeft bytes gate later rest) (known_early : (known : Record) → ReadsAs text known → known.time ≤ after) where
  -- the first of those left was one up to the time
  skipped : (payloads past : List (List ℕ)) (records : List Record) → payloads ++ past ≡ text ∷ rest → ReadAs payloads records → All (λ r. r.time ≤ after) records → AreLate after past → IsAhead bytes gate after later past
  skipped [] [] records same read early late = absurd (cc)
  skipped [] (p ∷ past) records same read early ([], read_late, late) = absurd read_late
  skipped [] (p ∷ past) records same read early (x ∷ xs, read_late, late) =
      let reads = subst (λ (t : List ℕ). ReadsAs t x) (first_of p text past rest same) read_late.0 in
      absurd (omega (arith, known_early x reads, All-head (λ (r : Record). after < r.time) x xs late))
  skipped (p ∷ payloads) past [] same read early late = absurd read
  skipped (p ∷ payloads) past (x ∷ records) same read early late = record {
    payloads = payloads;
    records = records;
    here = subst (IsLeft bytes gate later) (sym (rest_of p text (payloads ++ past) rest same)) here;
    read = read.1;
    early = All-tail (λ (r : Record). r.time ≤ after) x records early;
  }

module _ (bytes : List ℕ) (gate after at : ℕ) (text : List ℕ) (rest : List (List ℕ)) (known_late : (known : Record) → ReadsAs text known → after < known.time) where
  -- the first of those left is past the time
  stays : (payloads past : List (List ℕ)) (records : List Record) → IsLeft bytes gate at (payloads ++ past) → payloads ++ past ≡ text ∷ rest → ReadAs payloads records → All (λ r. r.time ≤ after) records → IsLeft bytes gate at past
  stays [] past records here same read early = here
  stays (p ∷ payloads) past [] here same read early = absurd read
  stays (p ∷ payloads) past (x ∷ records) here same read early =
      let reads = subst (λ (t : List ℕ). ReadsAs t x) (first_of p text (payloads ++ past) rest same) read.0 in
      absurd (omega (arith, known_late x reads, All-head (λ (r : Record). r.time ≤ after) x records early))

-- nothing is left
empties : (bytes : List ℕ) (gate at : ℕ) (payloads past : List (List ℕ)) → payloads ++ past ≡ [] → IsLeft bytes gate at (payloads ++ past) → IsLeft bytes gate at past
empties bytes gate at [] past none here = here
empties bytes gate at (p ∷ payloads) past none here = absurd (cc)

-- What was looked at, over a disk that is told or isn't.
abbrev Taken : List ℕ → ℕ → ℕ → ℕ → List ℕ → Type 0
Taken bytes gate at later text = (left : List (List ℕ)) → IsLeft bytes gate at left → (rest : List (List ℕ)) × (left ≡ text ∷ rest) × IsLeft bytes gate later rest

pub told_skipped_one : (told : Option Files) (name : List ℕ) (gate after at later : ℕ) (text : List ℕ) (found : Option ℕ) (time : ℕ) → found ≡ Some time → time ≤ after → TellsTime text found
    → IfSome told (λ files. (left : List (List ℕ)) → IsLeft (content files name) gate at left → (rest : List (List ℕ)) × (left ≡ text ∷ rest) × IsLeft (content files name) gate later rest)
    → IfSome told (λ files. (past : List (List ℕ)) → IsAhead (content files name) gate after at past → AreLate after past → IsAhead (content files name) gate after later past)
told_skipped_one None name gate after at later text found time is early tells taken = tt
told_skipped_one (Some files) name gate after at later text found time is early tells taken = λ past ahead late.
    let next = taken (ahead.payloads ++ past) ahead.here in
    skipped (content files name) gate after later text next.0 next.2 (λ known reads. omega (arith, early, time_is text known found time is tells reads)) ahead.payloads past ahead.records next.1 ahead.read ahead.early late

pub told_stays : (told : Option Files) (name : List ℕ) (gate after at now later : ℕ) (text : List ℕ) → now ≡ at → ((known : Record) → ReadsAs text known → after < known.time)
    → IfSome told (λ files. (left : List (List ℕ)) → IsLeft (content files name) gate at left → (rest : List (List ℕ)) × (left ≡ text ∷ rest) × IsLeft (content files name) gate later rest)
    → IfSome told (λ files. (past : List (List ℕ)) → IsAhead (content files name) gate after at past → AreLate after past → IsLeft (content files name) gate now past)
told_stays None name gate after at now later text same known_late taken = tt
told_stays (Some files) name gate after at now later text same known_late taken = λ past ahead late.
    let next = taken (ahead.payloads ++ past) ahead.here in
    subst (λ (n : ℕ). IsLeft (content files name) gate n past) (sym same)
    (stays (content files name) gate after at text next.0 known_late ahead.payloads past ahead.records ahead.here next.1 ahead.read ahead.early)

-- the payload is past the time
pub late_time : (text : List ℕ) (found : Option ℕ) (time after : ℕ) → found ≡ Some time → after < time → TellsTime text found → (known : Record) → ReadsAs text known → after < known.time
late_time text found time after is late tells known reads = omega (arith, late, time_is text known found time is tells reads)

-- nothing is left
pub told_empties : (told : Option Files) (name : List ℕ) (gate after at now : ℕ) → now ≡ at
    → IfSome told (λ files. (left : List (List ℕ)) → IsLeft (content files name) gate at left → left ≡ [])
    → IfSome told (λ files. (past : List (List ℕ)) → IsAhead (content files name) gate after at past → AreLate after past → IsLeft (content files name) gate now past)
told_empties None name gate after at now same none = tt
told_empties (Some files) name gate after at now same none = λ past ahead late.
    subst (λ (n : ℕ). IsLeft (content files name) gate n past) (sym same)
    (empties (content files name) gate at ahead.payloads past (none (ahead.payloads ++ past) ahead.here) ahead.here)

-- the first of records is no text of none
none_reads : (text : List ℕ) (rest payloads past : List (List ℕ)) (records others : List Record) → payloads ++ past ≡ text ∷ rest → ReadAs payloads records → ReadAs past others → ¬ IsNoRecord text
none_reads text rest [] [] records others same read late = absurd (cc)
none_reads text rest [] (p ∷ past) records [] same read late = absurd late
none_reads text rest [] (p ∷ past) records (x ∷ others) same read late = λ nothing. nothing x (subst (λ (t : List ℕ). ReadsAs t x) (first_of p text past rest same) late.0)
none_reads text rest (p ∷ payloads) past [] others same read late = absurd read
none_reads text rest (p ∷ payloads) past (x ∷ records) others same read late = λ nothing. nothing x (subst (λ (t : List ℕ). ReadsAs t x) (first_of p text (payloads ++ past) rest same) read.0)

-- No such records are left: what stands there is no record, or no item, or they weren't left before.
pub told_unread : (told : Option Files) (name : List ℕ) (gate after at later : ℕ) (text : List ℕ) (found : Option ℕ) → found ≡ None → TellsTime text found
    → IfSome told (λ files. (left : List (List ℕ)) → IsLeft (content files name) gate at left → (rest : List (List ℕ)) × (left ≡ text ∷ rest) × IsLeft (content files name) gate later rest)
    → IfSome told (λ files. NoneAhead (content files name) gate after at)
told_unread None name gate after at later text found is tells taken = tt
told_unread (Some files) name gate after at later text found is tells taken = λ past ahead late.
    let next = taken (ahead.payloads ++ past) ahead.here in
    none_reads text next.0 ahead.payloads past ahead.records late.0 next.1 ahead.read late.1 (subst (TellsTime text) is tells)

pub told_none_ahead : (told : Option Files) (name : List ℕ) (gate after at : ℕ) → IfSome told (λ files. (left : List (List ℕ)) → ¬ IsLeft (content files name) gate at left) → IfSome told (λ files. NoneAhead (content files name) gate after at)
told_none_ahead None name gate after at none = tt
told_none_ahead (Some files) name gate after at none = λ past ahead late. none (ahead.payloads ++ past) ahead.here

pub told_none_before : (told now : Option Files) (name : List ℕ) (gate after start at : ℕ) → now ≡ told
    → IfSome told (λ files. (past : List (List ℕ)) → IsAhead (content files name) gate after start past → AreLate after past → IsAhead (content files name) gate after at past)
    → IfSome now (λ files. NoneAhead (content files name) gate after at) → IfSome told (λ files. NoneAhead (content files name) gate after start)
told_none_before None now name gate after start at same was none = tt
told_none_before (Some files) now name gate after start at same was none = λ past ahead late.
    let here = subst (λ o. IfSome o (λ f. NoneAhead (content f name) gate after at)) same none in
    here past (was past ahead late) late
