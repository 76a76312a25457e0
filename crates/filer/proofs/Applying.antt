-- What a command leaves of a filer, from what its calls leave.
use Rattle.std.proofs.Common.{◌≡◌, ℕ, ◌≤◌, List, [], ◌∷◌, ◌++◌, length, true, false, Option, Some, None, Result, Ok, Err, refl, sym, ap, ◌∙◌, subst, arith, inl, inr}
use Rattle.std.specs.Prelude.{IfSome, IsSomeAnd, OnOk, OnErr}
use Rattle.std.specs.Result.{is_err}
use Rattle.std.specs.Option.{option_map}
use Rattle.weed_base.specs.Files.{Files, BothTold}
use Rattle.weed_base.specs.DiskCalls.{Acts}
use Rattle.weed_base.specs.declared.disk.Disk.{Ghosts as DiskGhosts}
use Rattle.log_buffer.specs.declared.outlet.Outlet.{Ghosts}
use Rattle.name_core.specs.declared.change.Change.{Change}
use Rattle.name_core.specs.declared.change.Change.TheVariants.{Put, Drop}
use Rattle.name_core.specs.declared.change.Record.{Record}
use Rattle.name_core.specs.Namespace.{Namespace}
use Rattle.name_core.specs.Log.{after_record, fold}
use Rattle.name_core.proofs.PlanLemmas.{fold-push}
use Rattle.filer_keeper.specs.Commit.{put_count}
use Rattle.meta_log.specs.LogText.{segment_name, ChangesOnly, IsAllowed, IsLogText}
use Rattle.meta_log.specs.Held.{HoldsPayloads, TellsText}
use Rattle.meta_log.specs.Images.{ImagesHoldRecords}
use Rattle.meta_log.specs.Kept.{front_of, HoldsRecords, IsEitherLog, TellsRecords, TellsEitherLog}
use Rattle.meta_log.specs.Records.{ReadsAs}
use Rattle.meta_log.specs.declared.meta_log.MetaLog.{MetaLog}
use Rattle.meta_log.specs.declared.stem.Stem.TheVariants.{Log}
use Rattle.meta_log.proofs.Unique.{text_unique}
use Rattle.name_core.specs.declared.command.PlanFault.{PlanFault}
use Rattle.name_core.specs.declared.command.PlanFault.TheVariants as faults
use Rattle.name_plans.specs.declared.command.Command.{Command}
use Rattle.name_plans.specs.Planning.{plan_of}
use Rattle.name_plans.specs.Refusing.{Comes}
use Rattle.filer.specs.Faults.{apply_fault_of_plan}
use Rattle.filer.specs.declared.receipt.Receipt.{Receipt}
use Rattle.filer.specs.declared.fault.ApplyFault.{ApplyFault}
use Rattle.filer.specs.declared.fault.ApplyFault.TheVariants as apply
use Rattle.filer.specs.Plans.{Planned, front_behind, receipt_of, receipt_of_none, IsPlan}
use Rattle.filer.specs.State.{IsFiled, HoldsState, StaysPublished}
use Rattle.filer.specs.Applied.{Adds, Applies, Rests, Publishes, Strands, Tears, LeavesEither, IsSettled}
use Rattle.filer.specs.declared.state.FilerState.{FilerState}

-- No more puts than changes.
pub put_count-few : (changes : List Change) → put_count changes ≤ length changes
put_count-few [] = omega arith
put_count-few (Put path entry ∷ more) = let few = put_count-few more in omega (arith, few)
put_count-few (Drop path ∷ more) = let few = put_count-few more in omega (arith, few)

-- A fact of an answer of one kind, where it is of that kind.
pub of_err : {T E : Type 0} (P : Type 0) (result : Result T E) → is_err result ≡ true → OnErr result P → P
of_err P (Ok x) bad holds = absurd (cc bad)
of_err P (Err e) bad holds = holds

pub of_ok : {T E : Type 0} (P : Type 0) (result : Result T E) → is_err result ≡ false → OnOk result P → P
of_ok P (Ok x) good holds = holds
of_ok P (Err e) good holds = absurd (cc good)

-- What is told stays told.
still_told : (P : Files → Type 0) (name : List ℕ) (told later : Option Files) (files : Files) → BothTold (ChangesOnly name) told later → told ≡ Some files → IfSome later P → IsSomeAnd later P
still_told P name None later files both is holds = absurd (cc is)
still_told P name (Some known) None files both is holds = absurd both
still_told P name (Some known) (Some later) files both is holds = holds

-- The names after one record more.
names_more : (was now : Option Namespace) (records : List Record) (made : Record) → now ≡ option_map (after_record made) was → IfSome was (λ names. names ≡ fold records)
    → IfSome now (λ names. names ≡ fold (records ++ made ∷ []))
names_more None now records made is holds = subst (λ (o : Option Namespace). IfSome o (λ names. names ≡ fold (records ++ made ∷ []))) (sym is) tt
names_more (Some names) now records made is holds =
    subst (λ (o : Option Namespace). IfSome o (λ names. names ≡ fold (records ++ made ∷ []))) (sym is) (ap (after_record made) holds ∙ sym (fold-push records made))

-- The text of a log that is held.
text_held : (files : Files) (meta : MetaLog) (payloads : List (List ℕ)) → HoldsPayloads files meta.log payloads → IsLogText Log files payloads
text_held files meta payloads held = subst (λ stem. IsLogText stem files payloads) meta.is_log (inr held.segment)

module _ {K O S D : Type 0} {o : Ghosts O S} (disk : DiskGhosts D) (map : K → Option Namespace) (made : Record) (text : List ℕ)
    (old mid : FilerState K O S o) (before now : D) (same : mid.log ≡ old.log) (reads : ReadsAs text made) where
  held_mid : (files : Files) (records : List Record) → HoldsRecords files old.log records → HoldsRecords files mid.log records
  held_mid files records held = subst (λ (log : MetaLog). HoldsRecords files log records) (sym same) held

  told_mid : (files : Files) (records : List Record) → disk.files before ≡ Some files → HoldsRecords files old.log records → TellsRecords (disk.files before) mid.log records
  told_mid files records told held = subst (λ (f : Option Files). TellsRecords f mid.log records) (sym told) (held_mid files records held)

  pub either : ((files : Files) (records : List Record) (known : Record) → disk.files before ≡ Some files → HoldsRecords files mid.log records → ReadsAs text known → known.time ≡ made.time
      → ImagesHoldRecords (disk.images before) records → Acts disk before now (IsEitherLog records known)) → LeavesEither disk map made old before now
  either atomic files records told held keep = atomic files records made told (held_mid files records held) reads refl keep

  pub settles : ((files : Files) (records : List Record) (known : Record) → disk.files before ≡ Some files → HoldsRecords files mid.log records → ReadsAs text known → known.time ≡ made.time
      → ImagesHoldRecords (disk.images now) (records ++ known ∷ [])) → IsSettled disk map made old before now
  settles settled files records told held = settled files records made told (held_mid files records held) reads refl

  pub tears : (new : FilerState K O S o) → BothTold (ChangesOnly (segment_name Log 1)) (disk.files before) (disk.files now)
      → ((records : List Record) (known : Record) → TellsRecords (disk.files before) mid.log records → ReadsAs text known → known.time ≡ made.time → TellsEitherLog (disk.files now) records known)
      → LeavesEither disk map made old before now → map new.keeper ≡ map old.keeper → StaysPublished old new → Tears disk map made old new before now
  tears new others failed crash names published = record {
    log = λ files records told held. still_told (IsEitherLog records made) (segment_name Log 1) (disk.files before) (disk.files now) files others told
        (failed records made (told_mid files records told held) reads refl);
    crash = crash;
    names = names;
    published = published;
  }

  -- The log has the record
  appended_log : (new : FilerState K O S o) → BothTold (ChangesOnly (segment_name Log 1)) (disk.files before) (disk.files now)
      → ((records : List Record) (known : Record) → TellsRecords (disk.files before) mid.log records → ReadsAs text known → known.time ≡ made.time → TellsRecords (disk.files now) new.log (records ++ known ∷ []))
      → (files : Files) (records : List Record) → disk.files before ≡ Some files → HoldsRecords files old.log records
      → IsSomeAnd (disk.files now) (λ later. HoldsRecords later new.log (records ++ made ∷ []))
  appended_log new others appended files records told held = still_told (λ later. HoldsRecords later new.log (records ++ made ∷ [])) (segment_name Log 1) (disk.files before) (disk.files now) files others told
      (appended records made (told_mid files records told held) reads refl)

  pub strands : (new : FilerState K O S o) → BothTold (ChangesOnly (segment_name Log 1)) (disk.files before) (disk.files now)
      → ((records : List Record) (known : Record) → TellsRecords (disk.files before) mid.log records → ReadsAs text known → known.time ≡ made.time → TellsRecords (disk.files now) new.log (records ++ known ∷ []))
      → LeavesEither disk map made old before now → IsSettled disk map made old before now → StaysPublished old new → Strands disk map made old new before now
  strands new others appended crash settled published = record { log = appended_log new others appended; crash = crash; settled = settled; published = published }

  -- The filer with one record more, over files that are told
  more_filed : (new : FilerState K O S o) (files : Files) (records : List Record) (told later : Option Files) → told ≡ Some files → BothTold (ChangesOnly (segment_name Log 1)) told later
      → IfSome later (λ f. HoldsRecords f new.log (records ++ made ∷ []))
      → ((payloads : List (List ℕ)) → TellsText Log told payloads → TellsText Log later (payloads ++ text ∷ []))
      → map new.keeper ≡ option_map (after_record made) (map old.keeper)
      → ((list : List (List ℕ)) → o.StandsFor old.outlet list → o.StandsFor new.outlet (list ++ text ∷ []))
      → front_of new.log ≡ new.published → IsFiled map files old records → IsSomeAnd later (λ f. IsFiled map f new (records ++ made ∷ []))
  more_filed new files records None later is both held texts names list level filed = absurd (cc is)
  more_filed new files records (Some known) None is both held texts names list level filed = absurd both
  more_filed new files records (Some known) (Some later) is both held texts names list level filed =
      let known_is : files ≡ known = cc is in
      let was : IsLogText Log known filed.log.payloads = subst (λ (f : Files). IsLogText Log f filed.log.payloads) known_is (text_held files old.log filed.log.payloads filed.log.held) in
      let one = text_unique (IsAllowed Log) (IsAllowed Log) Log later (filed.log.payloads ++ text ∷ []) held.payloads (texts filed.log.payloads was) (text_held later new.log held.payloads held.held) in
      record {
        log = held;
        names = names_more (map old.keeper) (map new.keeper) records made names filed.names;
        list = subst (λ (l : List (List ℕ)). o.StandsFor new.outlet l) one (list filed.log.payloads filed.list);
        front = sym level ∙ held.front;
      }

  pub publishes : (new : FilerState K O S o) → BothTold (ChangesOnly (segment_name Log 1)) (disk.files before) (disk.files now)
      → ((records : List Record) (known : Record) → TellsRecords (disk.files before) mid.log records → ReadsAs text known → known.time ≡ made.time → TellsRecords (disk.files now) new.log (records ++ known ∷ []))
      → ((payloads : List (List ℕ)) → TellsText Log (disk.files before) payloads → TellsText Log (disk.files now) (payloads ++ text ∷ []))
      → LeavesEither disk map made old before now → IsSettled disk map made old before now
      → map new.keeper ≡ option_map (after_record made) (map old.keeper)
      → ((list : List (List ℕ)) → o.StandsFor old.outlet list → o.StandsFor new.outlet (list ++ text ∷ []))
      → new.published ≡ front_behind made old.published → front_of new.log ≡ new.published → Publishes disk map made old new before now
  publishes new others appended texts crash settled names list front level = record {
    filed = λ files records told filed. more_filed new files records (disk.files before) (disk.files now) told others (appended records made (told_mid files records told filed.log) reads refl) texts names list level filed;
    crash = crash;
    settled = settled;
    names = names;
    list = λ published stands. (text, reads, list published stands);
    front = front;
    level = level;
  }

held_either : {K O S : Type 0} {o : Ghosts O S} (map : K → Option Namespace) (made : Record) (old new : FilerState K O S o) (told later : Option Files) → BothTold (ChangesOnly (segment_name Log 1)) told later
    → ((files : Files) (records : List Record) → told ≡ Some files → IsFiled map files old records → IsSomeAnd later (λ f. IsFiled map f new (records ++ made ∷ [])))
    → (records : List Record) × HoldsState map told old records → (records : List Record) × HoldsState map later new records
held_either map made old new None None both filed held = ([], tt)
held_either map made old new None (Some later) both filed held = absurd both
held_either map made old new (Some files) None both filed held = absurd both
held_either map made old new (Some files) (Some later) both filed held = (held.0 ++ made ∷ [], filed files held.0 refl held.1)

-- A filer with one record more is held.
pub more_held : {K O S D : Type 0} {o : Ghosts O S} (disk : DiskGhosts D) (map : K → Option Namespace) (made : Record) (old new : FilerState K O S o) (before now : D)
    → BothTold (ChangesOnly (segment_name Log 1)) (disk.files before) (disk.files now) → Publishes disk map made old new before now
    → (records : List Record) × HoldsState map (disk.files before) old records → (records : List Record) × HoldsState map (disk.files now) new records
more_held disk map made old new before now both publishes held = held_either map made old new (disk.files before) (disk.files now) both (λ files records told filed. publishes.filed files records told filed) held

-- The list of a log that is the same
rest_list : {K O S : Type 0} {o : Ghosts O S} (map : K → Option Namespace) (old new : FilerState K O S o) (files : Files) (records : List Record) (log : MetaLog) (same : log ≡ old.log)
    → StaysPublished old new → IsFiled map files old records
    → (held : HoldsRecords files log records) × o.StandsFor new.outlet held.payloads
rest_list {o = o} map old new files records log same published filed =
    subst (λ (l : MetaLog). (held : HoldsRecords files l records) × o.StandsFor new.outlet held.payloads) (sym same) (filed.log, published.list filed.log.payloads filed.list)

-- What rests is held still.
pub rest_filed : {K O S : Type 0} {o : Ghosts O S} (map : K → Option Namespace) (old new : FilerState K O S o) (files : Files) (records : List Record)
    → new.log ≡ old.log → map new.keeper ≡ map old.keeper → StaysPublished old new → IsFiled map files old records → IsFiled map files new records
rest_filed map old new files records log names published filed =
    let (kept, list) = rest_list map old new files records new.log log published filed in record {
      log = kept;
      names = subst (λ (n : Option Namespace). IfSome n (λ names. names ≡ fold records)) (sym names) filed.names;
      list = list;
      front = published.front ∙ filed.front;
    }

pub rest_held : {K O S : Type 0} {o : Ghosts O S} (map : K → Option Namespace) (old new : FilerState K O S o) (told : Option Files)
    → new.log ≡ old.log → map new.keeper ≡ map old.keeper → StaysPublished old new
    → (records : List Record) × HoldsState map told old records → (records : List Record) × HoldsState map told new records
rest_held map old new None log names published held = (held.0, tt)
rest_held map old new (Some files) log names published held = (held.0, rest_filed map old new files held.0 log names published held.1)

-- The plan of a command that its keeper or memory refused, or that it is to be.
pub plan_failed : {K O S D : Type 0} {o : Ghosts O S} (disk : DiskGhosts D) (map : K → Option Namespace) (told : Option Namespace) (command : Command) (clock last : ℕ) (old new : FilerState K O S o) (before now : D)
    (fault : PlanFault) → IfSome told (λ names. Comes (plan_of names command clock last) (Err fault)) → Rests disk map old new before now
    → (plan : Planned) × IsPlan told command clock last plan × Applies disk map plan old new before now (Err (apply_fault_of_plan fault))
plan_failed disk map None command clock last old new before now (faults.Refused refusal) plans rests = (Err refusal, tt, (refl, rests))
plan_failed disk map None command clock last old new before now faults.KeeperFault plans rests = (Ok None, tt, inl rests)
plan_failed disk map None command clock last old new before now faults.Memory plans rests = (Ok None, tt, rests)
plan_failed disk map (Some names) command clock last old new before now (faults.Refused refusal) plans rests = (plan_of names command clock last, refl, (plans, rests))
plan_failed disk map (Some names) command clock last old new before now faults.KeeperFault plans rests = (plan_of names command clock last, refl, inl rests)
plan_failed disk map (Some names) command clock last old new before now faults.Memory plans rests = (plan_of names command clock last, refl, rests)

-- The plan by which nothing changes.
pub plan_nothing : {K O S D : Type 0} {o : Ghosts O S} (disk : DiskGhosts D) (map : K → Option Namespace) (told : Option Namespace) (command : Command) (clock last : ℕ) (old new : FilerState K O S o) (before now : D)
    (receipt : Receipt) → IfSome told (λ names. Comes (plan_of names command clock last) (Ok None)) → receipt ≡ receipt_of_none old.published → Rests disk map old new before now
    → (plan : Planned) × IsPlan told command clock last plan × Applies disk map plan old new before now (Ok receipt)
plan_nothing disk map None command clock last old new before now receipt plans is rests = (Ok None, tt, inl (refl, is, rests))
plan_nothing disk map (Some names) command clock last old new before now receipt plans is rests = (Ok None, sym plans, inl (refl, is, rests))

-- The plan that is a record.
plan_made : (told : Option Namespace) (command : Command) (clock last : ℕ) (made : Record) → IfSome told (λ names. Comes (plan_of names command clock last) (Ok (Some made))) → IsPlan told command clock last (Ok (Some made))
plan_made None command clock last made plans = tt
plan_made (Some names) command clock last made plans = sym plans

module _ {K O S D : Type 0} {o : Ghosts O S} (disk : DiskGhosts D) (map : K → Option Namespace) (old mid new : FilerState K O S o) (before now : D)
    (log : mid.log ≡ old.log) (names : map mid.keeper ≡ map old.keeper) (outlet : mid.outlet ≡ old.outlet) (front : mid.published ≡ old.published) where
  log_mid : (files : Files) (records : List Record) → HoldsRecords files old.log records → HoldsRecords files mid.log records
  log_mid files records held = subst (λ (l : MetaLog). HoldsRecords files l records) (sym log) held

  stays_mid : StaysPublished old mid
  stays_mid = record { list = λ list stands. subst (λ (x : O). o.StandsFor x list) (sym outlet) stands; front = front }

  stays_both : StaysPublished mid new → StaysPublished old new
  stays_both stays = record { list = λ list stands. stays.list list (stays_mid.list list stands); front = stays.front ∙ front }

  rests_both : Rests disk map mid new before now → Rests disk map old new before now
  rests_both rests = record { disk_is = rests.disk_is; log = rests.log ∙ log; names = rests.names ∙ names; published = stays_both rests.published }

  -- What adding a planned record leaves, from before its plan on.
  pub added : (told : Option Namespace) (command : Command) (clock last : ℕ) (made : Record) (result : Result Receipt ApplyFault)
      → IfSome told (λ names. Comes (plan_of names command clock last) (Ok (Some made))) → Adds disk map made mid new before now result
      → (plan : Planned) × IsPlan told command clock last plan × Applies disk map plan old new before now result
  added told command clock last made (Ok receipt) plans (is, publishes) = (
    Ok (Some made),
    plan_made told command clock last made plans,
    inr (
      made,
      refl,
      is ∙ ap (receipt_of made) front,
      record {
        filed = λ files records known filed. publishes.filed files records known (rest_filed map old mid files records log names stays_mid filed);
        crash = λ files records known held keep. publishes.crash files records known (log_mid files records held) keep;
        settled = λ files records known held. publishes.settled files records known (log_mid files records held);
        names = publishes.names ∙ ap (option_map (after_record made)) names;
        list = λ list stands. publishes.list list (stays_mid.list list stands);
        front = publishes.front ∙ ap (front_behind made) front;
        level = publishes.level;
      },
    ),
  )
  added told command clock last made (Err (apply.Refused refusal)) plans adds = absurd adds
  added told command clock last made (Err apply.KeeperFault) plans (inl rests) = (Ok (Some made), plan_made told command clock last made plans, inl (rests_both rests))
  added told command clock last made (Err apply.KeeperFault) plans (inr strands) = (
    Ok (Some made),
    plan_made told command clock last made plans,
    inr (
      made,
      refl,
      record {
        log = λ files records known held. strands.log files records known (log_mid files records held);
        crash = λ files records known held keep. strands.crash files records known (log_mid files records held) keep;
        settled = λ files records known held. strands.settled files records known (log_mid files records held);
        published = stays_both strands.published;
      },
    ),
  )
  added told command clock last made (Err (apply.Broken tick)) plans adds = absurd adds
  added told command clock last made (Err apply.Memory) plans rests = (Ok (Some made), plan_made told command clock last made plans, rests_both rests)
  added told command clock last made (Err apply.DiskFault) plans tears = (
    Ok (Some made),
    plan_made told command clock last made plans,
    (
      made,
      refl,
      record {
        log = λ files records known held. tears.log files records known (log_mid files records held);
        crash = λ files records known held keep. tears.crash files records known (log_mid files records held) keep;
        names = tears.names ∙ names;
        published = stays_both tears.published;
      },
    ),
  )
