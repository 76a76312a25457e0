-- What an opening leaves, from what its calls leave.
use Rattle.std.proofs.Common.{◌≡◌, ℕ, ◌+◌, List, ◌++◌, Option, Some, None, refl, sym, ap, ◌∙◌, subst, length, length-append}
use Rattle.std.specs.Prelude.{IfSome, IsSomeAnd}
use Rattle.weed_base.specs.Files.{Files, BothTold}
use Rattle.weed_base.specs.DiskCalls.{Looks, Acts}
use Rattle.weed_base.specs.declared.disk.Disk.{Ghosts as DiskGhosts}
use Rattle.weed_base.proofs.ImageLemmas.{leaves_both, reads_leaves}
use Rattle.name_core.specs.declared.change.Record.{Record}
use Rattle.name_core.specs.Namespace.{Namespace}
use Rattle.meta_log.specs.Images.{HasLogOf, ImagesHoldRecords, IsMadeFrom}
use Rattle.meta_log.specs.Kept.{front_of, HoldsMetaLog, HoldsRecords, IsOpenedFrom, IsRecordLog, TellsRecordLog}
use Rattle.meta_log.specs.Making.{LeavesOthers}
use Rattle.meta_log.specs.declared.front.Front.{Front}
use Rattle.meta_log.specs.declared.meta_log.MetaLog.{MetaLog}
use Rattle.meta_log.specs.declared.stem.Stem.TheVariants.{Log}
use Rattle.log_buffer.specs.declared.outlet.Outlet.{Ghosts}
use Rattle.filer.specs.State.{IsFiled}
use Rattle.filer.specs.declared.state.FilerState.{FilerState}
use Rattle.filer.specs.Opened.{LeavesLogs, IsOpenedOver, Opens, IsBegun}
use Rattle.filer.specs.Taken.{HoldsAllTaken}
use Rattle.filer.proofs.Takings.{same_length}

-- Fewer images keep what more of them keep.
keeps_fewer : (images fewer : Files → Type 0) (records : List Record) → ImagesHoldRecords images records → ((image : Files) → fewer image → images image) → ImagesHoldRecords fewer records
keeps_fewer images fewer records keep none = record {
  payloads = keep.payloads;
  texts = λ image left. keep.texts image (none image left);
  read = keep.read;
  times = keep.times;
}

some_weaker : {X : Type 0} (o : Option X) (P Q : X → Type 0) → ((x : X) → P x → Q x) → IfSome o P → IfSome o Q
some_weaker None P Q weaker holds = tt
some_weaker (Some x) P Q weaker holds = weaker x holds

some_and_weaker : {X : Type 0} (o : Option X) (P Q : X → Type 0) → ((x : X) → P x → Q x) → IsSomeAnd o P → IsSomeAnd o Q
some_and_weaker None P Q weaker holds = absurd holds
some_and_weaker (Some x) P Q weaker holds = weaker x holds

-- What isn't told wasn't.
stays_untold : (R : Files → Files → Type 0) (old new : Option Files) → BothTold R old new → new ≡ None → old ≡ None
stays_untold R None new both untold = refl
stays_untold R (Some before) None both untold = absurd both
stays_untold R (Some before) (Some after) both untold = cc

module _ {D : Type 0} (disk : DiskGhosts D) where
  -- A log was opened, and then calls only looked.
  pub leaves_opened : (before mid now : D) → ((records : List Record) → TellsRecordLog (disk.files before) records → TellsRecordLog (disk.files mid) records)
      → BothTold (IsMadeFrom Log) (disk.files before) (disk.files mid) → BothTold (LeavesOthers Log) (disk.files before) (disk.files mid)
      → ((files : Files) → disk.files before ≡ Some files → Acts disk before mid (HasLogOf (disk.images before))) → Looks disk mid now → LeavesLogs disk before now
  leaves_opened before mid now kept made others atomic looks = record {
    kept = λ records held. subst (λ o. TellsRecordLog o records) (sym looks.files) (kept records held);
    made = subst (BothTold (IsMadeFrom Log) (disk.files before)) (sym looks.files) made;
    others = subst (BothTold (LeavesOthers Log) (disk.files before)) (sym looks.files) others;
    atomic = λ files told. leaves_both disk.tick disk.image_since before mid now (HasLogOf (disk.images before)) (atomic files told)
        (reads_leaves disk.tick disk.images disk.image_since mid now (HasLogOf (disk.images before)) looks.still);
  }

  module _ (Holds : Files → List Record → Type 0) (meta : MetaLog) where
    -- A log was opened, and what was opened is held with its records.
    opened_over : (now : D) (told later : Option Files) → disk.files now ≡ later → ((files : Files) (records : List Record) → told ≡ Some files → IsRecordLog files records → ImagesHoldRecords (disk.images now) records)
        → BothTold (LeavesOthers Log) told later → IsOpenedFrom told later meta → ((files : Files) (records : List Record) → later ≡ Some files → HoldsRecords files meta records → Holds files records)
        → IfSome told (IsOpenedOver disk Holds now)
    opened_over now None later is settled both opened make = tt
    opened_over now (Some files) None is settled both opened make = absurd both
    opened_over now (Some files) (Some more) is settled both opened make = record {
      found = opened.text;
      holds = λ records log. subst (λ o. IsSomeAnd o (λ later. Holds later records)) (sym is) (make more records refl (opened.holds records log));
      settled = λ records log. settled files records refl log;
    }

    held_over : (later : Option Files) → HoldsMetaLog later meta → ((files : Files) (records : List Record) → later ≡ Some files → HoldsRecords files meta records → Holds files records)
        → (records : List Record) × IfSome later (λ files. Holds files records)
    held_over None held make = (held.0, tt)
    held_over (Some files) held make = (held.0, make files held.0 refl held.1)

    pub opens : (before mid now : D) → Looks disk mid now → ((files : Files) (records : List Record) → disk.files before ≡ Some files → IsRecordLog files records → ImagesHoldRecords (disk.images mid) records)
        → BothTold (LeavesOthers Log) (disk.files before) (disk.files mid) → IsOpenedFrom (disk.files before) (disk.files mid) meta → HoldsMetaLog (disk.files mid) meta
        → ((files : Files) (records : List Record) → disk.files mid ≡ Some files → HoldsRecords files meta records → Holds files records) → Opens disk Holds before now
    opens before mid now looks settled both opened held make = record {
      over = opened_over now (disk.files before) (disk.files mid) looks.files
          (λ files records told log. keeps_fewer (disk.images mid) (disk.images now) records (settled files records told log) looks.still.now) both opened make;
      held = subst (λ o. (records : List Record) × IfSome o (λ files. Holds files records)) (sym looks.files) (held_over (disk.files mid) held make);
    }

  -- What is held so is held otherwise too.
  pub opens_weaker : (P Q : Files → List Record → Type 0) (before now : D) → ((files : Files) (records : List Record) → P files records → Q files records) → Opens disk P before now → Opens disk Q before now
  opens_weaker P Q before now weaker opened = record {
    over = some_weaker (disk.files before) (IsOpenedOver disk P now) (IsOpenedOver disk Q now) (λ files over. record {
      found = over.found;
      holds = λ records log. some_and_weaker (disk.files now) (λ later. P later records) (λ later. Q later records) (λ later. weaker later records) (over.holds records log);
      settled = over.settled;
    }) opened.over;
    held = (opened.held.0, some_weaker (disk.files now) (λ later. P later opened.held.0) (λ later. Q later opened.held.0) (λ later. weaker later opened.held.0) opened.held.1);
  }

-- The log with its names, and an outlet that was handed its last texts
pub begun : (names : Option Namespace) (Stands : List (List ℕ) → Type 0) (meta : MetaLog) (told : Option Files) (texts : List (List ℕ)) → HoldsAllTaken told meta names texts
    → ((ahead : List (List ℕ)) → length ahead + length texts ≡ (front_of meta).count → Stands (ahead ++ texts))
    → (files : Files) (records : List Record) → told ≡ Some files → HoldsRecords files meta records → IsBegun names Stands meta files records
begun names Stands meta told texts taken stands files records is held =
    let all = (subst (λ o. HoldsAllTaken o meta names texts) is taken) records held in
    let count = same_length all.kept.payloads records all.kept.read ∙ sym (ap (λ (f : Front). f.count) all.kept.front) in
    let whole : length all.ahead + length texts ≡ length all.kept.payloads = sym (length-append all.ahead texts) ∙ ap length (sym all.split) in
    record {
      kept = all.kept;
      names_are = all.names_are;
      list = subst Stands (sym all.split) (stands all.ahead (whole ∙ count));
    }

-- And the filer over it
pub filed : {K O S : Type 0} {o : Ghosts O S} (map : K → Option Namespace) (state : FilerState K O S o) (files : Files) (records : List Record) → state.published ≡ front_of state.log
    → IsBegun (map state.keeper) (o.StandsFor state.outlet) state.log files records → IsFiled map files state records
filed map state files records front begun = record { log = begun.kept; names = begun.names_are; list = begun.list; front = front ∙ begun.kept.front }
