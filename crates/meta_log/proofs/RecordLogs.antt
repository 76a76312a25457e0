-- What an opening of a log of records finds and leaves.
use Rattle.std.proofs.Common.{[], ◌≡◌, inl, inr, ℕ, List, length, sym, ◌∙◌, ap, subst, Option, Some, None}
use Rattle.std.specs.Prelude.{IfSome}
use Rattle.weed_base.specs.Files.{Files, BothTold}
use Rattle.name_core.specs.declared.change.Record.{Record}
use Rattle.name_core.specs.Log.{TimesRise}
use Rattle.meta_log.specs.Segment.{items}
use Rattle.meta_log.specs.LogText.{IsAllowed, HasSegment, HasText}
use Rattle.meta_log.specs.Making.{LeavesOthers}
use Rattle.meta_log.specs.Opening.{IsOpen}
use Rattle.meta_log.specs.Records.{ReadAs, AreRecords, HasFront, front_of_records}
use Rattle.meta_log.specs.Kept.{IsRecordLog, TellsRecordLog, HoldsMetaLog, HoldsRecords, IsOpenedFrom}
use Rattle.meta_log.specs.declared.stem.Stem.{Stem}
use Rattle.meta_log.specs.declared.stem.Stem.TheVariants.{Log}
use Rattle.meta_log.specs.declared.meta_log.MetaLog.{MetaLog}
use Rattle.meta_log.proofs.Unique.{text_unique}
use Rattle.meta_log.proofs.RecordLists.{ReadAs-unique}

-- a log may hold any payloads
pub any_allowed : (payloads : List (List ℕ)) → IsAllowed Log payloads
any_allowed payloads = λ k d within. tt

as_segment : (Allowed Also : List (List ℕ) → Type 0) (stem : Stem) (files : Files) (payloads : List (List ℕ)) → HasSegment Allowed stem files payloads → Also payloads → HasSegment Also stem files payloads
as_segment Allowed Also stem files payloads held also = record { counts = held.counts; alone = held.alone; segment = held.segment; allowed = also }

pub as_text : (Allowed Also : List (List ℕ) → Type 0) (stem : Stem) (files : Files) (payloads : List (List ℕ)) → HasText Allowed stem files payloads → Also payloads → HasText Also stem files payloads
as_text Allowed Also stem files payloads (inl none) also = inl none
as_text Allowed Also stem files payloads (inr held) also = inr (as_segment Allowed Also stem files payloads held also)

-- the two ways to speak of a log of records
to_log : (files : Files) (payloads : List (List ℕ)) (records : List Record) → HasText AreRecords Log files payloads → ReadAs payloads records → TimesRise 0 records → IsRecordLog files records
to_log files payloads records text read rise = record {
  payloads = payloads;
  text = as_text AreRecords (IsAllowed Log) Log files payloads text (any_allowed payloads);
  read = read;
  times = rise;
}

pub from_log : (files : Files) (records : List Record) (log : IsRecordLog files records) → HasText AreRecords Log files log.payloads
from_log files records log = as_text (IsAllowed Log) AreRecords Log files log.payloads log.text (records, log.read, log.times)

kept_in : (meta : MetaLog) (old new : Files) → meta.log.stem ≡ Log → IsOpen AreRecords (HasFront meta.front) Log meta.log.gate old new → (records : List Record) → IsRecordLog old records → HoldsRecords new meta records
kept_in meta old new stem_is found records log =
    let same = text_unique AreRecords AreRecords Log old found.payloads log.payloads found.before (from_log old records log) in
    let passed = subst (HasFront meta.front) same found.passed in
    let known = ReadAs-unique log.payloads passed.0 records passed.1 log.read in
    let segment = as_segment AreRecords (IsAllowed Log) Log new log.payloads (subst (HasSegment AreRecords Log new) same found.now) (any_allowed log.payloads) in
    record {
      payloads = log.payloads;
      held = record {
        segment = subst (λ (s : Stem). HasSegment (IsAllowed s) s new log.payloads) (sym stem_is) segment;
        gate = found.place ∙ ap (λ (ps : List (List ℕ)). length (items ps)) same;
      };
      read = log.read;
      times = log.times;
      front = passed.3 ∙ ap front_of_records known;
    }

pub records_opened : (old new : Option Files) (meta : MetaLog) → meta.log.stem ≡ Log → BothTold (IsOpen AreRecords (HasFront meta.front) Log meta.log.gate) old new → IsOpenedFrom old new meta
records_opened None None meta stem_is found = record { text = tt; holds = λ records log. tt }
records_opened None (Some new) meta stem_is found = absurd found
records_opened (Some old) None meta stem_is found = absurd found
records_opened (Some old) (Some new) meta stem_is found = record {
  text = (found.passed.0, to_log old found.payloads found.passed.0 found.before found.passed.1 found.passed.2);
  holds = kept_in meta old new stem_is found;
}

-- the records stay
pub records_kept : (old new : Option Files) → BothTold (LeavesOthers Log) old new
    → ((payloads : List (List ℕ)) → IfSome old (λ files. HasText AreRecords Log files payloads) → IfSome new (λ files. HasText AreRecords Log files payloads))
    → (records : List Record) → TellsRecordLog old records → TellsRecordLog new records
records_kept old None told kept records log = tt
records_kept None (Some new) told kept records log = absurd told
records_kept (Some old) (Some new) told kept records log = to_log new log.payloads records (kept log.payloads (from_log old records log)) log.read log.times

-- So the disk holds the log.
pub opened_keeps : (old new : Option Files) (meta : MetaLog) → BothTold (LeavesOthers Log) old new → IsOpenedFrom old new meta → HoldsMetaLog new meta
opened_keeps old None meta told opened = ([], tt)
opened_keeps None (Some new) meta told opened = absurd told
opened_keeps (Some old) (Some new) meta told opened = (opened.text.0, opened.holds opened.text.0 opened.text.1)
