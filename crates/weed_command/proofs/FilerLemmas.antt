-- What a filer over a table of names keeps.
use Rattle.std.proofs.Common.{◌≡◌, ℕ, List, [], ◌∷◌, ◌++◌, Option, Some, None, Result, Ok, Err, refl, sym, ap, ◌∙◌}
use Rattle.std.specs.Prelude.{IfSome}
use Rattle.weed_base.specs.Files.{Files, BothTold}
use Rattle.name_core.specs.declared.change.Record.{Record}
use Rattle.name_core.specs.Namespace.{after_changes}
use Rattle.name_core.specs.Plan.{Planned, Recorded}
use Rattle.records.specs.RecordReading.{record_of}
use Rattle.name_core.proofs.PlanLemmas.{fold-push}
use Rattle.meta_log.specs.LogText.{segment_name, ChangesOnly}
use Rattle.meta_log.specs.Records.{ReadsAs}
use Rattle.meta_log.specs.Making.{LeavesOthers}
use Rattle.meta_log.specs.Kept.{TellsRecords, TellsEitherLog, IsOpenedFrom}
use Rattle.meta_log.specs.declared.stem.Stem.TheVariants.{Log}
use Rattle.weed_command.specs.NameTable.{names_of}
use Rattle.weed_command.specs.Filer.{IsFiled, IsFiledFrom, HoldsFiler, Makes}
use Rattle.weed_command.specs.Replay.{HoldsNames}
use Rattle.weed_command.specs.declared.plain_filer.PlainFiler.{PlainFiler}
use Rattle.weed_command.specs.declared.plain_filer.MakeFault.{MakeFault}
use Rattle.weed_command.specs.declared.plain_filer.MakeFault.TheVariants as fault

-- The same text reads as the same record.
pub reads_back : (made : Record) (text written : List ℕ) → text ≡ written → ReadsAs written made → ReadsAs text made
reads_back made text written same read = ap record_of same ∙ read

-- What a step makes of a filer with any records, by its plan
abbrev pub MakesAny : (List Record → Planned) → Option Files → Option Files → PlainFiler → PlainFiler → Result (Unit {0}) MakeFault → Type 0
MakesAny plan told later old new result =
    IfSome told (λ files. (records : List Record) → IsFiled files old records → Makes (plan records) records later new result)

-- After an append that failed the disk has the records, or one more.
pub failed : (told later : Option Files) (old new : PlainFiler) (made : Record) (text : List ℕ)
    → BothTold (ChangesOnly (segment_name Log 1)) told later
    → ((records : List Record) (known : Record) → TellsRecords told old.log records → ReadsAs text known → known.time ≡ made.time → TellsEitherLog later records known)
    → ReadsAs text made → MakesAny (λ _. Recorded made) told later old new (Err fault.DiskFault)
failed None later old new made text both either reads = tt
failed (Some files) None old new made text both either reads = absurd both
failed (Some files) (Some more) old new made text both either reads = λ records filed. ((λ none. absurd (cc none)), either records made filed.log reads refl)

-- After one that was done, the filer has one record more.
pub recorded : (told later : Option Files) (old new : PlainFiler) (made : Record) (text : List ℕ)
    → BothTold (ChangesOnly (segment_name Log 1)) told later
    → ((records : List Record) (known : Record) → TellsRecords told old.log records → ReadsAs text known → known.time ≡ made.time → TellsRecords later new.log (records ++ known ∷ []))
    → ReadsAs text made → names_of new.names ≡ after_changes made.changes (names_of old.names)
    → MakesAny (λ _. Recorded made) told later old new (Ok tt)
recorded None later old new made text both appended reads names = tt
recorded (Some files) None old new made text both appended reads names = absurd both
recorded (Some files) (Some more) old new made text both appended reads names = λ records filed. (
  tt,
  record {
    log = appended records made filed.log reads refl;
    names = names ∙ ap (after_changes made.changes) filed.names ∙ sym (fold-push records made);
  },
)

-- And where the disk isn't told, it holds that too.
pub holds_more : (told later : Option Files) (old new : PlainFiler) (made : Record) (text : List ℕ)
    → BothTold (ChangesOnly (segment_name Log 1)) told later
    → ((records : List Record) (known : Record) → TellsRecords told old.log records → ReadsAs text known → known.time ≡ made.time → TellsRecords later new.log (records ++ known ∷ []))
    → ReadsAs text made → names_of new.names ≡ after_changes made.changes (names_of old.names)
    → (records : List Record) × HoldsFiler told old records → (records : List Record) × HoldsFiler later new records
holds_more None None old new made text both appended reads names held = ([], tt)
holds_more None (Some more) old new made text both appended reads names held = absurd both
holds_more (Some files) None old new made text both appended reads names held = absurd both
holds_more (Some files) (Some more) old new made text both appended reads names held =
    (held.0 ++ made ∷ [], (recorded (Some files) (Some more) old new made text both appended reads names held.0 held.1).1)

-- The filer that it is with its names
filed : (files : Files) (filer : PlainFiler) (records : List Record) → TellsRecords (Some files) filer.log records → HoldsNames (Some files) filer.log filer.names → IsFiled files filer records
filed files filer records log names = record { log = log; names = names records log }

pub filed_from : (old new : Option Files) (filer : PlainFiler) → BothTold (LeavesOthers Log) old new → IsOpenedFrom old new filer.log → HoldsNames new filer.log filer.names
    → IfSome old (λ files. IsFiledFrom files new filer)
filed_from None new filer both opened names = tt
filed_from (Some files) None filer both opened names = absurd both
filed_from (Some files) (Some more) filer both opened names = record {
  found = opened.text;
  holds = λ records log. filed more filer records (opened.holds records log) names;
}

pub held_from : (old new : Option Files) (filer : PlainFiler) → BothTold (LeavesOthers Log) old new → IsOpenedFrom old new filer.log → HoldsNames new filer.log filer.names
    → (records : List Record) × HoldsFiler new filer records
held_from None None filer both opened names = ([], tt)
held_from None (Some more) filer both opened names = absurd both
held_from (Some files) None filer both opened names = absurd both
held_from (Some files) (Some more) filer both opened names =
    (opened.text.0, filed more filer opened.text.0 (opened.holds opened.text.0 opened.text.1) names)
