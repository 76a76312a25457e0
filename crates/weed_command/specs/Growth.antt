-- What a run does to the files of its directory.
use Rattle.std.specs.Prelude.{ℕ, List, ◌++◌, map}
use Rattle.weed_base.specs.Files.{Files}
use Rattle.name_core.specs.declared.change.Record.{Record}
use Rattle.records.specs.RecordText.{record_text}
use Rattle.meta_log.specs.LogText.{IsLogText}
use Rattle.meta_log.specs.Making.{LeavesOthers}
use Rattle.meta_log.specs.declared.stem.Stem.TheVariants.{Log}

-- The log has grown by the texts of some records, each as it is written, and no other file is touched.
pub record GrowsByRecords (old new : Files) : Type 0 where
  pub others : LeavesOthers Log old new
  pub text : (payloads : List (List ℕ)) → IsLogText Log old payloads → (added : List Record) × IsLogText Log new (payloads ++ map record_text added)
