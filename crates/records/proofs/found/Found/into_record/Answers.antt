use Rattle.std.proofs.Common.{◌∷◌, ◌∙◌, sym, subst}
use Rattle.records.specs.RecordReading.{Collects}
use Rattle.records.proofs.ReadingLoop.{good_record}
use Rattle.records.proofs.found.Found.into_record.Goals as goal

pub returns-in-OutOfMemory : goal.returns-in-OutOfMemory
returns-in-OutOfMemory c = λ all collects.
    let so = subst (Collects all) c.in-OutOfMemory.is collects in
    (record { time = c.args.time; changes = so.0 ∷ so.1 }, good_record c.args.time all so.0 so.1 so.2 (sym c.is_time.ensures ∙ c.if-is_time.true))
