use Rattle.std.proofs.Common.{ap, sym, subst, ◌∙◌}
use Rattle.std.specs.Prelude.{option_map}
use Rattle.records.specs.Events.{both, listed, FindsChanges}
use Rattle.records.specs.RecordReading.{Collects}
use Rattle.records.proofs.ReadingLoop.{none_more}
use Rattle.records.proofs.found.Found.take.Goals as goal

pub returns-in-Ok-Some : goal.returns-in-Ok-Some
returns-in-Ok-Some c = λ before meant so finds.
    let found = subst (FindsChanges meant) c.in-Ok-Some.is finds in
    subst (λ o. Collects (both before o) c.keep.new.self) (ap (option_map listed) (sym c.in-Ok-Some.field-0-is) ∙ found) (c.keep.ensures before so)

pub returns-in-Ok-None : goal.returns-in-Ok-None
returns-in-Ok-None c = λ before meant so finds.
    let found = subst (FindsChanges meant) c.in-Ok-None.is finds in
    ap (both before) (sym (ap (option_map listed) (sym c.in-Ok-None.field-0-is) ∙ found)) ∙ none_more before

pub returns-in-Err : goal.returns-in-Err
returns-in-Err c = λ before meant so finds.
    let some = subst (FindsChanges meant) c.in-Err.is finds in
    subst (λ o. Collects (both before o) c.stop_keeping.new.self) (sym some.2) (c.stop_keeping.ensures before some.0 some.1 so)
