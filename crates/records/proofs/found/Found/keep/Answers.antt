use Rattle.std.proofs.Common.{Some, ap, sym, subst, ◌∙◌}
use Rattle.records.specs.Events.{both}
use Rattle.records.specs.RecordReading.{Collects}
use Rattle.records.proofs.ReadingLoop.{lost_more, unkept_more, listed_some}
use Rattle.records.proofs.found.Found.keep.Goals as goal

pub returns-in_default : goal.returns-in_default
returns-in_default c = λ before so.
    let some = listed_some c.args.found in
    subst (λ added. Collects (both before (Some added)) c.args.self.now) (sym some.2) (unkept_more before c.args.self.now some.0 some.1 c.in_default.not-Changes so)

pub returns-then-is_err : goal.returns-then-is_err
returns-then-is_err c = λ before so.
    let some = listed_some c.args.found in
    let lost = lost_more before c.in-Changes.changes.items some.0 some.1 (subst (Collects before) c.in-Changes.is so) in
    (lost.0, lost.1, ap (λ added. both before (Some added)) some.2 ∙ lost.2)
