use Rattle.std.proofs.Common.{subst}
use Rattle.records.specs.RecordReading.{Collects}
use Rattle.records.proofs.ReadingLoop.{lost_more, unkept_more}
use Rattle.records.proofs.found.Found.stop_keeping.Goals as goal

pub returns-in-Changes : goal.returns-in-Changes
returns-in-Changes c = λ before first more so. lost_more before c.in-Changes.field-0.items first more (subst (Collects before) c.in-Changes.is so)

pub returns-in_default : goal.returns-in_default
returns-in_default c = λ before first more so. unkept_more before c.args.self.now first more c.in_default.not-Changes so
