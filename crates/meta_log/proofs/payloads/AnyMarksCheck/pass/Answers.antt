use Rattle.meta_log.specs.LogText.{IsMarks}
use Rattle.meta_log.proofs.Kept.{verdict}
use Rattle.meta_log.proofs.payloads.AnyMarksCheck.pass.Goals as goal

pub returns-clause-verdict : goal.returns-clause-verdict
returns-clause-verdict c before passed = verdict IsMarks c.is_marks.result before c.args.payload.now c.is_marks.ensures passed
