use Rattle.meta_log.proofs.RecordLists.{time_passed, time_refused, none_refused}
use Rattle.meta_log.proofs.rising.RisingRecordsCheck.pass.Goals as goal

pub returns-in-Some-clause-verdict : goal.returns-in-Some-clause-verdict
returns-in-Some-clause-verdict c before has =
    time_passed c.args.self.now.front before c.args.payload.now c.in_ok-time.field-0 c.in-Some.time c.in-Some.is c.in_ok-time.ensures has c.if-time-self.true

pub returns-in_default-clause-verdict : goal.returns-in_default-clause-verdict
returns-in_default-clause-verdict c before has =
    time_refused c.args.self.now.front before c.args.payload.now c.in_ok-time.field-0 c.in-Some.time c.in-Some.is c.in_ok-time.ensures has c.if-time-self.false

pub returns-in_default-2-clause-verdict : goal.returns-in_default-2-clause-verdict
returns-in_default-2-clause-verdict c before has = none_refused c.args.self.now.front before c.args.payload.now c.in_ok-time.field-0 c.in_default.is c.in_ok-time.ensures has
