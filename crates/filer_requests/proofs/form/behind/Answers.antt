use Rattle.std.proofs.Common.{true, false}
use Rattle.filer_requests.proofs.FormLemmas.{found_here, not_here, begins_so, rest_so}
use Rattle.filer_requests.proofs.form.behind.Goals as goal

pub returns-in-Some : goal.returns-in-Some
returns-in-Some c =
    let cases = c.in-Some.ensures.cases in
    found_here c.args.word.now c.args.text.now c.in-Some.rest.now c.loop-place.place c.loop-place-test.true
    (begins_so c.args.word.now c.args.text.now c.loop-place.place true cases.0)
    (rest_so c.args.word.now c.args.text.now c.in-Some.rest.now c.loop-place.place cases.1)
    c.loop-place.invariant

pub loop-place-preserved : goal.loop-place-preserved
loop-place-preserved c =
    not_here c.args.word.now c.args.text.now c.loop-place.place c.loop-place-test.true
    (begins_so c.args.word.now c.args.text.now c.loop-place.place false c.in_default.ensures.cases)
    c.loop-place.invariant
