use Rattle.memchr.proofs.lemmas.ValueLemmas.{FindsNeedle-value}
use Rattle.http_form.proofs.search.place_in.Goals as goal

pub returns-clause-place : goal.returns-clause-place
returns-clause-place c = FindsNeedle-value c.args.bytes.now c.args.text.now c.find.result c.find.ensures
