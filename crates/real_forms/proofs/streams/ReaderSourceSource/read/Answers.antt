use Rattle.weed_base.specs.declared.source.Failed.{Failed}
use Rattle.real_forms.proofs.StreamLemmas.{read_handed_on}
use Rattle.real_forms.proofs.streams.ReaderSourceSource.read.Goals as goal

pub returns-clause-bytes : goal.returns-clause-bytes
returns-clause-bytes g c =
    let told = c.read_once-answer.ensures in
    read_handed_on {F = Failed} (record {}) _ _ c.read_once-answer.result _ _ (g.met.R.SteadyRead.steady c.read_once-answer.new.self c.args.self.now.reader) told.bound told.bytes c.note.ensures.value
