use Rattle.weed_base.specs.declared.source.Failed.{Failed}
use Rattle.real_forms.proofs.StreamLemmas.{write_handed_on}
use Rattle.real_forms.proofs.streams.WriterSinkSink.write.Goals as goal

pub returns-clause-bytes : goal.returns-clause-bytes
returns-clause-bytes g c =
    let told = c.write_once-answer.ensures in
    write_handed_on {F = Failed} (record {}) _ _ c.write_once-answer.result _ _ (g.met.W.SteadyWrite.steady c.write_once-answer.new.self c.args.self.now.writer) told.bound told.bytes c.note_write.ensures.value
