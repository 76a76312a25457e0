use Rattle.std.proofs.Common.{Err, ap, ◌∙◌}
use Rattle.weed_base.specs.PathFaults.{read_fault}
use Rattle.filer_requests.proofs.PlaceLemmas.{text_is_no_memory, no_fault}
use Rattle.filer_requests.proofs.place.fault_of_path.Goals as goal

pub returns-in-Memory : goal.returns-in-Memory
returns-in-Memory c = no_fault (read_fault c.args.text.now) c.read.result (text_is_no_memory c.args.text.now) (c.in-Err.is ∙ ap Err c.in-Memory.is) c.read.ensures.refused
