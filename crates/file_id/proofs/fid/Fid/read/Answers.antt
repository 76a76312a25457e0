use Rattle.std.proofs.Common.{◌∙◌}
use Rattle.file_id.proofs.Names.{named_reads, found_names}
use Rattle.file_id.proofs.fid.Fid.read.Goals as goal

pub returns-clause-found : goal.returns-clause-found
returns-clause-found c = found_names _ _ c.read.ensures

pub returns-clause-only : goal.returns-clause-only
returns-clause-only c = λ fid names. c.read.ensures ∙ named_reads _ fid names
