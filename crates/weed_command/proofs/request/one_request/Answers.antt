use Rattle.weed_command.proofs.HeadLemmas.{one_request}
use Rattle.weed_command.proofs.request.one_request.Goals as goal

pub returns : goal.returns
returns c = one_request
