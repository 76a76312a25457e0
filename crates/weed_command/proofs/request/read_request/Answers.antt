use Rattle.weed_command.proofs.ReadingLemmas.{request_found, request_none}
use Rattle.weed_command.proofs.request.read_request.Goals as goal

pub returns-clause-found : goal.returns-clause-found
returns-clause-found c = request_found c.args.text.now c.read_target.result c.read_target.ensures

pub returns-clause-none : goal.returns-clause-none
returns-clause-none c = request_none c.args.text.now c.read_target.result c.read_target.ensures
