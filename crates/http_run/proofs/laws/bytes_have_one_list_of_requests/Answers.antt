use Rattle.http_run.proofs.OutcomeLemmas.{requests_once}
use Rattle.http_run.proofs.laws.bytes_have_one_list_of_requests.Goals as goal

pub returns : goal.returns
returns c limit early closes bytes one two rest other first second = requests_once limit early closes bytes one rest two other first second
