use Rattle.http_run.proofs.BodyLemmas.{one_way}
use Rattle.http_run.proofs.laws.a_body_is_read_one_way.Goals as goal

pub returns : goal.returns
returns c stage bytes one two end other first second = one_way stage bytes one end two other first second
