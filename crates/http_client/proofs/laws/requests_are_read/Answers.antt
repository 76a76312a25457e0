use Rattle.http_client.proofs.SentLemmas.{sent_is_head}
use Rattle.http_client.proofs.laws.requests_are_read.Goals as goal

pub returns : goal.returns
returns c = sent_is_head
