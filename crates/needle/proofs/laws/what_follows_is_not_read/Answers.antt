use Rattle.needle.proofs.Followed.{read_followed}
use Rattle.needle.proofs.laws.what_follows_is_not_read.Goals as goal

pub returns : goal.returns
returns c = read_followed
