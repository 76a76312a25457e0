use Rattle.needle.specs.Layout.{padded}
use Rattle.needle_index.proofs.Sums.{sum_of-insert, sum_of-remove}
use Rattle.needle_index.proofs.laws.live_bytes_follow_a_change.Goals as goal

pub returns-clause-put : goal.returns-clause-put
returns-clause-put c = λ version spots key spot. sum_of-insert (λ s. padded version s.size) spots key spot

pub returns-clause-removal : goal.returns-clause-removal
returns-clause-removal c = λ version spots key. sum_of-remove (λ s. padded version s.size) spots key
