use Rattle.std.proofs.Common.{arith}
use Rattle.needle_index.proofs.Entries.{entry_again}
use Rattle.needle_index.proofs.entry.IndexEntry.write.Goals as goal

pub returns-clause-read_back : goal.returns-clause-read_back
returns-clause-read_back c = rw (c.copy_from_slice-3.ensures.after, c.copy_from_slice-2.ensures.after, c.copy_from_slice.ensures.after, c.to_be_bytes.ensures, c.to_be_bytes-2.ensures, c.to_be_bytes-3.ensures) (entry_again c.args.self.now (omega arith) (omega arith) (omega arith))
