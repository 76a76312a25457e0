use Rattle.std.proofs.Common.{arith}
use Rattle.needle.proofs.Verdicts.{is_found, is_only, is_refused}
use Rattle.needle.proofs.item.Needle.read.Goals as goal

pub returns-clause-found : goal.returns-clause-found
returns-clause-found c = is_found c.args.version c.args.text.now c.read_item.result (λ i. omega (arith, c.type_inv.text i)) c.read_item.ensures

pub returns-clause-only : goal.returns-clause-only
returns-clause-only c = is_only c.args.version c.args.text.now c.read_item.result (λ i. omega (arith, c.type_inv.text i)) c.read_item.ensures

pub returns-clause-refused : goal.returns-clause-refused
returns-clause-refused c = is_refused c.args.version c.args.text.now c.read_item.result (λ i. omega (arith, c.type_inv.text i)) c.read_item.ensures
