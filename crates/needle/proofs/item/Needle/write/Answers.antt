use Rattle.std.proofs.Common.{rules}
use Rattle.needle.proofs.Apart.{written}
use Rattle.needle.proofs.item.Needle.write.Goals as goal

pub returns-clause-readable : goal.returns-clause-readable
returns-clause-readable c =
    written c.args.item.now c.args.version c.args.moment c.of.result (search rules) (search rules) (search rules)
