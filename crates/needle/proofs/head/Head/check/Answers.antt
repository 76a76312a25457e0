use Rattle.std.proofs.Common.{rules, arith}
use Rattle.needle.proofs.Pieced.{gone_checked, misfit_checked, needle_checked}
use Rattle.needle.proofs.head.Head.check.Goals as goal

pub returns-then-self-eq0 : goal.returns-then-self-eq0
returns-then-self-eq0 c = λ text pieces. gone_checked c.args.version c.args.self.now c.args.sum c.args.tail.now text c.refuse_other.result (search rules) c.requires pieces c.refuse_other.ensures

pub returns-then-data_behind-eq0 : goal.returns-then-data_behind-eq0
returns-then-data_behind-eq0 c = λ text pieces. misfit_checked c.args.version c.args.self.now c.args.sum c.args.tail.now text (search rules) (search rules) c.requires pieces

pub returns : goal.returns
returns c = λ text pieces. needle_checked c.args.version c.args.self.now c.args.sum c.args.tail.now text c.check_tail.result (omega arith) c.requires pieces c.check_tail.ensures
