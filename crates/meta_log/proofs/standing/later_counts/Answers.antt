use Rattle.std.proofs.Common.{List, ℕ, subst}
use Rattle.std.specs.Prelude.{IsTrue, Any}
use Rattle.meta_log.specs.Standing.{IsLaterOn}
use Rattle.meta_log.proofs.Names.{told_later}
use Rattle.meta_log.proofs.standing.later_counts.Goals as goal

pub returns-clause-found : goal.returns-clause-found
returns-clause-found g c =
    let found = c.any_later_on.result in
    let P : List (List ℕ) → Type 0 = λ names. (IsTrue found → Any (IsLaterOn c.args.stem) names) × (Any (IsLaterOn c.args.stem) names → IsTrue found) in
    told_later (g.D.Disk.files c.args.disk.now) c.args.stem c.in_ok-names.names found c.in_ok-names.ensures.names (subst P c.as_slice.ensures c.any_later_on.ensures)
