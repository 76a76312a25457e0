use Rattle.std.proofs.Common.{sym, subst, Option}
use Rattle.std.specs.Prelude.{IfSome, IsTrue}
use Rattle.weed_base.specs.Files.{Files}
use Rattle.meta_log.specs.LogText.{Counts}
use Rattle.meta_log.specs.Standing.{IsStanding}
use Rattle.meta_log.specs.declared.standing.Standing.{Standing}
use Rattle.meta_log.proofs.Names.{told_standing}
use Rattle.meta_log.proofs.standing.find_standing.Goals as goal

pub returns-clause-found : goal.returns-clause-found
returns-clause-found g c =
    let first = c.in_ok-first.first in
    let P : Option Files → Type 0 = λ told. IfSome told (λ files. (IsTrue first → Counts c.args.stem 1 files) × (Counts c.args.stem 1 files → IsTrue first)) in
    let Q : Standing → Type 0 = λ found. IfSome (g.D.Disk.files c.args.disk.now) (λ files. IsStanding c.args.stem files found) in
    subst Q (sym c.choose.ensures)
    (told_standing (g.D.Disk.files c.args.disk.now) c.args.stem first c.in_ok-later.later (subst P c.in_ok-later.ensures.looks.files c.in_ok-first.ensures.found) c.in_ok-later.ensures.found)
