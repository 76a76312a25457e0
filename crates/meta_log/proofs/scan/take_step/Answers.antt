use Rattle.std.proofs.Common.{arith, sym, subst}
use Rattle.std.specs.Prelude.{IfSome}
use Rattle.weed_base.specs.Files.{content}
use Rattle.meta_log.specs.Head.{HasPayload}
use Rattle.meta_log.specs.Scan.{IsScanned}
use Rattle.meta_log.proofs.Scans.{told_broken, told_refused, told_passed}
use Rattle.meta_log.proofs.scan.take_step.Goals as goal

pub returns-in-Broken-clause-met : goal.returns-in-Broken-clause-met
returns-in-Broken-clause-met g c =
    told_broken (g.D.Disk.files c.args.disk.now) c.args.name.now c.args.reading.now c.next_head.new.reading c.in_ok-next_head.field-0 (g.C.Check.passed c.args.check.now) (g.C.Check.passed c.args.check.now) g.C.Check.allowed
    c.requires.scanned c.in_ok-next_head.ensures.next c.in_ok-next_head.ensures.place.0 c.in-Broken.is (g.met.C.Check.sound c.args.check.now)

-- the check refuses the payload
pub returns-then-not-branch-clause-met : goal.returns-then-not-branch-clause-met
returns-then-not-branch-clause-met g c =
    told_refused (g.D.Disk.files c.args.disk.now) c.args.name.now c.args.reading.now c.next_head.new.reading c.in_ok-next_head.field-0 (g.C.Check.passed c.args.check.now) (g.C.Check.passed c.pass.new.self) g.C.Check.allowed
    c.requires.scanned c.in_ok-next_head.ensures.next c.in_ok-next_head.ensures.place.0
    c.held.result.now c.in-Item.size _ c.in_ok-pass-in-Item.field-0 c.in-Item.is (omega arith) c.held.ensures.held (subst (HasPayload c.next_head.new.reading.held) c.in-Item.is c.in_ok-next_head.ensures.there) c.in_ok-pass-in-Item.ensures.verdict
    c.if-not-branch.true (g.met.C.Check.sound c.args.check.now)

-- the check lets the payload through
pub returns-else-not-branch-clause-met : goal.returns-else-not-branch-clause-met
returns-else-not-branch-clause-met g c =
    subst (λ now. IfSome (g.D.Disk.files c.args.disk.now) (λ files. IsScanned (g.C.Check.passed c.pass.new.self) (content files c.args.name.now) now)) (sym c.skip.ensures)
    (told_passed (g.D.Disk.files c.args.disk.now) c.args.name.now c.args.reading.now c.next_head.new.reading c.in_ok-next_head.field-0 (g.C.Check.passed c.args.check.now) (g.C.Check.passed c.pass.new.self) g.C.Check.allowed
    c.requires.scanned c.in_ok-next_head.ensures.next c.in_ok-next_head.ensures.place.0
    c.held.result.now c.in-Item.size _ c.in_ok-pass-in-Item.field-0 c.in-Item.is (omega arith) c.held.ensures.held (subst (HasPayload c.next_head.new.reading.held) c.in-Item.is c.in_ok-next_head.ensures.there) c.in_ok-pass-in-Item.ensures.verdict
    c.if-not-branch.false)

pub pass-requires : goal.pass-requires
pass-requires g c =
    let there = subst (HasPayload c.next_head.new.reading.held) c.in-Item.is c.in_ok-next_head.ensures.there in
    omega (arith, there, c.requires.few, c.held.ensures.bound, c.held.ensures.fits, c.in_ok-next_head.ensures.place.0)
