use Rattle.std.proofs.Common.{refl, rules, subst}
use Rattle.std.specs.Prelude.{IfSome}
use Rattle.weed_base.specs.Files.{content}
use Rattle.volume_items.specs.Walk.{WalksOn}
use Rattle.volume_items.proofs.Told.{moved}
use Rattle.volume_items.proofs.Fitting.{fits_none}
use Rattle.volume_items.proofs.Walks.{told_begun, told_ended}
use Rattle.volume_items.proofs.walking.walk.Goals as goal

pub loop-walked-init : goal.loop-walked-init
loop-walked-init g c = (
  search rules,
  search rules,
  search rules,
  search rules,
  search rules,
  told_begun (g.D.Disk.files c.args.disk.now) c.args.name.now c.args.version _ c.new-2.ensures refl refl c.requires.front,
  fits_none c.args.version c.new-2.result.spots c.new-2.ensures,
)

pub returns-clause-walked : goal.returns-clause-walked
returns-clause-walked g c =
    let told = g.D.Disk.files c.args.disk.now in
    let before = c.loop-walked.invariant in
    told_ended told c.args.name.now c.args.version c.loop-walked.walked c.step.new.walked
    (moved _ before.1.files (subst (λ goes. IfSome (g.D.Disk.files c.loop-walked.disk) (λ files. WalksOn c.args.version (content files c.args.name.now) c.loop-walked.walked c.step.new.walked goes)) c.if-branch.false c.in_ok-step.ensures.goes))
    before.5
