use Rattle.std.proofs.Common.{rules, refl, subst}
use Rattle.std.specs.Prelude.{IfSome}
use Rattle.weed_base.specs.Files.{content}
use Rattle.volume_items.specs.Walk.{WritesOn}
use Rattle.volume_items.proofs.Told.{moved}
use Rattle.volume_items.proofs.Entering.{told_begun, told_ended}
use Rattle.volume_items.proofs.indexing.index_text.Goals as goal

pub returns-clause-entries : goal.returns-clause-entries
returns-clause-entries g c =
    let before = c.loop-text.invariant in
    told_ended (g.D.Disk.files c.args.disk.now) c.args.name.now c.args.version c.loop-text.place c.entry_step.new.place c.loop-text.text c.entry_step.new.text
    (moved _ before.1.files (subst (λ goes. IfSome (g.D.Disk.files c.loop-text.disk) (λ files. WritesOn c.args.version (content files c.args.name.now) c.loop-text.place c.entry_step.new.place c.loop-text.text c.entry_step.new.text goes)) c.if-branch.false c.in_ok-entry_step.ensures.goes))
    before.5

pub loop-text-init : goal.loop-text-init
loop-text-init g c =
    (search rules, search rules, search rules, search rules, search rules, told_begun (g.D.Disk.files c.args.disk.now) c.args.name.now c.args.version c.new-text.result 8 c.new-text.ensures refl)
