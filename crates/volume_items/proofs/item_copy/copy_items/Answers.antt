use Rattle.std.proofs.Common.{List, refl, rules, subst, sym}
use Rattle.std.specs.Prelude.{IfSome}
use Rattle.std.proofs.lemmas.List.{nil_from_length}
use Rattle.weed_base.specs.Files.{BothTold}
use Rattle.needle_index.specs.declared.entry.IndexEntry.{IndexEntry}
use Rattle.volume_items.specs.declared.fault.VolumeFault.TheVariants.{Damaged}
use Rattle.volume_items.specs.declared.file_names.Part.TheVariants.{Copy}
use Rattle.volume_items.specs.Changes.{ChangesOnly}
use Rattle.volume_items.specs.Copying.{IsLost}
use Rattle.volume_items.specs.FileNames.{name_of}
use Rattle.volume_items.specs.Vacuuming.{CanCopy}
use Rattle.volume_items.proofs.Copied.{lost_back}
use Rattle.volume_items.proofs.Growing.{told_others_joined}
use Rattle.volume_items.proofs.Onward.{Onward, told_begins, told_can, told_ended, told_ends, told_lies, told_only, told_room, told_steps}
use Rattle.volume_items.proofs.item_copy.copy_items.Goals as goal

pub loop-entry-init : goal.loop-entry-init
loop-entry-init g c = (
  refl,
  refl,
  c.requires.of,
  c.requires.len,
  told_only (name_of c.args.id Copy) (g.D.Disk.files c.args.disk.now),
  told_begins (g.D.Disk.files c.args.disk.now) c.args.id c.args.version c.args.end c.args.entries.now,
)

pub returns-then-reached-gt-LAST_END-clause-lost : goal.returns-then-reached-gt-LAST_END-clause-lost
returns-then-reached-gt-LAST_END-clause-lost g c =
    let was = g.D.Disk.files c.args.disk.now in
    let is = g.D.Disk.files c.loop-entry.disk in
    subst (IsLost was) (sym c.no_item.ensures)
    (lost_back (ChangesOnly (name_of c.args.id Copy)) was is c.loop-entry.invariant.4 (Damaged c.loop-entry.reached 0 0)
    (told_room is c.args.id c.args.version c.loop-entry.reached c.loop-entry.left.now c.if-reached-gt-LAST_END.true
    (told_can was is c.args.id c.args.version c.args.end c.loop-entry.reached c.args.entries.now c.loop-entry.left.now c.requires.can c.loop-entry.invariant.5)))

pub copy_item-requires-clause-lies : goal.copy_item-requires-clause-lies
copy_item-requires-clause-lies g c =
    let was = g.D.Disk.files c.args.disk.now in
    let is = g.D.Disk.files c.loop-entry.disk in
    told_lies is c.args.id c.args.version c.loop-entry.reached c.in-Some.entry.now c.in-Some.rest.now
    (subst (λ (l : List IndexEntry). IfSome is (CanCopy c.args.id c.args.version c.loop-entry.reached l)) c.in-Some.ensures.cases.0
    (told_can was is c.args.id c.args.version c.args.end c.loop-entry.reached c.args.entries.now c.loop-entry.left.now c.requires.can c.loop-entry.invariant.5))

pub copy_item-requires-clause-ends : goal.copy_item-requires-clause-ends
copy_item-requires-clause-ends g c =
    let was = g.D.Disk.files c.args.disk.now in
    let is = g.D.Disk.files c.loop-entry.disk in
    told_ends is c.args.id c.args.version c.loop-entry.reached c.loop-entry.left.now
    (told_can was is c.args.id c.args.version c.args.end c.loop-entry.reached c.args.entries.now c.loop-entry.left.now c.requires.can c.loop-entry.invariant.5)

pub loop-entry-preserved : goal.loop-entry-preserved
loop-entry-preserved g c =
    let was = g.D.Disk.files c.args.disk.now in
    let is = g.D.Disk.files c.loop-entry.disk in
    let now = g.D.Disk.files c.copy_item.new.disk in (
      search rules,
      search rules,
      c.in_ok-reached.ensures.of,
      c.in_ok-reached.ensures.len,
      told_others_joined (name_of c.args.id Copy) was is now c.loop-entry.invariant.4 c.in_ok-reached.ensures.others,
      told_steps was is now c.args.id c.args.version c.args.end c.loop-entry.reached c.in_ok-reached.field-0 c.args.entries.now c.in-Some.rest.now c.in-Some.entry.now
          (subst (λ (l : List IndexEntry). BothTold (Onward c.args.id c.args.version c.args.end c.args.entries.now c.loop-entry.reached l) was is) c.in-Some.ensures.cases.0 c.loop-entry.invariant.5)
          c.in_ok-reached.ensures.copied,
    )

pub returns-in_err-reached-clause-others : goal.returns-in_err-reached-clause-others
returns-in_err-reached-clause-others g c =
    told_others_joined (name_of c.args.id Copy) (g.D.Disk.files c.args.disk.now) (g.D.Disk.files c.loop-entry.disk) _ c.loop-entry.invariant.4 c.copy_item.ensures.others

pub returns-clause-copied : goal.returns-clause-copied
returns-clause-copied g c =
    told_ended (g.D.Disk.files c.args.disk.now) (g.D.Disk.files c.loop-entry.disk) c.args.id c.args.version c.args.end c.loop-entry.reached c.args.entries.now c.loop-entry.left.now
    (nil_from_length c.loop-entry.left.now c.in_default.ensures.cases) c.loop-entry.invariant.5
