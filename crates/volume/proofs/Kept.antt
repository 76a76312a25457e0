-- That a call which writes leaves the volume on the disk, unless it breaks it.
use Rattle.std.proofs.Common.{◌≡◌, ℕ, List, [], ◌∷◌, ◌++◌, false, sym, ap, subst, ◌∙◌, Option, Some, None, Result, Ok, Err, inl, inr}
use Rattle.std.specs.Prelude.{IfErr, IfSome, OnOk}
use Rattle.std.specs.FinMap.{get}
use Rattle.weed_base.specs.Files.{Files, BothTold, IsThere}
use Rattle.needle.specs.SuperBlock.{superblock_text}
use Rattle.needle.specs.declared.item.Item.{Item}
use Rattle.needle.specs.declared.item.ReadItem.{ReadItem}
use Rattle.volume_items.specs.declared.fault.VolumeFault.{VolumeFault}
use Rattle.volume_items.specs.declared.fault.VolumeFault.TheVariants.{DiskFault}
use Rattle.volume_items.specs.declared.file_names.Part.TheVariants.{Items, Index, Sign}
use Rattle.volume.specs.declared.held.Mode.{Mode}
use Rattle.volume.specs.declared.held.Mode.TheVariants.{ReadWrite, ReadOnly}
use Rattle.volume.specs.declared.held.Volume.{Volume}
use Rattle.volume.specs.Appending.{HoldsMore, IsAsWas, read_of}
use Rattle.volume_items.specs.Contents.{AreItems}
use Rattle.volume_items.specs.FileNames.{name_of}
use Rattle.volume.specs.Holds.{Holds, HoldsUnlessBroken, IsWritable}
use Rattle.volume.specs.Writes.{Stays}
use Rattle.volume_items.proofs.Judged.{never_true}

writable_still : (mode : Mode) (old new : Volume) (files : Files) (text : List ℕ) → IsAsWas old new → IsWritable mode old files text → IsWritable mode new files text
writable_still ReadOnly old new files text was writable = tt
writable_still ReadWrite old new files text was writable =
    let index = writable.1 in
    (writable.0 ∙ sym was.end, (index.0, ap (λ n. get files (name_of n Index)) (was.one).id ∙ index.1, index.2 ∙ sym was.index_end, index.3, index.4 ∙ sym was.index))

holds_still : (old new : Volume) (items : List ReadItem) (files : Files) → IsAsWas old new → Holds old items files → Holds new items files
holds_still old new items files was holds =
    let one = was.one in
    let had = holds.has in
    record {
      text = holds.text;
      has = record {
        there = ap (λ n. get files (name_of n Items)) one.id ∙ had.there;
        bytes = had.bytes;
        front = had.front ∙ ap superblock_text (sym one.block);
        are = subst (λ b. AreItems b.version holds.text 8 items) (sym one.block) had.are;
      };
      sign = subst (λ (n : ℕ). IsThere (name_of n Sign) files) (sym one.id) holds.sign;
      end = was.end ∙ holds.end;
      index = was.index ∙ holds.index;
      greatest = was.greatest ∙ holds.greatest;
      writable = subst (λ m. IsWritable m new files holds.text) (sym one.mode) (writable_still old.mode old new files holds.text was holds.writable);
    }

unless_broken_still : (old new : Volume) (files : Files) → IsAsWas old new → HoldsUnlessBroken old files → HoldsUnlessBroken new files
unless_broken_still old new files was (inl broken) = inl (was.broken ∙ broken)
unless_broken_still old new files was (inr held) = inr (held.0, holds_still old new held.0 files was held.1)

told_still : (old new : Volume) (told : Option Files) → IsAsWas old new → IfSome told (HoldsUnlessBroken old) → IfSome told (HoldsUnlessBroken new)
told_still old new None was held = tt
told_still old new (Some files) was held = unless_broken_still old new files was held

unless_broken_grown : (old new : Volume) (item : Item) (moment : ℕ) (before now : Files) → old.broken ≡ false → HoldsUnlessBroken old before → HoldsMore old new item moment before now
    → HoldsUnlessBroken new now
unless_broken_grown old new item moment before now sound (inl broken) more = absurd (never_true (sym sound ∙ broken))
unless_broken_grown old new item moment before now sound (inr held) more = inr (held.0 ++ read_of old.block.version item moment ∷ [], more held.0 held.1)

told_grown : (old new : Volume) (item : Item) (moment : ℕ) (before now : Option Files) → old.broken ≡ false → IfSome before (HoldsUnlessBroken old)
    → BothTold (HoldsMore old new item moment) before now → IfSome now (HoldsUnlessBroken new)
told_grown old new item moment before None sound held more = tt
told_grown old new item moment None (Some now) sound held more = absurd more
told_grown old new item moment (Some before) (Some now) sound held more = unless_broken_grown old new item moment before now sound held more

pub told_kept : {T : Type 0} (old new : Volume) (item : Item) (moment : ℕ) (before now : Option Files) (result : Result T VolumeFault) → old.broken ≡ false
    → IfSome before (HoldsUnlessBroken old) → OnOk result (BothTold (HoldsMore old new item moment) before now) → IfErr result (Stays old new before now)
    → (result ≡ Err DiskFault → ⊥) → IfSome now (HoldsUnlessBroken new)
told_kept old new item moment before now (Ok value) sound held more stays other = told_grown old new item moment before now sound held more
told_kept old new item moment before now (Err fault) sound held more stays other = elim stays.1 [
  | inl is ↦ absurd (other (ap Err is))
  | inr same ↦ subst (λ told. IfSome told (HoldsUnlessBroken new)) (sym same) (told_still old new before stays.0 held)
]
