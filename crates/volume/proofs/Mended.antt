-- What an opening for writing leaves.
use Rattle.std.proofs.Common.{◌≡◌, ℕ, List, [], sym, ap, subst, ◌∙◌, Option, Some, None, Result, Ok, Err}
use Rattle.std.specs.Prelude.{IfSome, IfOk, unwrap_or}
use Rattle.weed_base.specs.Files.{Files, content}
use Rattle.needle.specs.declared.item.ReadItem.{ReadItem}
use Rattle.volume_items.specs.declared.file_names.Part.TheVariants.{Items}
use Rattle.volume.specs.declared.held.Volume.{Volume}
use Rattle.volume_items.specs.Contents.{AreItems, index_of}
use Rattle.volume_items.specs.FileNames.{name_of}
use Rattle.volume.specs.Holds.{Holds}
use Rattle.volume_items.specs.Loading.{StandsFor}
use Rattle.volume_items.specs.Walk.{AreEntries}
use Rattle.volume_items.proofs.Appended.{items_unique}

-- the items of a volume that is held, whatever list of them is read again
entries_stand : (volume : Volume) (items : List ReadItem) (files : Files) (name entries : List ℕ) → name ≡ name_of volume.id Items → Holds volume items files
    → AreEntries volume.block.version (content files name) entries → StandsFor volume.index.spots entries
entries_stand volume items files name entries named held again =
    let text_is : content files name ≡ held.text = ap (content files) named ∙ ap (λ (o : Option (List ℕ)). unwrap_or o []) held.has.there in
    let are = subst (λ (t : List ℕ). AreItems volume.block.version t 8 again.items) text_is again.are in
    let same : again.items ≡ items = items_unique volume.block.version held.text 8 again.items items are held.has.are in
    record { whole = again.whole; same = again.same ∙ ap index_of same ∙ sym held.index }

pub told_stand : {E : Type 0} (told : Option Files) (volume : Volume) (name : List ℕ) (result : Result (List ℕ) E) → name ≡ name_of volume.id Items
    → IfSome told (λ files. (items : List ReadItem) × Holds volume items files)
    → IfOk result (λ entries. IfSome told (λ files. AreEntries volume.block.version (content files name) entries))
    → IfOk result (λ entries. IfSome told (λ _. StandsFor volume.index.spots entries))
told_stand None volume name (Ok entries) named held again = tt
told_stand (Some files) volume name (Ok entries) named held again = entries_stand volume held.0 files name entries named held.1 again
told_stand told volume name (Err fault) named held again = tt
