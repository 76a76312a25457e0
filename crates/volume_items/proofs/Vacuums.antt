-- Items that a vacuum copies.
use Rattle.std.proofs.Common.{◌≡◌, ◌≢◌, ℕ, ◌+◌, ◌-◌, ◌*◌, ◌≤◌, ◌<◌, List, length, drop, sym, ap, subst, ◌∙◌, arith, Option, Some, None}
use Rattle.std.specs.Prelude.{IfSome}
use Rattle.std.proofs.Math.ListN.{get_or}
use Rattle.std.proofs.lemmas.List.{length-drop}
use Rattle.weed_base.specs.Files.{Files, content}
use Rattle.needle.specs.declared.item.ReadItem.{ReadItem}
use Rattle.needle.specs.declared.version.Version.{Version}
use Rattle.needle.specs.Fields.{size_in}
use Rattle.needle.specs.Layout.{padded}
use Rattle.needle.proofs.Followed.{read_whole}
use Rattle.needle_index.specs.declared.entry.IndexEntry.{IndexEntry}
use Rattle.volume_items.specs.declared.file_names.Part.TheVariants.{Items, Copy}
use Rattle.volume_items.specs.FileNames.{ending, name_of}
use Rattle.volume_items.specs.Vacuuming.{LiesAt}
use Rattle.volume_items.proofs.Apart.{differ}
use Rattle.volume_items.proofs.Judged.{least_taken}

items_copy : ending Items ≡ ending Copy → ⊥
items_copy e = let h : 100 ≡ 99 = ap (λ (l : List ℕ). get_or l 1 0) e in omega (arith, h)

pub apart : (id : ℕ) (from to : List ℕ) → from ≡ name_of id Items → to ≡ name_of id Copy → from ≢ to
apart id from to from_is to_is same = differ id Items Copy items_copy (sym from_is ∙ same ∙ to_is)

pub there : (version : Version) (text : List ℕ) (entry : IndexEntry) (read : ReadItem) → LiesAt version text entry read → 8 * entry.offset + read.taken ≤ length text
there version text entry read lies =
    let place : ℕ = 8 * entry.offset in
    let whole = read_whole version (drop place text) read (lies.held).is_read in
    some place (length text) read.taken (omega (arith, whole.0, whole.1, length-drop place text)) (least whole.0)
  where
    some : (place len taken : ℕ) → taken ≤ len - place → 0 < taken → place + taken ≤ len
    some place len taken few more = omega (arith, few, more)

    least : read.taken ≡ padded version (size_in (drop (8 * entry.offset) text)) → 0 < read.taken
    least is = omega (arith, is, least_taken version (size_in (drop (8 * entry.offset) text)))

pub told_there : (told mid : Option Files) (id taken : ℕ) (name : List ℕ) (version : Version) (entry : IndexEntry) → mid ≡ told → name ≡ name_of id Items
    → IfSome told (λ files. (read : ReadItem) × LiesAt version (content files (name_of id Items)) entry read)
    → IfSome told (λ files. (read : ReadItem) → LiesAt version (content files (name_of id Items)) entry read → taken ≡ read.taken)
    → IfSome mid (λ files. 8 * entry.offset + taken ≤ length (content files name))
told_there None mid id taken name version entry same is lies takes = subst (λ o. IfSome o (λ files. 8 * entry.offset + taken ≤ length (content files name))) (sym same) tt
told_there (Some files) mid id taken name version entry same is lies takes =
    subst (λ o. IfSome o (λ files. 8 * entry.offset + taken ≤ length (content files name))) (sym same)
    (subst (λ (n : List ℕ). 8 * entry.offset + taken ≤ length (content files n)) (sym is)
    (subst (λ (n : ℕ). 8 * entry.offset + n ≤ length (content files (name_of id Items))) (sym (takes lies.0 lies.1)) (there version (content files (name_of id Items)) entry lies.0 lies.1)))
