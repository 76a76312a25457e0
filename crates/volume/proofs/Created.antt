-- The files of a new volume hold it.
use Rattle.std.proofs.Common.{◌≡◌, ℕ, List, [], length, drop, refl, sym, ◌∙◌, ap, subst, arith, Some, Err}
use Rattle.std.specs.Prelude.{is_some}
use Rattle.std.specs.FinMap.{get, empty}
use Rattle.std.proofs.lemmas.List.{take_all, nil_from_length, length-append, length-drop}
use Rattle.weed_base.specs.Files.{Files, removed}
use Rattle.needle.specs.SuperBlock.{superblock_text}
use Rattle.needle.specs.declared.fault.NeedleFault.TheVariants.{Truncated}
use Rattle.needle.specs.declared.placement.Placement.{Placement}
use Rattle.needle.specs.declared.item.ReadItem.{ReadItem}
use Rattle.needle.specs.declared.version.Version.TheVariants.{V3}
use Rattle.needle.specs.Fields.{AreBytes}
use Rattle.needle.specs.Reading.{read_at}
use Rattle.needle_index.specs.Text.{spots_of, entered_all}
use Rattle.volume_items.specs.declared.file_names.Part.TheVariants.{Items, Index, Sign}
use Rattle.volume.specs.declared.held.Volume.{Volume}
use Rattle.volume_items.specs.Contents.{AreItems}
use Rattle.volume_items.specs.FileNames.{name_of}
use Rattle.volume.specs.Holds.{Holds, IsWritable}
use Rattle.volume.specs.Making.{IsNew, created, new_block}
use Rattle.volume_items.proofs.Named.{get-insert_same, get-insert_other}
use Rattle.volume_items.proofs.Apart.{anew, differ, items_index, items_sign, index_sign}

-- ---- its files

items_there : (id : ℕ) (text : List ℕ) (files : Files) → get (created id text files) (name_of id Items) ≡ Some text
items_there id text files =
    get-insert_other _ (name_of id Sign) [] (name_of id Items) (differ id Items Sign items_sign)
    ∙ get-insert_other _ (name_of id Index) [] (name_of id Items) (differ id Items Index items_index)
    ∙ anew (name_of id Items) text (removed (name_of id Sign) files)

index_there : (id : ℕ) (text : List ℕ) (files : Files) → get (created id text files) (name_of id Index) ≡ Some []
index_there id text files =
    get-insert_other _ (name_of id Sign) [] (name_of id Index) (differ id Index Sign index_sign)
    ∙ get-insert_same _ (name_of id Index) []

-- ---- what they hold

nothing_read : read_at V3 [] ≡ Err Truncated
unfolding read_at
nothing_read = refl

no_spots : spots_of [] ≡ empty
unfolding entered_all
no_spots = refl

none_held : (text : List ℕ) → length text ≡ 8 → AreItems V3 text 8 []
none_held text len = λ read held.
    let nothing : drop 8 text ≡ [] = nil_from_length (drop 8 text) (omega (arith, length-drop 8 text)) in
    never (sym nothing_read ∙ ap (read_at V3) (sym nothing) ∙ held.is_read)
  where
    never : {read : ReadItem} → Err Truncated ≡ Rattle.std.proofs.Common.Ok read → ⊥
    never e = cc

pub created_holds : (id : ℕ) (placement : Placement) (ttl : List ℕ) (volume : Volume) (text : List ℕ) → length ttl ≡ 2 → AreBytes text → text ≡ superblock_text (new_block placement ttl)
    → IsNew id placement ttl volume → (files : Files) → Holds volume [] (created id text files)
created_holds id placement ttl volume text two bytes is new files =
    let eight : length text ≡ 8 = ap length is ∙ simp length-append (omega (arith, two)) in
    record {
      text = text;
      has = record {
        there = ap (λ n. get (created id text files) (name_of n Items)) new.id_is ∙ items_there id text files;
        bytes = subst AreBytes (sym (take_all 8 text (omega (arith, eight)))) bytes;
        front = take_all 8 text (omega (arith, eight)) ∙ is ∙ ap superblock_text (sym new.block);
        are = subst (λ b. AreItems b.version text 8 []) (sym new.block) (none_held text eight);
      };
      sign = ap is_some (ap (λ n. get (created id text files) (name_of n Sign)) new.id_is ∙ get-insert_same _ (name_of id Sign) []);
      end = new.end;
      index = new.index;
      greatest = new.greatest;
      writable = subst (λ m. IsWritable m volume (created id text files) text) (sym new.mode) (
        eight ∙ sym new.end,
        ([], ap (λ n. get (created id text files) (name_of n Index)) new.id_is ∙ index_there id text files, sym new.index_end, refl, no_spots ∙ sym new.index),
      );
    }
