-- The files behind an opening for writing hold the volume.
use Rattle.std.proofs.Common.{◌≡◌, ◌≢◌, ℕ, ◌+◌, ◌-◌, ◌≤◌, Bool, true, false, ltb, List, [], ◌∷◌, length, take, drop, refl, sym, ap, subst, ◌∙◌, arith, Option, Some, None}
use Rattle.std.specs.Prelude.{IfSome, is_some, option_map, unwrap_or, if◌then◌else◌, nat_lt}
use Rattle.std.specs.FinMap.{get}
use Rattle.std.specs.Bool.{then_some}
use Rattle.std.proofs.lemmas.Bool.{ltb-false}
use Rattle.std.proofs.lemmas.List.{take_all, take-take, drop-take, length-take, length-append, length-drop}
use Rattle.weed_base.specs.Files.{BothTold, Files, IsThere, content, cut_to}
use Rattle.needle.specs.declared.item.ReadItem.{ReadItem}
use Rattle.needle.specs.declared.version.Version.{Version}
use Rattle.needle.specs.Fields.{AreBytes}
use Rattle.needle.specs.Reading.{read_at}
use Rattle.needle.proofs.Followed.{read_whole, read_within}
use Rattle.volume_items.specs.declared.file_names.Part.TheVariants.{Items, Index, Sign}
use Rattle.volume.specs.declared.held.Mode.TheVariants.{ReadWrite}
use Rattle.volume.specs.declared.held.Volume.{Volume}
use Rattle.volume.specs.declared.mending.IndexPlan.{IndexPlan}
use Rattle.volume.specs.declared.open.Opened.{Opened}
use Rattle.volume_items.specs.Contents.{AreItems, HoldsAt, end_of}
use Rattle.volume_items.specs.Garbage.{Fit}
use Rattle.volume_items.specs.FileNames.{name_of}
use Rattle.volume.specs.Holds.{Holds}
use Rattle.volume_items.specs.Loading.{HasIndex, StandsFor}
use Rattle.volume.specs.Opening.{IsOpened, IsPlanned, IsRead, mended, reindexed, trimmed}
use Rattle.volume_items.proofs.Appended.{end-least, none_past}
use Rattle.volume_items.proofs.Apart.{anew, differ, index_sign, items_index, items_sign}
use Rattle.volume_items.proofs.Named.{get-insert_other, get-insert_same}

-- ---- the items alone

held_within : (version : Version) (text : List ℕ) (place end : ℕ) (read : ReadItem) → place + read.taken ≤ end → HoldsAt version text place read → HoldsAt version (take end text) place read
held_within version text place end read ends held =
    let back : place + (end - place) ≡ end = omega arith in
    let rest : drop place (take end text) ≡ take (end - place) (drop place text) = ap (λ (n : ℕ). drop place (take n text)) (sym back) ∙ drop-take place (end - place) text in
    record {
      is_read = ap (read_at version) rest ∙ read_within version (drop place text) (end - place) read held.is_read (omega arith);
      small = held.small;
      within = held.within;
    }

items_within : (version : Version) (text : List ℕ) (place end : ℕ) (items : List ReadItem) → end ≡ end_of place items → AreItems version text place items → AreItems version (take end text) place items
items_within version text place end [] ends are = none_past version (take end text) place (omega (arith, length-take end text, ends))
items_within version text place end (read ∷ more) ends are =
    let least = end-least (place + read.taken) more in
    (held_within version text place end read (omega (arith, ends)) are.0, items_within version text (place + read.taken) end more ends are.1)

end_within : (version : Version) (text : List ℕ) (place : ℕ) (items : List ReadItem) → place ≤ length text → AreItems version text place items → end_of place items ≤ length text
end_within version text place [] inside are = inside
end_within version text place (read ∷ more) inside are =
    let whole = read_whole version (drop place text) read are.0.is_read in
    end_within version text (place + read.taken) more (omega (arith, inside, whole.0, whole.1, length-drop place text)) are.1

-- ---- the file of items

abbrev trim_text : ℕ → List ℕ → List ℕ
trim_text end text = if nat_lt end (length text) then take end text else text

trimmed_text : (name text : List ℕ) (end : ℕ) (files : Files) → get files name ≡ Some text → get (trimmed name end files) name ≡ Some (trim_text end text)
trimmed_text name text end files there =
    let is : content files name ≡ text = ap (λ (o : Option (List ℕ)). unwrap_or o []) there in
    by_test (nat_lt end (length (content files name))) ∙ ap (λ (t : List ℕ). Some (trim_text end t)) is
  where
    by_test : (b : Bool) → get (if b then cut_to name end files else files) name ≡ Some (if b then take end (content files name) else content files name)
    by_test true = get-insert_same files name (take end (content files name))
    by_test false = there ∙ ap Some (sym (ap (λ (o : Option (List ℕ)). unwrap_or o []) there))

trimmed_other : (name other : List ℕ) (end : ℕ) (files : Files) → other ≢ name → get (trimmed name end files) other ≡ get files other
trimmed_other name other end files apart = by_test (nat_lt end (length (content files name)))
  where
    by_test : (b : Bool) → get (if b then cut_to name end files else files) other ≡ get files other
    by_test true = get-insert_other files name (take end (content files name)) other apart
    by_test false = refl

reindexed_other : (name other : List ℕ) (text : Option (List ℕ)) (files : Files) → other ≢ name → get (reindexed name text files) other ≡ get files other
reindexed_other name other None files apart = refl
reindexed_other name other (Some text) files apart = get-insert_other _ name _ other apart ∙ get-insert_other files name [] other apart

-- ---- the whole

pub some_where : (was : Bool) (end : ℕ) (cut : Option ℕ) → cut ≡ then_some was end → cut ≡ (if was then Some end else None)
some_where true end cut is = is
some_where false end cut is = is

apart_index : (id : ℕ) → name_of id Items ≢ name_of id Index
apart_index id = differ id Items Index items_index

module _ (volume : Volume) (items : List ReadItem) (files : Files) (held : Holds volume items files) (plan : IndexPlan)
    (planned : IsPlanned volume.index.spots (name_of volume.id Index) plan files) (two : length volume.block.ttl ≡ 2)
    (fit : Fit volume.block.version volume.index.spots volume.end) where
  abbrev later : Volume
  later = record {
    id = volume.id;
    block = volume.block;
    mode = ReadWrite;
    end = volume.end;
    index_end = plan.len;
    greatest = volume.greatest;
    index = volume.index;
    broken = volume.broken;
    fit = fit;
  }

  abbrev text : List ℕ
  text = held.text

  long : 8 ≤ length text
  long =
      let eight : length (take 8 text) ≡ 8 = ap length held.has.front ∙ simp length-append (omega (arith, two)) in
      omega (arith, eight, length-take 8 text)

  inside : volume.end ≤ length text
  inside = let w = end_within volume.block.version text 8 items long held.has.are in omega (arith, held.end, w)

  items_text : get (mended volume.id volume.end plan.text files) (name_of volume.id Items) ≡ Some (take volume.end text)
  items_text =
      reindexed_other (name_of volume.id Index) (name_of volume.id Items) plan.text (trimmed (name_of volume.id Items) volume.end files) (apart_index volume.id)
      ∙ trimmed_text (name_of volume.id Items) text volume.end files held.has.there ∙ ap Some (by_test (ltb volume.end (length text)) refl)
    where
      by_test : (b : Bool) → ltb volume.end (length text) ≡ b → (if b then take volume.end text else text) ≡ take volume.end text
      by_test true e = refl
      by_test false e = let most : length text ≤ volume.end = ltb-false volume.end (length text) e in sym (take_all volume.end text most)

  index_file : (index : List ℕ) × (get (mended volume.id volume.end plan.text files) (name_of volume.id Index) ≡ Some index) × (length index ≡ plan.len) × StandsFor volume.index.spots index
  index_file = by_plan plan.text planned.found planned.text
    where
      by_plan : (t : Option (List ℕ)) → HasIndex volume.index.spots (name_of volume.id Index) files (if is_some t then None else Some plan.len)
          → IfSome t (λ text. (plan.len ≡ length text) × StandsFor volume.index.spots text)
          → (index : List ℕ) × (get (mended volume.id volume.end t files) (name_of volume.id Index) ≡ Some index) × (length index ≡ plan.len) × StandsFor volume.index.spots index
      by_plan None found written =
          (found.0, trimmed_other (name_of volume.id Items) (name_of volume.id Index) volume.end files (λ e. apart_index volume.id (sym e)) ∙ found.1, sym found.2, found.3)
      by_plan (Some t) found written = (t, anew (name_of volume.id Index) t (trimmed (name_of volume.id Items) volume.end files), sym written.0, written.1)

  sign_there : IsThere (name_of volume.id Sign) (mended volume.id volume.end plan.text files)
  sign_there = subst (λ (o : Option (List ℕ)). is_some o ≡ true)
      (sym (reindexed_other (name_of volume.id Index) (name_of volume.id Sign) plan.text (trimmed (name_of volume.id Items) volume.end files) (λ e. differ volume.id Index Sign index_sign (sym e))
      ∙ trimmed_other (name_of volume.id Items) (name_of volume.id Sign) volume.end files (λ e. differ volume.id Items Sign items_sign (sym e)))) held.sign

  mended_holds : Holds later items (mended volume.id volume.end plan.text files)
  mended_holds =
      let end_is : end_of 8 items ≡ volume.end = sym held.end in
      let least = end-least 8 items in
      let index = index_file in
      let short : length (take volume.end text) ≡ volume.end = omega (arith, length-take volume.end text, inside) in
      record {
        text = take volume.end text;
        has = record {
          there = items_text;
          bytes = subst AreBytes (sym (ap (λ (n : ℕ). take n (take volume.end text)) end_is ∙ take-take volume.end volume.end text (omega arith)) ∙ refl) (subst (λ (n : ℕ). AreBytes (take n text)) end_is held.has.bytes);
          front = take-take 8 volume.end text (omega (arith, least, held.end)) ∙ held.has.front;
          are = items_within volume.block.version text 8 volume.end items held.end held.has.are;
        };
        sign = sign_there;
        end = held.end;
        index = held.index;
        greatest = held.greatest;
        writable = (
          short,
          (index.0, index.1, index.2, index.3.whole, index.3.same),
        );
      }

  pub opened_for_writing : (opened : Opened) (was : Bool) → was ≡ nat_lt volume.end (length (content files (name_of volume.id Items)))
      → opened.cut_from ≡ (if was then Some volume.end else None) → opened.rewrote_index ≡ is_some plan.text
      → IsOpened volume.id ReadWrite later opened files (mended volume.id volume.end plan.text files)
  opened_for_writing opened was is cut rewrote =
      let text_is : content files (name_of volume.id Items) ≡ text = ap (λ (o : Option (List ℕ)). unwrap_or o []) held.has.there in
      record {
        items = items;
        text = text;
        there = held.has.there;
        are = held.has.are;
        held = mended_holds;
        id_is = refl;
        mode_is = refl;
        did = (
          cut ∙ ap (λ (b : Bool). if b then Some volume.end else None) (is ∙ ap (λ (t : List ℕ). nat_lt volume.end (length t)) text_is),
          subst (λ (b : Bool). HasIndex volume.index.spots (name_of volume.id Index) files (if b then None else Some plan.len)) (sym rewrote) planned.found,
        );
      }

pub told_opened : (told new : Option Files) (volume : Volume) (plan : IndexPlan) (opened : Opened) (was : Bool) (fit : Fit volume.block.version volume.index.spots volume.end) → length volume.block.ttl ≡ 2 → IfSome told (IsRead volume.id volume)
    → IfSome told (IsPlanned volume.index.spots (name_of volume.id Index) plan) → new ≡ option_map (mended volume.id volume.end plan.text) told
    → IfSome told (λ files. was ≡ nat_lt volume.end (length (content files (name_of volume.id Items)))) → opened.cut_from ≡ (if was then Some volume.end else None) → opened.rewrote_index ≡ is_some plan.text
    → BothTold (IsOpened volume.id ReadWrite (record { id = volume.id; block = volume.block; mode = ReadWrite; end = volume.end; index_end = plan.len; greatest = volume.greatest; index = volume.index; broken = volume.broken; fit = fit }) opened) told new
told_opened None new volume plan opened was fit two read planned is cut from rewrote = subst (BothTold (IsOpened volume.id ReadWrite (record { id = volume.id; block = volume.block; mode = ReadWrite; end = volume.end; index_end = plan.len; greatest = volume.greatest; index = volume.index; broken = volume.broken; fit = fit }) opened) None) (sym is) tt
told_opened (Some files) new volume plan opened was fit two read planned is cut from rewrote =
    subst (BothTold (IsOpened volume.id ReadWrite (record { id = volume.id; block = volume.block; mode = ReadWrite; end = volume.end; index_end = plan.len; greatest = volume.greatest; index = volume.index; broken = volume.broken; fit = fit }) opened) (Some files)) (sym is) (opened_for_writing volume read.items files read.held plan planned two fit opened was cut from rewrote)
