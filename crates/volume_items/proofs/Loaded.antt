-- An index that is loaded in pieces.
use Rattle.std.proofs.Common.{◌≡◌, ℕ, ◌+◌, ◌-◌, ◌%◌, ◌≤◌, min, List, [], length, take, drop, refl, sym, ap, ◌∙◌, arith, Option, Some, None, ◌⊎◌, inl, inr}
use Rattle.std.specs.Prelude.{IfSome}
use Rattle.std.proofs.lemmas.List.{take_all, length-take, length-drop}
use Rattle.std.proofs.lemmas.Bool.{cases_lt}
use Rattle.volume_items.specs.Window.{Stretch, IsOf}
use Rattle.volume_items.proofs.Summed.{front_from}
use Rattle.std.proofs.Math.Seq.{take-add}
use Rattle.std.specs.FinMap.{empty}
use Rattle.weed_base.specs.Files.{Files, content}
use Rattle.needle_index.specs.Index.{Spots}
use Rattle.needle_index.specs.Text.{entered_all, spots_of}
use Rattle.volume_items.specs.Loading.{IsLoaded}
use Rattle.needle_index.proofs.Entries.{entered_all-append}

pub none_loaded : entered_all empty [] ≡ empty
unfolding entered_all
none_loaded = refl

pub told_none : (told : Option Files) (name : List ℕ) (count : ℕ) (spots : Spots) → count ≡ 0 → spots ≡ empty → IfSome told (λ files. IsLoaded (content files name) count spots)
told_none None name count spots none is = tt
told_none (Some files) name count spots none is = record {
  whole = omega (arith, none);
  are = is ∙ sym none_loaded ∙ ap (λ (n : ℕ). entered_all empty (take n (content files name))) (sym none);
}

loaded_on : (text piece : List ℕ) (len left count : ℕ) (old new : Spots) → left ≤ len → len % 16 ≡ 0 → len ≡ length text → (count % 16 ≡ 0) ⊎ (count ≡ left) → count ≤ left
    → piece ≡ take count (drop (len - left) text) → new ≡ entered_all old piece → IsLoaded text (len - left) old → IsLoaded text (len - (left - count)) new
loaded_on text piece len left count old new few whole is eights within piece_is entered before =
    let done : ℕ = len - left in
    let next : len - (left - count) ≡ done + count = omega (arith, few, within) in
    let length_is = length-take done text in
    record {
      whole = multiple eights;
      are = entered ∙ (λ i. entered_all (before.are i) (piece_is i))
          ∙ sym (entered_all-append empty (take done text) (take count (drop done text)) (omega (arith, length_is, before.whole, is, few)))
          ∙ ap (entered_all empty) (sym (take-add done count text) ∙ ap (λ (n : ℕ). take n text) (sym next));
    }
  where
    multiple : (count % 16 ≡ 0) ⊎ (count ≡ left) → (len - (left - count)) % 16 ≡ 0
    multiple (inl sixteen) = let next : len - (left - count) ≡ len - left + count = omega (arith, few, within) in omega (arith, next, before.whole, sixteen)
    multiple (inr all) = let next : len - (left - count) ≡ len = omega (arith, few, all) in omega (arith, next, whole)

pub told_loaded : (told : Option Files) (name : List ℕ) (len left wanted : ℕ) (window : Stretch) (old new : Spots) → left ≤ len → len % 16 ≡ 0 → wanted ≡ min left 1048576
    → IfSome told (λ files. len ≡ length (content files name)) → IfSome told (λ files. IsOf (content files name) window) → window.at ≤ len - left → len - left ≤ window.at + length window.held
    → wanted ≤ length (drop (len - left - window.at) window.held) → new ≡ entered_all old (take wanted (drop (len - left - window.at) window.held))
    → IfSome told (λ files. IsLoaded (content files name) (len - left) old → IsLoaded (content files name) (len - (left - wanted)) new)
told_loaded None name len left wanted window old new few whole is long of ahead reached enough entered = tt
told_loaded (Some files) name len left wanted window old new few whole is long of ahead reached enough entered =
    let held = length-drop (len - left - window.at) window.held in
    loaded_on (content files name) _ len left wanted old new few whole long (eights left wanted is) (omega (arith, is))
    (front_from (content files name) window (len - left) wanted of ahead reached (omega (arith, enough, held))) entered
  where
    eights : (left wanted : ℕ) → wanted ≡ min left 1048576 → (wanted % 16 ≡ 0) ⊎ (wanted ≡ left)
    eights left wanted is = elim (cases_lt left 1048576) [
      | inl less ↦ inr (omega (arith, is, less))
      | inr more ↦ inl (omega (arith, is, more))
    ]

pub told_all : (told : Option Files) (name : List ℕ) (len left : ℕ) (spots : Spots) → left ≡ 0 → IfSome told (λ files. len ≡ length (content files name))
    → IfSome told (λ files. IsLoaded (content files name) (len - left) spots) → IfSome told (λ files. spots ≡ spots_of (content files name))
told_all None name len left spots none is loaded = tt
told_all (Some files) name len left spots none is loaded =
    loaded.are ∙ ap (entered_all empty) (take_all (len - left) (content files name) (omega (arith, none, is)))
