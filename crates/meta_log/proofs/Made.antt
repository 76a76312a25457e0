-- The steps in which a first segment is made.
use Rattle.std.proofs.Common.{◌≡◌, ℕ, ◌≤◌, List, [], ◌∷◌, ◌++◌, length, drop, refl, sym, ◌∙◌, ap, subst, arith, Option, Some, None}
use Rattle.std.specs.Prelude.{IsSome, IsSomeAnd, unwrap_or, is_some}
use Rattle.std.specs.FinMap.{insert}
use Rattle.weed_base.specs.Files.{Files, made, written, IsWithin, MayWrite, BothTold}
use Rattle.meta_log.specs.LogText.{eight_digits, segment_name, on_name, NoneFrom, ChangesOnly}
use Rattle.meta_log.specs.Making.{IsPrepared, IsFresh, LeavesOthers}
use Rattle.meta_log.specs.declared.stem.Stem.{Stem}
use Rattle.meta_log.proofs.Digits.{number_unique}
use Rattle.meta_log.proofs.Names.{on_text_unique}
use Rattle.meta_log.proofs.Disks.{get-insert_same, get-insert_other, content-insert_same, on_differs}

-- a file of the segment's name makes nothing count
pub none_still : (stem : Stem) (files : Files) (bytes : List ℕ) → NoneFrom stem 1 files → NoneFrom stem 1 (insert files (segment_name stem 1) bytes)
none_still stem files bytes none = λ number low high counts.
    none number low high (subst IsSome (get-insert_other files (segment_name stem 1) bytes (on_name stem number) (on_differs stem number 1)) counts)

on_unique : (stem : Stem) (a b : ℕ) → a ≤ 99999999 → b ≤ 99999999 → on_name stem a ≡ on_name stem b → a ≡ b
on_unique stem a b small_a small_b same = number_unique a b small_a small_b (on_text_unique stem (eight_digits a) (eight_digits b) same)

pub prepared : (stem : Stem) (files : Files) → NoneFrom stem 1 files → IsPrepared stem (written (segment_name stem 1) 0 (0 ∷ []) (made (segment_name stem 1) files))
prepared stem files none =
    let name = segment_name stem 1 in
    let empty = made name files in
    record {
      none = none_still stem empty _ (none_still stem files [] none);
      closed = content-insert_same empty name _ ∙ ap (λ (l : List ℕ). (0 ∷ []) ++ drop 1 l) (content-insert_same files name []);
    }

pub fresh : (stem : Stem) (files : Files) → IsPrepared stem files → IsFresh stem (made (on_name stem 1) files)
fresh stem files ready =
    let on = on_name stem 1 in
    record {
      counts = ap (λ (o : Option (List ℕ)). is_some o) (get-insert_same files on []);
      alone = λ number low high counts.
          ready.none number (omega (arith, low)) high
          (subst IsSome (get-insert_other files on [] (on_name stem number) (λ same. omega (arith, low, on_unique stem number 1 high (omega arith) same))) counts);
      closed = ap (λ (o : Option (List ℕ)). unwrap_or o []) (get-insert_other files on [] (segment_name stem 1) (λ same. on_differs stem 1 1 (sym same))) ∙ ready.closed;
    }

within_made : (files : Files) (file : List ℕ) → IsWithin file 0 (made file files)
within_made files file = subst (λ o. IsSomeAnd o (λ bytes. 0 ≤ length bytes)) (sym (get-insert_same files file [])) (omega arith)

-- The calls that make a segment, where `file` is what they pass.
module _ (stem : Stem) (file : List ℕ) (is : file ≡ segment_name stem 1) where
  pub segment_named : (files : Files) → NoneFrom stem 1 files → NoneFrom stem 1 (made file files)
  segment_named files none = subst (λ (n : List ℕ). NoneFrom stem 1 (made n files)) (sym is) (none_still stem files [] none)

  pub segment_torn : (before after : Files) → NoneFrom stem 1 before → MayWrite file 0 (0 ∷ []) before after → NoneFrom stem 1 after
  segment_torn before after none may =
      subst (NoneFrom stem 1) (sym may.2) (subst (λ (n : List ℕ). NoneFrom stem 1 (insert before n may.0)) (sym is) (none_still stem before may.0 none))

  pub segment_prepared : (files : Files) → NoneFrom stem 1 files → IsPrepared stem (written file 0 (0 ∷ []) (made file files))
  segment_prepared files none = subst (λ (n : List ℕ). IsPrepared stem (written n 0 (0 ∷ []) (made n files))) (sym is) (prepared stem files none)

  pub segment_within : (files : Files) → IsWithin file 0 (made file files)
  segment_within files = within_made files file

module _ (stem : Stem) (file : List ℕ) (is : file ≡ on_name stem 1) where
  pub on_made : (files : Files) → IsPrepared stem files → IsFresh stem (made file files)
  on_made files ready = subst (λ (n : List ℕ). IsFresh stem (made n files)) (sym is) (fresh stem files ready)

pub made_others : (file : List ℕ) (files : Files) → ChangesOnly file files (made file files)
made_others file files = λ other differs. get-insert_other files file [] other differs

pub unchanged : (file : List ℕ) (files : Files) → ChangesOnly file files files
unchanged file files = λ other differs. refl

pub joined : (file : List ℕ) (a b c : Files) → ChangesOnly file a b → ChangesOnly file b c → ChangesOnly file a c
joined file a b c first second = λ other differs. second other differs ∙ first other differs

-- the segment's file and then its marker: the others stay
pub others_both : (stem : Stem) (old mid new : Option Files) → BothTold (ChangesOnly (segment_name stem 1)) old mid → BothTold (ChangesOnly (on_name stem 1)) mid new → BothTold (LeavesOthers stem) old new
others_both stem None None None first second = tt
others_both stem None None (Some new) first second = absurd second
others_both stem None (Some mid) new first second = absurd first
others_both stem (Some old) None new first second = absurd first
others_both stem (Some old) (Some mid) None first second = absurd second
others_both stem (Some old) (Some mid) (Some new) first second = λ name no_segment no_marker. second name no_marker ∙ first name no_segment
