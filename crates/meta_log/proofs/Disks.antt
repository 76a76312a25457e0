-- What the writes of an append make of the files of a disk.
use Rattle.std.proofs.Common.{◌≡◌, ◌≢◌, ℕ, ◌≤◌, Bool, true, false, List, [], ◌∷◌, length, refl, sym, ◌∙◌, ap, subst, arith, length-append, Option, Some, None}
use Rattle.std.specs.Prelude.{IsSome, IsSomeAnd, cond, codes, unwrap_or}
use Rattle.std.specs.Ordering.{nat_cmp, eq_by_cmp}
use Rattle.std.specs.Cmp.{eq_by_cmp_equiv}
use Rattle.std.specs.Cmp.Lexicographic.{slice_cmp, nat_list_cmp_total}
use Rattle.std.specs.FinMap.{get, insert, get-insert, slice_cmp-IsAntisymmetric, nat_cmp-IsAntisymmetric}
use Rattle.std.proofs.lemmas.Map.Views.{tells_apart}
use Rattle.weed_base.specs.Files.{Files, content, IsWithin}
use Rattle.meta_log.specs.Segment.{IsSegment}
use Rattle.meta_log.specs.LogText.{stem_text, eight_digits, segment_name, on_name, HasSegment}
use Rattle.meta_log.specs.declared.stem.Stem.{Stem}

same_name : (name : List ℕ) → eq_by_cmp (slice_cmp nat_cmp) name name ≡ true
same_name name = (eq_by_cmp_equiv nat_list_cmp_total).refl name

other_name : (a b : List ℕ) → a ≢ b → eq_by_cmp (slice_cmp nat_cmp) a b ≡ false
other_name a b differ =
    elim (eq_by_cmp (slice_cmp nat_cmp) a b) as (λ t. eq_by_cmp (slice_cmp nat_cmp) a b ≡ t → t ≡ false) [
      | true ↦ λ same. absurd (differ (tells_apart (slice_cmp-IsAntisymmetric nat_cmp-IsAntisymmetric) a b same))
      | false ↦ λ _. refl
    ] refl

pub get-insert_same : (files : Files) (name bytes : List ℕ) → get (insert files name bytes) name ≡ Some bytes
get-insert_same files name bytes =
    get-insert nat_list_cmp_total files name bytes name ∙ ap (λ (t : Bool). cond t (Some bytes) (get files name)) (same_name name)

pub get-insert_other : (files : Files) (name bytes other : List ℕ) → other ≢ name → get (insert files name bytes) other ≡ get files other
get-insert_other files name bytes other differ =
    get-insert nat_list_cmp_total files name bytes other ∙ ap (λ (t : Bool). cond t (Some bytes) (get files other)) (other_name other name differ)

pub content-insert_same : (files : Files) (name bytes : List ℕ) → content (insert files name bytes) name ≡ bytes
content-insert_same files name bytes = ap (λ (o : Option (List ℕ)). unwrap_or o []) (get-insert_same files name bytes)

-- a segment's file is no `.on` file
pub on_differs : (stem : Stem) (number other : ℕ) → on_name stem number ≢ segment_name stem other
on_differs stem number other same =
    let long = ap length same in
    omega (
      arith,
      long,
      length-append (segment_name stem number) (codes ".on"),
      length-append (stem_text stem) (46 ∷ eight_digits number),
      length-append (stem_text stem) (46 ∷ eight_digits other),
    )

module _ (Allowed : List (List ℕ) → Type 0) (stem : Stem) (files : Files) (bytes : List ℕ) where
  abbrev after : Files
  after = insert files (segment_name stem 1) bytes

  counts_still : (number : ℕ) → get after (on_name stem number) ≡ get files (on_name stem number)
  counts_still number = get-insert_other files (segment_name stem 1) bytes (on_name stem number) (on_differs stem number 1)

  -- the first segment's file has other bytes
  pub rewritten : (old new : List (List ℕ)) → HasSegment Allowed stem files old → IsSegment bytes new → Allowed new → HasSegment Allowed stem after new
  rewritten old new held segment allowed = record {
    counts = subst IsSome (sym (counts_still 1)) held.counts;
    alone = λ number low high counts. held.alone number low high (subst IsSome (counts_still number) counts);
    segment = subst (λ (l : List ℕ). IsSegment l new) (sym (content-insert_same files (segment_name stem 1) bytes)) segment;
    allowed = allowed;
  }

-- a file that isn't empty is there
pub there_of_content : (files : Files) (name : List ℕ) (at : ℕ) → at ≤ length (content files name) → 1 ≤ length (content files name) → IsWithin name at files
there_of_content files name at fits some =
    elim (get files name) as (λ o. at ≤ length (unwrap_or o []) → 1 ≤ length (unwrap_or o []) → IsSomeAnd o (λ bytes. at ≤ length bytes)) [
      | None ↦ λ _ some. absurd (omega (arith, some))
      | Some bytes ↦ λ fits _. fits
    ] fits some
