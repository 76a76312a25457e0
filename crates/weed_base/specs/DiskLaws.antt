-- The laws of a memory disk: what reads give is one of its images, and those since now are those of now.
use Rattle.std.proofs.Common.{◌≡◌, ℕ, ◌≤◌, inl, inr, List, [], ◌∷◌, length, Some, None, cond, sym, ◌∙◌, subst, refl, arith, unwrap_or}
use Rattle.std.proofs.lemmas.Grind.{common_steps}
use Rattle.std.proofs.lemmas.Option.{same_Some}
use Rattle.std.specs.Option.{option_map_or}
use Rattle.std.specs.Ordering.{nat_cmp, is_eq}
use Rattle.std.specs.declared.cmp.Ordering.TheVariants.{Less, Equal, Greater}
use Rattle.std.specs.Cmp.Lexicographic.{slice_cmp, nat_list_cmp_total}
use Rattle.std.specs.FinMap.{get, insert, slice_cmp-IsAntisymmetric, nat_cmp-IsAntisymmetric, same_map, get-insert, get_tied}
use Rattle.weed_base.specs.Files.{Files, written, spliced}
use Rattle.weed_base.specs.Images.{Tears, TearsThere, IsTornImage, where_there}
use Rattle.weed_base.specs.History.{changed, reads, Leaves, ImageAfter, Image}
use Rattle.weed_base.specs.MemForms.{DiskState, present, images, images_since}
use Rattle.weed_base.specs.declared.mem.change.Call.{Call}
use Rattle.weed_base.specs.declared.mem.change.Change.{Change}
use Rattle.weed_base.specs.declared.mem.change.Change.TheVariants.{Written, Torn, Cut, Made, Removed, Renamed, Synced}

-- what is there, put there again
pub insert-same : (files : Files) (name bytes : List ℕ) → get files name ≡ Some bytes → insert files name bytes ≡ files
insert-same files name bytes there = same_map nat_list_cmp_total (slice_cmp-IsAntisymmetric nat_cmp-IsAntisymmetric) _ _ (λ other.
    get-insert nat_list_cmp_total files name bytes other
    ∙ elim (slice_cmp nat_cmp other name) as (λ r. slice_cmp nat_cmp other name ≡ r → cond (is_eq r) (Some bytes) (get files other) ≡ get files other) [
      | Less ↦ λ _. refl
      | Equal ↦ λ tied. sym there ∙ get_tied nat_list_cmp_total files other name tied
      | Greater ↦ λ _. refl
    ] refl)

-- a piece put into a file tears it so
torn-spliced : (at : ℕ) (bytes piece : List ℕ) → IsTornImage at (length piece) bytes (spliced bytes at piece)
torn-spliced at bytes piece = record {
  front = grind (arith, common_steps);
  back = λ within. grind (arith, common_steps);
  no_shorter = grind (arith, common_steps);
  no_longer = grind (arith, common_steps);
}

-- a file as it was is torn so too
torn-same : (at count : ℕ) (bytes : List ℕ) → IsTornImage at count bytes bytes
torn-same at count bytes = record { front = refl; back = λ _. refl; no_shorter = omega arith; no_longer = omega arith }

-- an image that a write leaves as it was
pub tears-same : (files : Files) (name : List ℕ) (at count : ℕ) → Tears name at count files files
tears-same files name at count =
    elim (get files name) as (λ found. get files name ≡ found → TearsThere name at count files found files) [
      | None ↦ λ _. refl
      | Some bytes ↦ λ is. (
        bytes,
        torn-same at count bytes,
        sym (insert-same files name bytes is),
      )
    ] refl

-- an image into which a piece went
pub tears-written : (files : Files) (name : List ℕ) (at count : ℕ) (piece : List ℕ) → length piece ≡ count → Tears name at count files (where_there name (written name at piece) files)
tears-written files name at count piece long = subst (λ n. Tears name at n files (where_there name (written name at piece) files)) long (
    elim (get files name) as (λ found. TearsThere name at (length piece) files found (option_map_or (λ _. insert files name (spliced (unwrap_or found []) at piece)) found files)) [
      | None ↦ refl
      | Some bytes ↦ (spliced bytes at piece, torn-spliced at bytes piece, refl)
    ])

-- a change of an image as it reads
pub leaves-changed : (change : Change) (files : Files) → Leaves change files (changed change files)
leaves-changed (Written name at piece) files = tears-written files name at (length piece) piece refl
leaves-changed (Torn name at count) files = tears-same files name at count
leaves-changed (Cut name to) files = inr refl
leaves-changed (Made name) files = inr refl
leaves-changed (Removed name) files = inr refl
leaves-changed (Renamed from to) files = inr refl
leaves-changed Synced files = refl

-- what reads give is an image after a change
image-changed : (change : Change) (files : Files) (before : Files → Type 0) → before files → ImageAfter change files before (changed change files)
image-changed (Written name at piece) files before left = (files, left, leaves-changed (Written name at piece) files)
image-changed (Torn name at count) files before left = (files, left, leaves-changed (Torn name at count) files)
image-changed (Cut name to) files before left = (files, left, leaves-changed (Cut name to) files)
image-changed (Made name) files before left = (files, left, leaves-changed (Made name) files)
image-changed (Removed name) files before left = (files, left, leaves-changed (Removed name) files)
image-changed (Renamed from to) files before left = (files, left, leaves-changed (Renamed from to) files)
image-changed Synced files before left = refl

-- what reads give may be left
pub image-reads : (start : Files) (past : List Call) → Image start past (reads start past)
image-reads start [] = refl
image-reads start (call ∷ past) = image-changed call.change (reads start past) (Image start past) (image-reads start past)

-- this moment is one of those since an earlier one
pub counts_now : (disk : DiskState) (moment : ℕ) (image : Files) → moment ≤ disk.calls.made → images disk image → images_since disk moment image
counts_now disk moment image early left = inl left

-- since this moment there is no other
pub only_now : (disk : DiskState) (image : Files) → images_since disk disk.calls.made image → images disk image
only_now disk image left =
    elim left as (λ _. images disk image) [
      | inl now ↦ now
      | inr before ↦ absurd (omega (arith, before.0))
    ]

-- what reads give may be left
pub reads_now : (disk : DiskState) (read : Files) → Some (present disk) ≡ Some read → images disk read
reads_now disk read told = subst (images disk) (same_Some _ _ told) (image-reads disk.start disk.past)
