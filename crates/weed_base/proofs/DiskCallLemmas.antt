-- What a call of a memory disk makes of its files and images, by what it keeps.
use Rattle.std.proofs.Common.{◌≡◌, ℕ, inl, inr, List, length, Some, None, Result, Ok, Err, MatchResult, IsSome, sym, ap, ◌∙◌, subst, refl}
use Rattle.std.specs.Option.{option_map_or}
use Rattle.std.specs.FinMap.{get}
use Rattle.weed_base.specs.Files.{Files, written, IsWithin, IsThere, MayWrite}
use Rattle.weed_base.specs.Images.{NoMore, Follows, Tears, where_there}
use Rattle.weed_base.specs.History.{reads, ImageAfter, Image}
use Rattle.weed_base.specs.DiskLaws.{tears-same, image-reads}
use Rattle.weed_base.specs.MemForms.{DiskState, present, images, with_call, Makes, WritesOrTears}
use Rattle.weed_base.specs.declared.mem.change.Call.{Call}
use Rattle.weed_base.specs.declared.mem.change.Change.{Change}
use Rattle.weed_base.specs.declared.mem.change.Change.TheVariants.{Written, Torn, Synced}
use Rattle.weed_base.proofs.TableLemmas.{MayWrite-same, IsThere-from_within}

-- a change of a file that is there
pub where_there-is : (files : Files) (name : List ℕ) (change : Files → Files) → IsThere name files → where_there name change files ≡ change files
where_there-is files name change there =
    elim (get files name) as (λ found. IsSome found → option_map_or (λ _. change files) found files ≡ change files) [
      | None ↦ λ h. cc h
      | Some bytes ↦ λ _. refl
    ] there

-- an image by other names of the same files and calls
image-moved : (old new : DiskState) (past : List Call) (image : Files) → new.start ≡ old.start → new.past ≡ past → images new image → Image old.start past image
image-moved old new past image start is left = subst (λ calls. Image old.start calls image) is (subst (λ files. Image files new.past image) start left)

present-moved : (old new : DiskState) (past : List Call) → new.start ≡ old.start → new.past ≡ past → present new ≡ reads old.start past
present-moved old new past start is = ap (λ files. reads files new.past) start ∙ ap (reads old.start) is

-- each image comes from an earlier one by the step of the change
pub images-made : {T E : Type 0} (change : Change) (Step : Files → Files → Type 0) (old new : DiskState) (result : Result T E) → new.start ≡ old.start → Makes change old new result
    → ((image : Files) → ImageAfter change (present old) (images old) image → (before : Files) × images old before × Step before image) → ((image : Files) → Step image image)
    → Follows Step (images old) (images new)
images-made change Step old new (Ok value) start makes step same image left = step image (image-moved old new (with_call change old) image start makes.past left)
images-made change Step old new (Err error) start makes step same image left = (image, image-moved old new old.past image start makes.past left, same image)

-- after a sync there is no image that there wasn't before
pub images-synced : {T E : Type 0} (old new : DiskState) (result : Result T E) → new.start ≡ old.start → Makes Synced old new result → NoMore (images old) (images new)
images-synced old new (Ok value) start makes image left = subst (images old) (sym (image-moved old new (with_call Synced old) image start makes.past left)) (image-reads old.start old.past)
images-synced old new (Err error) start makes image left = image-moved old new old.past image start makes.past left

-- a write, or a failed one, tears each image
pub images-written : {T E : Type 0} (name : List ℕ) (at : ℕ) (piece : List ℕ) (old new : DiskState) (result : Result T E) → new.start ≡ old.start → WritesOrTears name at piece old new result
    → Follows (Tears name at (length piece)) (images old) (images new)
images-written name at piece old new (Ok value) start writes image left = image-moved old new (with_call (Written name at piece) old) image start writes.0 left
images-written name at piece old new (Err error) start writes image left =
    elim writes as (λ _. (before : Files) × images old before × Tears name at (length piece) before image) [
      | inl kept ↦ image-moved old new (with_call (Torn name at (length piece)) old) image start kept.0 left
      | inr lost ↦ (image, image-moved old new old.past image start lost.0 left, tears-same image name at (length piece))
    ]

failed-same : (name : List ℕ) (at : ℕ) (piece : List ℕ) (old new : DiskState) → IsWithin name at (present old) → present new ≡ present old → MayWrite name at piece (present old) (present new)
failed-same name at piece old new within is = subst (MayWrite name at piece (present old)) (sym is) (MayWrite-same (present old) name piece at within)

-- the files after a write, or a failed one
pub files-written : {T E : Type 0} (name : List ℕ) (at : ℕ) (piece : List ℕ) (old new : DiskState) (result : Result T E) → new.start ≡ old.start → WritesOrTears name at piece old new result → IsWithin name at (present old)
    → MatchResult result (λ _. Some (present new) ≡ Some (written name at piece (present old))) (λ _. MayWrite name at piece (present old) (present new))
files-written name at piece old new (Ok value) start writes within =
    ap Some (present-moved old new (with_call (Written name at piece) old) start writes.0 ∙ where_there-is (present old) name (written name at piece) (IsThere-from_within (present old) name at within).0)
files-written name at piece old new (Err error) start writes within =
    elim writes as (λ _. MayWrite name at piece (present old) (present new)) [
      | inl kept ↦ failed-same name at piece old new within (present-moved old new (with_call (Torn name at (length piece)) old) start kept.0)
      | inr lost ↦ failed-same name at piece old new within (present-moved old new old.past start lost.0)
    ]
