-- What a crash may leave of a memory disk, by its calls.
use Rattle.std.proofs.Common.{◌≡◌, ℕ, ◌<◌, ◌≤◌, ◌⊎◌, inl, inr, List, [], ◌∷◌, length, replicate, nat_lt, if◌then◌else◌, true, false, ap, ◌∙◌, refl, arith}
use Rattle.std.proofs.lemmas.Grind.{common_steps}
use Rattle.weed_base.specs.Files.{Files}
use Rattle.weed_base.specs.History.{changed, reads, Leaves, ImageAfter, Image, ImageBefore, earlier, IsEarlier, filled, settled_as, picked_after, picked}
use Rattle.weed_base.specs.MemForms.{DiskState, present, images_since}
use Rattle.weed_base.specs.declared.mem.change.Call.{Call}
use Rattle.weed_base.specs.declared.mem.change.Change.{Change}
use Rattle.weed_base.specs.declared.mem.change.Change.TheVariants.{Written, Torn, Cut, Made, Removed, Renamed, Synced}
use Rattle.weed_base.specs.declared.mem.change.Pick.{Pick}
use Rattle.weed_base.specs.declared.mem.change.Pick.TheVariants.{Old, New, Fill}
use Rattle.weed_base.specs.DiskLaws.{tears-same, tears-written, leaves-changed}

-- a change that was lost
leaves-same : (change : Change) (files : Files) → Leaves change files files
leaves-same (Written name at piece) files = tears-same files name at (length piece)
leaves-same (Torn name at count) files = tears-same files name at count
leaves-same (Cut name to) files = inl refl
leaves-same (Made name) files = inl refl
leaves-same (Removed name) files = inl refl
leaves-same (Renamed from to) files = inl refl
leaves-same Synced files = refl

-- a change with a byte in each unsettled place
leaves-filled : (byte : ℕ) (change : Change) (files : Files) → Leaves change files (filled byte change files)
leaves-filled byte (Written name at piece) files = tears-written files name at (length piece) (replicate (length piece) byte) (grind (arith, common_steps))
leaves-filled byte (Torn name at count) files = tears-written files name at count (replicate count byte) (grind (arith, common_steps))
leaves-filled byte (Cut name to) files = inr refl
leaves-filled byte (Made name) files = inr refl
leaves-filled byte (Removed name) files = inr refl
leaves-filled byte (Renamed from to) files = inr refl
leaves-filled byte Synced files = refl

leaves-settled : (pick : Pick) (change : Change) (files : Files) → Leaves change files (settled_as pick change files)
leaves-settled Old change files = leaves-same change files
leaves-settled New change files = leaves-changed change files
leaves-settled (Fill byte) change files = leaves-filled byte change files

image-picked_after : (pick : Pick) (change : Change) (files image : Files) (before : Files → Type 0) → before image → ImageAfter change files before (picked_after pick change files image)
image-picked_after pick (Written name at piece) files image before left = (image, left, leaves-settled pick (Written name at piece) image)
image-picked_after pick (Torn name at count) files image before left = (image, left, leaves-settled pick (Torn name at count) image)
image-picked_after pick (Cut name to) files image before left = (image, left, leaves-settled pick (Cut name to) image)
image-picked_after pick (Made name) files image before left = (image, left, leaves-settled pick (Made name) image)
image-picked_after pick (Removed name) files image before left = (image, left, leaves-settled pick (Removed name) image)
image-picked_after pick (Renamed from to) files image before left = (image, left, leaves-settled pick (Renamed from to) image)
image-picked_after pick Synced files image before left = refl

-- an image of each kind may be left
pub image-picked : (pick : Pick) (start : Files) (past : List Call) → Image start past (picked pick start past)
image-picked pick start [] = refl
image-picked pick start (call ∷ past) = image-picked_after pick call.change (reads start past) (picked pick start past) (Image start past) (image-picked pick start past)

new-after : (change : Change) (files : Files) → picked_after New change files files ≡ changed change files
new-after (Written name at piece) files = refl
new-after (Torn name at count) files = refl
new-after (Cut name to) files = refl
new-after (Made name) files = refl
new-after (Removed name) files = refl
new-after (Renamed from to) files = refl
new-after Synced files = refl

-- the new image is what reads give
pub new-reads : (start : Files) (past : List Call) → picked New start past ≡ reads start past
new-reads start [] = refl
new-reads start (call ∷ past) = ap (picked_after New call.change (reads start past)) (new-reads start past) ∙ new-after call.change (reads start past)

-- all calls are earlier than a tick that is later than the newest
pub earlier-all : (tick : ℕ) (past : List Call) → IsEarlier tick past → earlier tick past ≡ past
earlier-all tick [] is = refl
earlier-all tick (call ∷ past) is = grind (arith, common_steps)

-- an image as of an earlier moment
image-earlier : (start : Files) (past : List Call) (moment : ℕ) (image : Files) → Image start (earlier moment past) image → Image start past image ⊎ ImageBefore start past moment image
image-earlier start [] moment image = λ left. inl left
image-earlier start (call ∷ past) moment image =
    elim (nat_lt call.tick moment) as (λ b. nat_lt call.tick moment ≡ b → Image start (if b then call ∷ past else earlier moment past) image → Image start (call ∷ past) image ⊎ ImageBefore start (call ∷ past) moment image) [
      | true ↦ λ _ left. inl left
      | false ↦ λ is left. inr (grind (arith, common_steps), image-earlier start past moment image left)
    ] refl

-- where there is one before the newest call, the moment is earlier than the tick
before-earlier : (start : Files) (past : List Call) (tick moment : ℕ) (image : Files) → IsEarlier tick past → ImageBefore start past moment image → moment < tick
before-earlier start [] tick moment image is before = absurd before
before-earlier start (call ∷ past) tick moment image is before = omega (arith, is, before.0)

-- what a crash at an earlier moment left is one of what a crash since then might have left
pub since-earlier : (disk : DiskState) (moment : ℕ) (image : Files) → moment ≤ disk.calls.made → IsEarlier disk.calls.made disk.past → Image disk.start (earlier moment disk.past) image → images_since disk moment image
since-earlier disk moment image early is left =
    elim (image-earlier disk.start disk.past moment image left) as (λ _. images_since disk moment image) [
      | inl now ↦ inl now
      | inr before ↦ inr (before-earlier disk.start disk.past disk.calls.made moment image is before, before)
    ]

-- the new image as of now is what reads give
pub picked-now : (disk : DiskState) (pick : Pick) (tick : ℕ) → pick ≡ New → tick ≡ disk.calls.made → IsEarlier disk.calls.made disk.past → picked pick disk.start (earlier tick disk.past) ≡ present disk
picked-now disk pick tick new now is =
    ap (λ p. picked p disk.start (earlier tick disk.past)) new
    ∙ ap (λ t. picked New disk.start (earlier t disk.past)) now
    ∙ ap (picked New disk.start) (earlier-all disk.calls.made disk.past is)
    ∙ new-reads disk.start disk.past

-- the files of an image are an image since its tick
pub picked-since : (disk : DiskState) (pick : Pick) (tick : ℕ) → tick ≤ disk.calls.made → IsEarlier disk.calls.made disk.past → images_since disk tick (picked pick disk.start (earlier tick disk.past))
picked-since disk pick tick early is = since-earlier disk tick (picked pick disk.start (earlier tick disk.past)) early is (image-picked pick disk.start (earlier tick disk.past))
