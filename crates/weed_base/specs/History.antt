-- The calls of a memory disk, the newest first: what reads give after them, and what a crash may leave.
use Rattle.std.specs.Prelude.{◌≡◌, ℕ, ◌<◌, ◌≤◌, ◌⊎◌, List, [], ◌∷◌, length, replicate, ⊤, nat_lt, Bool, true, false, IsTrue, IsFalse, if◌then◌else◌}
use Rattle.weed_base.specs.Files.{Files, written, cut_to, made, removed, renamed}
use Rattle.weed_base.specs.Images.{Tears, Atomically, where_there}
use Rattle.weed_base.specs.declared.mem.change.Call.{Call}
use Rattle.weed_base.specs.declared.mem.change.Change.{Change}
use Rattle.weed_base.specs.declared.mem.change.Change.TheVariants.{Written, Torn, Cut, Made, Removed, Renamed, Synced}
use Rattle.weed_base.specs.declared.mem.change.Pick.{Pick}
use Rattle.weed_base.specs.declared.mem.change.Pick.TheVariants.{Old, New, Fill}

-- It settles all that was done before.
abbrev pub is_sync : Change → Bool
is_sync Synced = true
is_sync change = false

-- The files as they read after a change.
abbrev pub changed : Change → Files → Files
changed (Written name at piece) files = where_there name (written name at piece) files
changed (Torn name at count) files = files
changed (Cut name to) files = where_there name (cut_to name to) files
changed (Made name) files = made name files
changed (Removed name) files = removed name files
changed (Renamed from to) files = where_there from (renamed from to) files
changed Synced files = files

-- The files as they read after these calls.
abbrev pub reads : Files → List Call → Files
reads start [] = start
reads start (call ∷ past) = changed call.change (reads start past)

-- What a change makes of an image.
abbrev pub Leaves : Change → Files → Files → Type 0
Leaves (Written name at piece) = Tears name at (length piece)
Leaves (Torn name at count) = Tears name at count
Leaves (Cut name to) = Atomically (where_there name (cut_to name to))
Leaves (Made name) = Atomically (made name)
Leaves (Removed name) = Atomically (removed name)
Leaves (Renamed from to) = Atomically (where_there from (renamed from to))
Leaves Synced = λ old new. new ≡ old

-- The images after a change: each comes from one before it, but after a sync there is what reads give.
abbrev pub ImageAfter : Change → Files → (Files → Type 0) → Files → Type 0
ImageAfter Synced files before image = image ≡ files
ImageAfter change files before image = (old : Files) × before old × Leaves change old image

-- What a crash after these calls may leave.
abbrev pub Image : Files → List Call → Files → Type 0
Image start [] image = image ≡ start
Image start (call ∷ past) image = ImageAfter call.change (reads start past) (Image start past) image

-- What a crash ahead of the newest of these calls, and from a moment on, might have left.
abbrev pub ImageBefore : Files → List Call → ℕ → Files → Type 0
ImageBefore start [] moment image = ⊥
ImageBefore start (call ∷ past) moment image = (moment ≤ call.tick) × (Image start past image ⊎ ImageBefore start past moment image)

-- What a crash at a moment from that tick on might have left, where the tick is now this one.
abbrev pub ImageSince : Files → List Call → ℕ → ℕ → Files → Type 0
ImageSince start past tick moment image = Image start past image ⊎ ((moment < tick) × ImageBefore start past moment image)

-- The calls that were made before a tick.
abbrev pub earlier : ℕ → List Call → List Call
earlier tick [] = []
earlier tick (call ∷ past) = if nat_lt call.tick tick then call ∷ past else earlier tick past

-- The newest call was made before a tick.
abbrev pub IsEarlier : ℕ → List Call → Type 0
IsEarlier tick [] = ⊤
IsEarlier tick (call ∷ past) = call.tick < tick

-- A change with this byte in each place that it leaves unsettled.
abbrev pub filled : ℕ → Change → Files → Files
filled byte (Written name at piece) = where_there name (written name at (replicate (length piece) byte))
filled byte (Torn name at count) = where_there name (written name at (replicate count byte))
filled byte change = changed change

-- How an image of this kind stands after a change that is unsettled.
abbrev pub settled_as : Pick → Change → Files → Files
settled_as Old change files = files
settled_as New change files = changed change files
settled_as (Fill byte) change files = filled byte change files

-- The same of any change: a sync settles what reads give.
abbrev pub picked_after : Pick → Change → Files → Files → Files
picked_after pick Synced files image = files
picked_after pick change files image = settled_as pick change image

-- The image of this kind after these calls.
abbrev pub picked : Pick → Files → List Call → Files
picked pick start [] = start
picked pick start (call ∷ past) = picked_after pick call.change (reads start past) (picked pick start past)

-- A file system in which these calls, the oldest first, are made once more, each as the pick says.
abbrev pub replayed : Pick → Files → List Call → Files
replayed pick files [] = files
replayed pick files (call ∷ calls) = replayed pick (settled_as pick call.change files) calls

-- No sync is among them.
abbrev pub AreOpen : List Call → Type 0
AreOpen [] = ⊤
AreOpen (call ∷ calls) = IsFalse (is_sync call.change) × AreOpen calls

-- The newest of them is a sync, or there is none.
abbrev pub IsSettled : List Call → Type 0
IsSettled [] = ⊤
IsSettled (call ∷ past) = IsTrue (is_sync call.change)
