-- What a deletion of a needle answers.
use Rattle.std.specs.Prelude.{◌≡◌, ◌≢◌, ℕ, ◌+◌, ◌≤◌, IsSome, List, length, Option, Some, None, Result, Ok, Err}
use Rattle.std.specs.FinMap.{get}
use Rattle.weed_base.specs.Files.{Files}
use Rattle.needle.specs.Layout.{padded}
use Rattle.needle.specs.declared.item.Needle.{Needle}
use Rattle.needle.specs.declared.item.ReadItem.{ReadItem}
use Rattle.needle.specs.declared.version.Version.{Version}
use Rattle.volume_items.specs.declared.fault.VolumeFault.{VolumeFault}
use Rattle.volume_items.specs.declared.fault.VolumeFault.TheVariants.{DiskFault, Broken, ReadOnly as IsReadOnly, NotHeld, WrongCookie, VolumeFull, Damaged, Memory}
use Rattle.volume.specs.declared.held.Volume.{Volume}
use Rattle.volume_items.specs.Contents.{contents_of, last_end}
use Rattle.volume.specs.Holds.{Holds}
use Rattle.volume.specs.Writes.{IsClosed, IsFull, IsOpen}

-- How many bytes a deletion takes.
abbrev pub deletion_len : Version → ℕ
deletion_len version = padded version 0

-- The answers of an append of a deletion to an open volume.
abbrev pub DeletionAnswers : Volume → Result (Unit {0}) VolumeFault → Type 0
DeletionAnswers volume (Ok _) = volume.end + deletion_len volume.block.version ≤ last_end
DeletionAnswers volume (Err (VolumeFull end)) = IsFull volume.end (deletion_len volume.block.version) (VolumeFull end)
DeletionAnswers volume (Err Memory) = Unit {0}
DeletionAnswers volume (Err DiskFault) = Unit {0}
DeletionAnswers volume (Err fault) = ⊥

-- Those of a deletion of a key that an open volume holds, under this cookie.
abbrev pub HeldAnswers : Volume → ℕ → Result ℕ VolumeFault → Type 0
HeldAnswers volume cookie (Ok len) = volume.end + deletion_len volume.block.version ≤ last_end
HeldAnswers volume cookie (Err (WrongCookie held)) = held ≢ cookie
HeldAnswers volume cookie (Err (VolumeFull end)) = IsFull volume.end (deletion_len volume.block.version) (VolumeFull end)
HeldAnswers volume cookie (Err (Damaged at stored computed)) = Unit {0}
HeldAnswers volume cookie (Err Memory) = Unit {0}
HeldAnswers volume cookie (Err DiskFault) = Unit {0}
HeldAnswers volume cookie (Err fault) = ⊥

-- Those of a deletion of any key from an open volume.
abbrev pub OpenAnswers : Volume → ℕ → ℕ → Result ℕ VolumeFault → Type 0
OpenAnswers volume key cookie (Err NotHeld) = get volume.index.spots key ≡ None
OpenAnswers volume key cookie result = IsSome (get volume.index.spots key) × HeldAnswers volume cookie result

-- Those of any deletion, each in its case, which leaves out those before it.
abbrev pub DeleteAnswers : Volume → ℕ → ℕ → Result ℕ VolumeFault → Type 0
DeleteAnswers volume key cookie (Err Broken) = IsClosed volume Broken
DeleteAnswers volume key cookie (Err IsReadOnly) = IsClosed volume IsReadOnly
DeleteAnswers volume key cookie result = IsOpen volume × OpenAnswers volume key cookie result

-- The same by the needle that the key has: the length of its data is answered. It is never damaged.
abbrev pub DeletesOf : Option Needle → ℕ → Result ℕ VolumeFault → Type 0
DeletesOf (Some held) cookie (Ok len) = (held.cookie ≡ cookie) × (len ≡ length held.body)
DeletesOf None cookie (Ok len) = ⊥
DeletesOf held cookie (Err NotHeld) = held ≡ None
DeletesOf (Some held) cookie (Err (WrongCookie other)) = other ≡ held.cookie
DeletesOf None cookie (Err (WrongCookie other)) = ⊥
DeletesOf (Some held) cookie (Err (VolumeFull end)) = held.cookie ≡ cookie
DeletesOf None cookie (Err (VolumeFull end)) = ⊥
DeletesOf held cookie (Err (Damaged at stored computed)) = ⊥
DeletesOf held cookie (Err fault) = Unit {0}

-- The same by the contents.
abbrev pub DeletesFrom : Volume → ℕ → ℕ → Result ℕ VolumeFault → Files → Type 0
DeletesFrom volume key cookie result files = (items : List ReadItem) → Holds volume items files → DeletesOf (get (contents_of items) key) cookie result
