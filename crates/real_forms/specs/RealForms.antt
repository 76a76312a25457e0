-- The real directory as a disk: what a call of it tells, and what it does to the directory that is attached.
use Rattle.std.specs.Prelude.{◌≡◌, ◌-◌, ◌^◌, true, None, Result, IsErr, IsSomeAnd}
use Rattle.weed_base.specs.Told.{HasCause}
use Rattle.weed_base.specs.Files.{BothTold}
use Rattle.weed_base.specs.Images.{Elapses}
use Rattle.real_forms.specs.System.{Act, ActsOnce}
use Rattle.real_forms.specs.declared.folder.Folder.{Folder}
use Rattle.real_forms.specs.declared.dir_disk.DirDisk.{DirDisk}

-- A sync or an attach failed: no directory is attached.
abbrev pub IsBrokenOff : {R F : Type 0} → DirDisk R F → Type 0
IsBrokenOff disk = (disk.folder ≡ None) × (disk.broken ≡ true)

-- One call was made of a disk that tells no image.
abbrev pub Ticks : {R F : Type 0} → DirDisk R F → DirDisk R F → Type 0
Ticks old new = Elapses old.counts.made new.counts.made (λ _ _. ⊥) (λ _ _. ⊥) (λ _. ⊥)

-- After a sync or an attach that failed a call fails, and so does each later one. It changes nothing.
abbrev pub StaysBroken : {R F T E : Type 0} → DirDisk R F → DirDisk R F → Result T E → Type 0
StaysBroken old new result = IsBrokenOff old → IsErr result × IsBrokenOff new × (new.system ≡ old.system)

-- A call, but for an attach or a listing: it counted its fault, and fails at the last number.
pub record IsCalled {R F T E : Type 0} (old new : DirDisk R F) (result : Result T E) : Type 0 where
  pub time : Ticks old new
  pub spent : old.counts.made ≡ 2 ^ 64 - 1 → IsErr result
  pub breaks : StaysBroken old new result
  pub cause : HasCause old.counts.faults new.counts.faults result

-- A directory is attached before and after, and they are so.
abbrev pub BothAttached : {R F : Type 0} → (Folder F → Folder F → Type 0) → DirDisk R F → DirDisk R F → Type 0
BothAttached P old new = IsSomeAnd old.folder (λ before. IsSomeAnd new.folder (P before))

-- The same, or none is attached before and after. No sync or attach failed between.
abbrev pub BothOrNone : {R F : Type 0} → (Folder F → Folder F → Type 0) → DirDisk R F → DirDisk R F → Type 0
BothOrNone P old new = BothTold P old.folder new.folder × (new.broken ≡ old.broken)

-- What is attached stays as it is.
abbrev pub StaysAttached : {R F : Type 0} → DirDisk R F → DirDisk R F → Type 0
StaysAttached old new = (new.folder ≡ old.folder) × (new.broken ≡ old.broken)

-- What is attached stays for this reason, and is let go for any other.
abbrev pub BreaksOffUnless : {R F : Type 0} → Type 0 → DirDisk R F → DirDisk R F → Type 0
BreaksOffUnless Reason old new = (Reason → StaysAttached old new) × (¬ Reason → IsBrokenOff new)

-- One such act of the directory that is attached was asked of the system, or none.
abbrev pub ActsOnceAttached : {R F : Type 0} → (R → R → Act F → Type 0) → (Folder F → Folder F → Act F → Type 0) → DirDisk R F → DirDisk R F → Type 0
ActsOnceAttached one_act May old new = ActsOnce one_act (λ act. BothAttached (λ before after. May before after act) old new) old.system new.system
