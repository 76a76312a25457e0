-- What is known of a needle that is deleted.
use Rattle.std.proofs.Common.{◌≡◌, ℕ, List, length, sym, ap, subst, Option, Some, None, Ok, Err}
use Rattle.std.specs.Prelude.{IfSome}
use Rattle.std.specs.FinMap.{get}
use Rattle.weed_base.specs.Files.{Files}
use Rattle.needle.specs.declared.item.Needle.{Needle}
use Rattle.needle.specs.declared.item.ReadItem.{ReadItem}
use Rattle.volume_items.specs.Contents.{contents_of}
use Rattle.volume.specs.Deletes.{DeletesFrom, DeletesOf, DeletionAnswers}
use Rattle.volume.specs.Holds.{Holds}
use Rattle.volume.specs.Reads.{ReadAnswers, ReadsFrom}
use Rattle.volume_items.specs.declared.fault.VolumeFault.{VolumeFault}
use Rattle.volume_items.specs.declared.fault.VolumeFault.TheVariants.{DiskFault, Broken, AlreadyThere, NotThere, BadSuper, NotHeld, WrongCookie, EmptyData, TooLarge, VolumeFull, ReadOnly, NoVacuum, InVacuum, RevisionAtEnd, Damaged, Memory}
use Rattle.volume.specs.declared.held.Volume.{Volume}

-- The needle that was read is the one that the key has.
taken_from : (held : Option Needle) (cookie : ℕ) (needle : Needle) → ReadsFrom held cookie (Ok needle) → held ≡ Some needle
taken_from None cookie needle reads = absurd reads
taken_from (Some held) cookie needle reads = ap Some (sym reads)

pub told_deleted : (told : Option Files) (volume : Volume) (key cookie len : ℕ) (needle : Needle) → needle.cookie ≡ cookie → len ≡ length needle.body
    → IfSome told (λ files. (items : List ReadItem) → Holds volume items files → ReadsFrom (get (contents_of items) key) cookie (Ok needle))
    → IfSome told (DeletesFrom volume key cookie (Ok len))
told_deleted None volume key cookie len needle same long reads = tt
told_deleted (Some files) volume key cookie len needle same long reads = λ items holds.
    subst (λ o. DeletesOf o cookie (Ok len)) (sym (taken_from (get (contents_of items) key) cookie needle (reads items holds))) (same, long)

-- a refusal of the read
refused_of : (volume : Volume) (held : Option Needle) (key cookie : ℕ) (fault : VolumeFault) → ReadAnswers volume key cookie (Err fault) → ReadsFrom held cookie (Err fault) → DeletesOf held cookie (Err fault)
refused_of volume held key cookie DiskFault may reads = tt
refused_of volume held key cookie Memory may reads = tt
refused_of volume held key cookie Broken may reads = tt
refused_of volume held key cookie NotHeld may reads = reads
refused_of volume (Some held) key cookie (WrongCookie other) may reads = reads
refused_of volume None key cookie (WrongCookie other) may reads = absurd reads
refused_of volume held key cookie (Damaged place stored computed) may reads = absurd reads
refused_of volume held key cookie AlreadyThere may reads = absurd may
refused_of volume held key cookie NotThere may reads = absurd may
refused_of volume held key cookie (BadSuper fault) may reads = absurd may
refused_of volume held key cookie EmptyData may reads = absurd may
refused_of volume held key cookie (TooLarge len) may reads = absurd may
refused_of volume held key cookie (VolumeFull end) may reads = absurd may
refused_of volume held key cookie ReadOnly may reads = absurd may
refused_of volume held key cookie NoVacuum may reads = absurd may
refused_of volume held key cookie InVacuum may reads = absurd may
refused_of volume held key cookie RevisionAtEnd may reads = absurd may

pub told_refused : (told : Option Files) (volume : Volume) (key cookie : ℕ) (fault : VolumeFault) → ReadAnswers volume key cookie (Err fault)
    → IfSome told (λ files. (items : List ReadItem) → Holds volume items files → ReadsFrom (get (contents_of items) key) cookie (Err fault))
    → IfSome told (DeletesFrom volume key cookie (Err fault))
told_refused None volume key cookie fault may reads = tt
told_refused (Some files) volume key cookie fault may reads = λ items holds. refused_of volume (get (contents_of items) key) key cookie fault may (reads items holds)

-- a refusal of the append
unmarked_of : (volume : Volume) (held : Option Needle) (cookie : ℕ) (needle : Needle) (fault : VolumeFault) → needle.cookie ≡ cookie → held ≡ Some needle → DeletionAnswers volume (Err fault) → DeletesOf held cookie (Err fault)
unmarked_of volume held cookie needle DiskFault same is may = tt
unmarked_of volume held cookie needle Memory same is may = tt
unmarked_of volume held cookie needle (VolumeFull end) same is may = subst (λ o. DeletesOf o cookie (Err (VolumeFull end))) (sym is) same
unmarked_of volume held cookie needle Broken same is may = absurd may
unmarked_of volume held cookie needle NotHeld same is may = absurd may
unmarked_of volume held cookie needle (WrongCookie other) same is may = absurd may
unmarked_of volume held cookie needle (Damaged place stored computed) same is may = absurd may
unmarked_of volume held cookie needle AlreadyThere same is may = absurd may
unmarked_of volume held cookie needle NotThere same is may = absurd may
unmarked_of volume held cookie needle (BadSuper fault) same is may = absurd may
unmarked_of volume held cookie needle EmptyData same is may = absurd may
unmarked_of volume held cookie needle (TooLarge len) same is may = absurd may
unmarked_of volume held cookie needle ReadOnly same is may = absurd may
unmarked_of volume held cookie needle NoVacuum same is may = absurd may
unmarked_of volume held cookie needle InVacuum same is may = absurd may
unmarked_of volume held cookie needle RevisionAtEnd same is may = absurd may

pub told_unmarked : (told : Option Files) (volume : Volume) (key cookie : ℕ) (needle : Needle) (fault : VolumeFault) → needle.cookie ≡ cookie → DeletionAnswers volume (Err fault)
    → IfSome told (λ files. (items : List ReadItem) → Holds volume items files → ReadsFrom (get (contents_of items) key) cookie (Ok needle))
    → IfSome told (DeletesFrom volume key cookie (Err fault))
told_unmarked None volume key cookie needle fault same may reads = tt
told_unmarked (Some files) volume key cookie needle fault same may reads = λ items holds.
    unmarked_of volume (get (contents_of items) key) cookie needle fault same (taken_from (get (contents_of items) key) cookie needle (reads items holds)) may
