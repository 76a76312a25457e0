-- Why a volume isn't read.
use Rattle.std.proofs.Common.{◌≡◌, ℕ, ◌≤◌, List, length, take, sym, ap, subst, ◌∙◌, arith, Option, Some, None, inr, Result, Err, true, Bool}
use Rattle.std.specs.Prelude.{IfSome, IfErr, IsTrue, ◌↔◌}
use Rattle.std.proofs.lemmas.List.{take_all}
use Rattle.weed_base.specs.Files.{Files, content, ReadsAt}
use Rattle.needle.specs.declared.fault.NeedleFault.{NeedleFault}
use Rattle.needle.specs.SuperBlock.{IsBlockRefused}
use Rattle.volume_items.specs.declared.fault.VolumeFault.{VolumeFault}
use Rattle.volume_items.specs.declared.fault.VolumeFault.TheVariants.{DiskFault, Broken, AlreadyThere, NotThere, BadSuper, NotHeld, WrongCookie, EmptyData, TooLarge, VolumeFull, ReadOnly, NoVacuum, InVacuum, RevisionAtEnd, Damaged, Memory}
use Rattle.volume_items.specs.declared.file_names.Part.TheVariants.{Items}
use Rattle.volume_items.specs.FileNames.{name_of}
use Rattle.volume.specs.Making.{IsVolumeThere}
use Rattle.volume.specs.Opening.{IsBlockFault, IsUnread}

-- a superblock that is refused
pub refused_block : (told : Option Files) (name front : List ℕ) (count : ℕ) (fault : NeedleFault) → length front ≡ 8 → 8 ≤ count
    → IfSome told (λ files. ReadsAt (content files name) 0 count front) → IsBlockRefused front fault → IfSome told (λ files. IsBlockFault (content files name) (BadSuper fault))
refused_block None name front count fault eight all reads refused = tt
refused_block (Some files) name front count fault eight all reads refused =
    let text = content files name in
    let is_eight : count ≡ 8 = omega (arith, eight, all, reads.0) in
    let same : front ≡ take 8 text = sym (take_all 8 front (omega (arith, eight))) ∙ ap (λ (n : ℕ). take n front) (sym is_eight) ∙ reads.1 ∙ ap (λ (n : ℕ). take n text) is_eight in
    inr (omega (arith, eight, all, reads.0), subst (λ (f : List ℕ). IsBlockRefused f fault) same refused)

block_unread : (files : Files) (id : ℕ) (fault : VolumeFault) → IsVolumeThere id files → IsBlockFault (content files (name_of id Items)) fault → IsUnread id fault files
block_unread files id DiskFault there is = tt
block_unread files id (BadSuper fault) there is = (there, is)
block_unread files id Broken there is = absurd is
block_unread files id AlreadyThere there is = absurd is
block_unread files id NotThere there is = absurd is
block_unread files id NotHeld there is = absurd is
block_unread files id (WrongCookie held) there is = absurd is
block_unread files id EmptyData there is = absurd is
block_unread files id (TooLarge n) there is = absurd is
block_unread files id (VolumeFull n) there is = absurd is
block_unread files id ReadOnly there is = absurd is
block_unread files id NoVacuum there is = absurd is
block_unread files id InVacuum there is = absurd is
block_unread files id RevisionAtEnd there is = absurd is
block_unread files id (Damaged a b c) there is = absurd is
block_unread files id Memory there is = absurd is

pub told_unread : {T : Type 0} (told later : Option Files) (id : ℕ) (name : List ℕ) (result : Result T VolumeFault) (fault : VolumeFault) (is : Bool) → result ≡ Err fault → name ≡ name_of id Items → later ≡ told
    → is ≡ true → IfSome told (λ files. IsTrue is ↔ IsVolumeThere id files) → IfSome later (λ files. IsBlockFault (content files name) fault)
    → IfErr result (λ fault. IfSome told (IsUnread id fault))
told_unread told later id name result fault is err named same sure there faulty =
    subst (λ (r : Result _ VolumeFault). IfErr r (λ fault. IfSome told (IsUnread id fault))) (sym err) (both told there (subst (λ o. IfSome o (λ files. IsBlockFault (content files name) fault)) same faulty))
  where
    both : (told : Option Files) → IfSome told (λ files. IsTrue is ↔ IsVolumeThere id files) → IfSome told (λ files. IsBlockFault (content files name) fault) → IfSome told (IsUnread id fault)
    both None there faulty = tt
    both (Some files) there faulty = block_unread files id fault (there.0 sure) (subst (λ (n : List ℕ). IsBlockFault (content files n) fault) named faulty)
