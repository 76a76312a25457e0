-- Needles: what was ever put under file ids, and which of them are still held.
use Rattle.std.specs.Prelude.{◌≡◌, ℕ, ◌≤◌, List, Option, None, Some, option_map, option_and_then, IfSome, Bool, true, false, ◌==◌, ◌&&◌, if◌then◌else◌}
use Rattle.weed_base.specs.Told.{Rose}
use Rattle.file_id.specs.declared.fid.Fid.{Fid}

-- The bytes of a needle, and whether it is still held.
pub record NeedleText : Type 0 where
  pub bytes : List ℕ
  pub is_held : Bool

-- What was put under each id.
abbrev pub Needles : Type 0
Needles = Fid → Option NeedleText

-- The two ids are one.
abbrev pub same_fid : Fid → Fid → Bool
same_fid a b = a.volume == b.volume && a.key == b.key && a.cookie == b.cookie

-- The bytes once put under an id.
abbrev pub bytes_under : Needles → Fid → Option (List ℕ)
bytes_under needles fid = option_map (λ needle. needle.bytes) (needles fid)

-- The bytes of a needle that is held.
abbrev pub if_held : NeedleText → Option (List ℕ)
if_held needle = if needle.is_held then Some needle.bytes else None

-- The bytes that are held under an id.
abbrev pub held_under : Needles → Fid → Option (List ℕ)
held_under needles fid = option_and_then if_held (needles fid)

-- With a needle more.
abbrev pub with_needle : Fid → List ℕ → Needles → Needles
with_needle fid bytes needles other = if same_fid other fid then Some (record { bytes = bytes; is_held = true }) else needles other

-- One of them is held no longer.
abbrev pub without_needle : Fid → Needles → Needles
without_needle fid needles other =
    if same_fid other fid then option_map {T = NeedleText} (λ needle. record { bytes = needle.bytes; is_held = false }) (needles other) else needles other

-- Bytes were put under an id that had none, where that is told.
pub record Puts (fid : Fid) (bytes : List ℕ) (old new : Option Needles) : Type 0 where
  pub fresh : IfSome old (λ needles. needles fid ≡ None)
  pub added : new ≡ option_map (with_needle fid bytes) old

-- A count doesn't fall, and rises with a fault.
pub record Counts (before now : ℕ) (Fault : Type 0) : Type 0 where
  pub later : before ≤ now
  pub rose : Fault → Rose before now
