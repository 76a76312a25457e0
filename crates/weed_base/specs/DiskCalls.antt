-- What calls over a disk leave of it, by the ghosts of its trait.
use Rattle.std.specs.Prelude.{◌≡◌}
use Rattle.weed_base.specs.declared.disk.Disk.{Ghosts}
use Rattle.weed_base.specs.Files.{Files}
use Rattle.weed_base.specs.Images.{OnlyReads, LeavesOnly}

-- A call only looked: reads give the same, and there is no image that there wasn't before.
pub record Looks {D : Type 0} (g : Ghosts D) (old new : D) : Type 0 where
  pub files : g.files new ≡ g.files old
  pub still : OnlyReads g.tick g.images g.image_since old new

-- A call changed the disk: each image since a moment was one before it, or has P.
abbrev pub Acts : {D : Type 0} → Ghosts D → D → D → (Files → Type 0) → Type 0
Acts g old new P = LeavesOnly g.tick g.image_since old new P
