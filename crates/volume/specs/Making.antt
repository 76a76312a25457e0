-- How a volume is made, file by file.
use Rattle.std.specs.Prelude.{◌≡◌, ℕ, List}
use Rattle.std.specs.FinMap.{empty}
use Rattle.weed_base.specs.Files.{Files, IsThere, made, removed}
use Rattle.needle.specs.declared.placement.Placement.{Placement}
use Rattle.needle.specs.declared.superblock.SuperBlock.{SuperBlock}
use Rattle.needle.specs.declared.version.Version.TheVariants.{V3}
use Rattle.volume_items.specs.declared.file_names.Part.TheVariants.{Items, Index, Sign}
use Rattle.volume.specs.declared.held.Mode.TheVariants.{ReadWrite}
use Rattle.volume.specs.declared.held.Volume.{Volume}
use Rattle.volume_items.specs.FileNames.{name_of}
use Rattle.volume_items.specs.Changes.{made_with}

-- The volume is there: its sign and its items are.
abbrev pub IsVolumeThere : ℕ → Files → Type 0
IsVolumeThere id files = IsThere (name_of id Items) files × IsThere (name_of id Sign) files

-- The superblock of a new volume.
abbrev pub new_block : Placement → List ℕ → SuperBlock
new_block placement ttl = record { version = V3; placement = placement; ttl = ttl; revision = 0 }

-- The files with a new volume: its items and its index are made, and then its sign.
abbrev pub created : ℕ → List ℕ → Files → Files
created id text files = made (name_of id Sign) (made (name_of id Index) (made_with (name_of id Items) text (removed (name_of id Sign) files)))

-- A new volume, which holds nothing.
pub record IsNew (id : ℕ) (placement : Placement) (ttl : List ℕ) (volume : Volume) : Type 0 where
  pub id_is : volume.id ≡ id
  pub block : volume.block ≡ new_block placement ttl
  pub mode : volume.mode ≡ ReadWrite
  pub end : volume.end ≡ 8
  pub index_end : volume.index_end ≡ 0
  pub greatest : volume.greatest ≡ 0
  pub index : volume.index.spots ≡ empty
