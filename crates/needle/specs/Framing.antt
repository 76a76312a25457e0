-- What stands around the data of a needle in its item.
use Rattle.std.specs.Prelude.{◌≡◌, ℕ, List, ◌∷◌, ◌++◌, length}
use Rattle.std.specs.Int.{w32, w64, to_be_bytes}
use Rattle.needle.specs.declared.framing.Framed.{Framed}
use Rattle.needle.specs.declared.item.Item.TheVariants.{Live}
use Rattle.needle.specs.declared.item.Needle.{Needle}
use Rattle.needle.specs.declared.version.Version.{Version}
use Rattle.needle.specs.Answer.{IsItem}
use Rattle.needle.specs.Crc.{checksum}
use Rattle.needle.specs.Item.{unmarked, flags, content, parts_text, moment_text, item_text}

-- The bytes of a head: cookie, key, size and the length of the data.
abbrev pub head_text : ℕ → ℕ → ℕ → ℕ → List ℕ
head_text cookie key size len = to_be_bytes w32 cookie ++ (to_be_bytes w64 key ++ (to_be_bytes w32 size ++ to_be_bytes w32 len))

-- What stands behind the data of a needle, up to the padding.
abbrev pub tail_text : Needle → Version → ℕ → List ℕ
tail_text needle version moment =
    flags unmarked needle ∷ (parts_text needle ++ (to_be_bytes w32 (checksum needle.body) ++ moment_text version moment))

-- Head and tail stand around the data of the needle as it is written.
pub record Frames (needle : Needle) (version : Version) (moment : ℕ) (framed : Framed) : Type 0 where
  pub text : framed.head ++ (needle.body ++ framed.tail) ≡ item_text (Live needle) version moment
  pub size : framed.size ≡ length (content (Live needle))
  pub sum : framed.checksum ≡ checksum needle.body
  pub fits : IsItem (Live needle)
