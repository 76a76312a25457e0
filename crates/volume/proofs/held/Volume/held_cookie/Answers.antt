use Rattle.std.proofs.Common.{◌≡◌, ◌*◌, List, Some, ap, subst, sym, ◌∙◌}
use Rattle.std.specs.Prelude.{IfSome}
use Rattle.needle.specs.declared.item.ReadItem.{ReadItem}
use Rattle.volume_items.specs.Contents.{contents_of}
use Rattle.volume.specs.Holds.{Holds}
use Rattle.volume.specs.Writes.{cookie_in}
use Rattle.volume.proofs.Cookies.{told_cookie, told_no_cookie}
use Rattle.volume.proofs.held.Volume.held_cookie.Goals as goal

pub returns-in-None-clause-held : goal.returns-in-None-clause-held
returns-in-None-clause-held g c = told_no_cookie (g.D.Disk.files c.args.disk.now) c.args.self.now c.args.key (sym c.get.ensures ∙ c.in-None.is)

pub returns-clause-held : goal.returns-clause-held
returns-clause-held g c =
    subst (λ n. IfSome (g.D.Disk.files c.args.disk.now) (λ files. (items : List ReadItem) → Holds c.args.self.now items files → Some n ≡ cookie_in (contents_of items) c.args.key))
    (sym c.from_be_bytes.ensures)
    (told_cookie (g.D.Disk.files c.args.disk.now) c.args.self.now c.args.key c.in_ok-read_at.field-0 (8 * c.from-at.result) c.in-Some.spot c.file_name.result c.read_at.new.room (sym c.get.ensures ∙ c.in-Some.is) c.file_name.ensures
    (ap (λ n. 8 * n) c.from-at.ensures) c.read_at.auto.room c.in_ok-read_at.ensures.bytes)
