use Rattle.std.proofs.Common.{List, ◌≡◌, ◌*◌, ◌+◌, ◌≤◌, length, subst, sym, ℕ}
use Rattle.std.specs.Prelude.{IfSome}
use Rattle.weed_base.specs.Files.{content}
use Rattle.needle.specs.declared.item.ReadItem.{ReadItem}
use Rattle.volume_items.specs.Vacuuming.{LiesAt}
use Rattle.volume_items.specs.FileNames.{name_of}
use Rattle.volume_items.specs.declared.file_names.Part.TheVariants.{Items}
use Rattle.volume_items.specs.Window.{IsOf}
use Rattle.volume_items.proofs.Copied.{told_same}
use Rattle.volume_items.proofs.Told.{moved}
use Rattle.volume_items.proofs.Vacuums.{apart, told_there}
use Rattle.volume_items.proofs.item_copy.copy_item.Goals as goal

pub copy_bytes-requires-clause-apart : goal.copy_bytes-requires-clause-apart
copy_bytes-requires-clause-apart g c = apart c.args.id c.file_name-from.result c.file_name.result c.file_name-from.ensures c.file_name.ensures

pub copy_bytes-requires-clause-there : goal.copy_bytes-requires-clause-there
copy_bytes-requires-clause-there g c =
    subst (λ (n : ℕ). IfSome (g.D.Disk.files c.item_of.new.disk) (λ files. 8 * n + c.in_ok-seen.seen.taken ≤ length (content files c.file_name-from.result))) (sym c.from-at.ensures)
    (told_there (g.D.Disk.files c.args.disk.now) _ c.args.id c.in_ok-seen.seen.taken c.file_name-from.result c.args.version c.args.entry.now c.in_ok-seen.ensures.files c.file_name-from.ensures
    c.requires.lies (subst (λ name. IfSome (g.D.Disk.files c.args.disk.now) (λ files. (read : ReadItem) → LiesAt c.args.version (content files name) c.args.entry.now read → c.in_ok-seen.seen.taken ≡ read.taken)) c.file_name-from.ensures c.in_ok-seen.ensures.taken))

pub returns-clause-of : goal.returns-clause-of
returns-clause-of g c =
    subst (λ (n : List ℕ). IfSome (g.D.Disk.files c.copy_bytes.new.disk) (λ files. IsOf (content files n) c.copy_bytes.new.window)) c.file_name-from.ensures
    (told_same c.file_name-from.result c.file_name.result _ _ (λ text. IsOf text c.copy_bytes.new.window) _ _ (apart c.args.id c.file_name-from.result c.file_name.result c.file_name-from.ensures c.file_name.ensures) c.in_ok-copy_bytes.ensures.copied c.in_ok-copy_bytes.ensures.of)

pub returns-clause-len : goal.returns-clause-len
returns-clause-len g c =
    subst (λ (n : List ℕ). IfSome (g.D.Disk.files c.copy_bytes.new.disk) (λ files. c.args.len ≡ length (content files n))) c.file_name-from.ensures
    (told_same c.file_name-from.result c.file_name.result _ _ (λ text. c.args.len ≡ length text) _ _ (apart c.args.id c.file_name-from.result c.file_name.result c.file_name-from.ensures c.file_name.ensures) c.in_ok-copy_bytes.ensures.copied
    (subst (λ (n : List ℕ). IfSome (g.D.Disk.files c.item_of.new.disk) (λ files. c.args.len ≡ length (content files n))) (sym c.file_name-from.ensures)
    (moved (λ files. c.args.len ≡ length (content files (name_of c.args.id Items))) (sym c.in_ok-seen.ensures.files) c.requires.len)))
