use Rattle.std.proofs.Common.{subst}
use Rattle.std.specs.Prelude.{IfSome, IfOk}
use Rattle.weed_base.specs.Files.{content}
use Rattle.volume_items.specs.Walk.{AreEntries}
use Rattle.volume.proofs.Mended.{told_stand}
use Rattle.volume.proofs.mending.entries_of.Goals as goal

pub returns-clause-stands : goal.returns-clause-stands
returns-clause-stands g c =
    told_stand (g.D.Disk.files c.args.disk.now) c.args.volume.now c.file_name-name.result c.index_text.result c.file_name-name.ensures c.requires.held
    (subst (λ told. IfOk c.index_text.result (λ entries. IfSome told (λ files. AreEntries c.args.volume.now.block.version (content files c.file_name-name.result) entries))) c.in_ok-size.ensures.files c.index_text.ensures.entries)
