use Rattle.std.proofs.Common.{◌-◌, arith, refl}
use Rattle.volume_items.proofs.Copied.{told_copied}
use Rattle.volume_items.proofs.copying.copy_piece.Goals as goal

pub returns-clause-copied : goal.returns-clause-copied
returns-clause-copied g c =
    told_copied (g.D.Disk.files c.args.disk.now) _ _ c.args.from.now c.args.to.now c.behind-bytes.result.now _ c.fill.new.self c.args.at c.min-taken.result
    (c.args.left - (c.args.left - c.min-taken.result)) c.in_ok-fill.ensures.looks.files c.in_ok-fill.ensures.of c.in_ok-fill.ensures.ahead.0 c.in_ok-fill.ensures.ahead.1
    c.behind-bytes.ensures.held (omega (arith, c.min-taken.ensures)) refl (omega (arith, c.min-taken.ensures)) c.in_ok-append_piece.ensures.done
