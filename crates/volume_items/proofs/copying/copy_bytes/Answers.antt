use Rattle.std.proofs.Common.{◌-◌, arith, rules}
use Rattle.volume_items.specs.Window.{IsOf}
use Rattle.volume_items.proofs.Copied.{told_joined, told_back}
use Rattle.volume_items.proofs.copying.copy_bytes.Goals as goal

pub loop-left-preserved : goal.loop-left-preserved
loop-left-preserved g c =
    let done = c.args.len - c.loop-left.left in (
      search rules,
      search rules,
      search rules,
      told_back c.args.from.now c.args.to.now c.args.at done (λ text. IsOf text c.copy_piece.new.window) _ _ c.requires.apart c.loop-left.invariant.4 c.in_ok-left.ensures.of,
      told_joined c.args.from.now c.args.to.now c.args.at done (c.loop-left.left - c.in_ok-left.left) (c.args.len - c.in_ok-left.left) _ _ _ c.requires.apart
          (omega (arith, c.loop-left.invariant.0, c.in_ok-left.ensures.fewer)) c.loop-left.invariant.4 c.in_ok-left.ensures.copied,
    )
