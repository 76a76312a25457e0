use Rattle.std.proofs.Common.{◌≤◌, ◌+◌, ◌-◌, ◌++◌, ℕ, List, length, take, subst, ap, arith, length-drop}
use Rattle.needle.specs.Fields.{AreBytes}
use Rattle.needle.specs.Running.{IsRunOf}
use Rattle.volume_items.proofs.Summed.{told_on}
use Rattle.volume_items.proofs.summing.add_piece.Goals as goal

pub returns-clause-sum : goal.returns-clause-sum
returns-clause-sum g c =
    let window = c.fill.new.self in
    let held = c.behind-bytes.ensures.held in
    let few : c.min-taken.result ≤ window.at + length window.held - c.args.at =
    omega (arith, c.min-taken.ensures, ap length held, length-drop (c.args.at - window.at) window.held, c.in_ok-fill.ensures.ahead) in
    told_on (g.D.Disk.files c.args.disk.now) c.args.name.now window c.args.at c.min-taken.result c.args.sum.now c.add.new.self
    c.in_ok-fill.ensures.of c.in_ok-fill.ensures.ahead.0 c.in_ok-fill.ensures.ahead.1 few (subst AreBytes held c.behind-bytes.ensures.bytes)
    (subst (λ (l : List ℕ). (so_far : List ℕ) → IsRunOf so_far c.args.sum.now → IsRunOf (so_far ++ take c.min-taken.result l) c.add.new.self) held c.add.ensures)
