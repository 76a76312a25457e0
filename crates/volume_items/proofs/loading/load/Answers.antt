use Rattle.std.proofs.Common.{◌≡◌, ◌-◌, rules, arith}
use Rattle.volume_items.proofs.Loaded.{told_none}
use Rattle.volume_items.proofs.loading.load.Goals as goal

pub loop-left-init : goal.loop-left-init
loop-left-init g c =
    let none : c.args.len - c.args.len ≡ 0 = omega arith in
    (search rules, search rules, search rules, search rules, search rules, told_none (g.D.Disk.files c.args.disk.now) c.args.name.now _ c.new-map.result.spots none c.new-map.ensures)
