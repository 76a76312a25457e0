use Rattle.std.proofs.Common.{◌≤◌, length, ap, subst, ◌∙◌, take}
use Rattle.needle_index.specs.Text.{entered_all}
use Rattle.volume_items.proofs.Loaded.{told_loaded}
use Rattle.volume_items.proofs.loading.load_more.Goals as goal

pub returns-clause-loaded : goal.returns-clause-loaded
returns-clause-loaded g c =
    told_loaded (g.D.Disk.files c.args.disk.now) c.args.name.now c.args.len c.args.left _ c.fill.new.self c.args.map.now.spots _
    c.requires.some.1 c.requires.whole c.min-wanted.ensures c.requires.len c.in_ok-fill.ensures.of c.in_ok-fill.ensures.ahead.0 c.in_ok-fill.ensures.ahead.1
    (subst (λ bytes. c.min-wanted.result ≤ length bytes) c.behind-bytes.ensures.held c.if-bytes-wanted.false) (c.in_ok-enter_all.ensures ∙ ap (λ bytes. entered_all c.args.map.now.spots (take c.min-wanted.result bytes)) c.behind-bytes.ensures.held)
