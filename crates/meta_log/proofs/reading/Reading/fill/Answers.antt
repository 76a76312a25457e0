use Rattle.std.proofs.Common.{◌≡◌, ◌-◌, length, drop, refl, sym, subst, arith, length-drop}
use Rattle.std.specs.Prelude.{IfSome}
use Rattle.std.proofs.lemmas.Result.{on_ok_weaker}
use Rattle.weed_base.specs.Files.{content}
use Rattle.meta_log.specs.Stretch.{Stretch, IsOf}
use Rattle.meta_log.proofs.Pieces.{told_filled}
use Rattle.meta_log.proofs.reading.Reading.fill.Goals as goal

pub returns-clause-filled : goal.returns-clause-filled
returns-clause-filled g c =
    let told = g.D.Disk.files c.args.disk.now in
    let inside = c.self.inside in
    let old : Stretch = record { at = inside.at; held = drop inside.start inside.bytes.items; size = inside.size } in
    let is_of = subst (λ s. IfSome told (λ files. IsOf (content files c.args.name.now) s)) (sym c.self.view_is) c.requires.of in
    let held : length (drop inside.start inside.bytes.items) ≡ c.len.result - inside.start = omega (arith, length-drop inside.start inside.bytes.items, c.len.ensures) in
    on_ok_weaker c.extend_from.result
    (told_filled told c.args.name.now old c.drop_front.new.bytes.items c.extend_from.new.bytes.items _ c.args.wanted _ (inside.size - inside.at) c.drop_front.ensures (omega (arith, held)) refl (omega (arith, held)) (omega (arith, held)) is_of)
    c.extend_from.ensures.grows
