use Rattle.std.proofs.Common.{◌≡◌, ◌%◌, length, refl, subst}
use Rattle.needle_index.specs.Index.{Spots}
use Rattle.needle_index.specs.Text.{entered, entered_all}
use Rattle.std.specs.Prelude.{IfSome}
use Rattle.weed_base.specs.Files.{content}
use Rattle.volume_items.specs.Walk.{Meets}
use Rattle.volume_items.proofs.Entering.{told_on}
use Rattle.volume_items.proofs.indexing.entry_step.Goals as goal

pub returns-in_ok-push-in-Some-clause-goes : goal.returns-in_ok-push-in-Some-clause-goes
returns-in_ok-push-in-Some-clause-goes g c =
    told_on (g.D.Disk.files c.args.disk.now) c.args.name.now c.args.version c.args.place.now _ c.args.text.now c.push.new.self c.in-Some.seen
    (subst (λ seen. IfSome (g.D.Disk.files c.args.disk.now) (λ files. Meets c.args.version (content files c.args.name.now) c.args.place.now seen)) c.in-Some.is c.in_ok-seen.ensures.meets)
    c.in_ok-push-in-Some.ensures.len
    (subst (λ entry. (spots : Spots) → length c.args.text.now % 16 ≡ 0 → entered_all spots c.push.new.self ≡ entered (entered_all spots c.args.text.now) entry) c.at.ensures c.in_ok-push-in-Some.ensures.enters) refl
