use Rattle.std.specs.Prelude.{is_ok}
use Rattle.std.proofs.Common.{◌<◌, refl, ap, subst, ◌-◌, ◌∙◌}
use Rattle.volume_items.proofs.Judged.{none_short, none_over, seen}
use Rattle.volume_items.proofs.Told.{moved}
use Rattle.volume_items.proofs.look.look.Goals as goal

pub returns-in-None-clause-meets : goal.returns-in-None-clause-meets
returns-in-None-clause-meets g c =
    none_short (g.D.Disk.files c.args.disk.now) c.args.name.now c.args.place c.args.version c.in_ok-head.field-0 c.in-None.is c.in_ok-head.ensures.head

pub returns-then-taken-saturating_sub-clause-meets : goal.returns-then-taken-saturating_sub-clause-meets
returns-then-taken-saturating_sub-clause-meets g c =
    none_over (g.D.Disk.files c.args.disk.now) c.args.name.now c.args.place c.args.len c.saturating_sub.result c.args.version c.in_ok-head.field-0 c.in-Some.head c.in-Some.is
    c.in_ok-head.ensures.head c.requires.len (subst (λ n. c.saturating_sub.result < n) c.padded_len-taken.ensures c.if-taken-saturating_sub.true) (c.saturating_sub.ensures ∙ ap (λ n. n - c.args.place) c.min.ensures)

pub returns-in-Ok-clause-meets : goal.returns-in-Ok-clause-meets
returns-in-Ok-clause-meets g c =
    seen (g.D.Disk.files c.args.disk.now) c.args.name.now c.args.version c.in_ok-head.field-0 c.in-Some.head c.args.place _ (is_ok c.in_ok-judge.field-0) (ap is_ok c.in-Ok.is) refl refl
    c.padded_len-taken.ensures c.in-Some.is c.in_ok-head.ensures.head (moved _ c.in_ok-head.ensures.looks.files c.in_ok-judge.ensures.judged)
