use Rattle.std.proofs.Common.{not, sym, ap, ◌∙◌}
use Rattle.std.specs.Option.{option_or, is_some}
use Rattle.std.specs.Ordering.{nat_cmp}
use Rattle.std.specs.FinMap.{get, get-entries}
use Rattle.std.specs.FinMap.Entries.{find}
use Rattle.topology.proofs.Merges.{added_more, added_none, added_all, is_some-copied, none_there}
use Rattle.topology.proofs.volumes.add_missing.Goals as goal

pub loop-volume-init : goal.loop-volume-init
loop-volume-init c q =
    ap (λ es. option_or (get c.args.reports.now q) (find nat_cmp q es)) (c.into_iter-volume-iterator.ensures.into_iter_gives ∙ c.entries-volume-items.ensures)
    ∙ ap (option_or (get c.args.reports.now q)) (sym (get-entries c.args.told.now q))

pub loop-volume-preserved-in-Continue-1 : goal.loop-volume-preserved-in-Continue-1
loop-volume-preserved-in-Continue-1 c q =
    let there = ap is_some (sym c.get.ensures) ∙ is_some-copied c.get.result ∙ c.is_none.ensures ∙ ap not c.if-is_none.true in
    ap (λ table. option_or (get table q) (find nat_cmp q c.next.new.self)) c.in_ok-insert.ensures.ok
    ∙ added_more c.loop-volume.reports c.in-Some.volume.now c.in-Some.report.now _ c.next.new.self c.in-Some.ensures.steps (none_there _ there) q
    ∙ c.loop-volume.invariant q

pub loop-volume-preserved : goal.loop-volume-preserved
loop-volume-preserved c q =
    let there = ap is_some (sym c.get.ensures) ∙ is_some-copied c.get.result ∙ c.is_none.ensures ∙ ap not c.if-is_none.false in
    added_none c.loop-volume.reports c.in-Some.volume.now c.in-Some.report.now _ c.next.new.self c.in-Some.ensures.steps there q
    ∙ c.loop-volume.invariant q

pub returns : goal.returns
returns c volume = added_all (get c.loop-volume.reports volume) volume _ c.in-None.ensures.steps.0 ∙ c.loop-volume.invariant volume
