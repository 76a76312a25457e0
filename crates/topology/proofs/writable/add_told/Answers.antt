use Rattle.std.proofs.Common.{Some, sym, ap, ◌∙◌, subst}
use lib.Dec.{T}
use Rattle.std.specs.Option.{unwrap_or}
use Rattle.std.specs.Ordering.{nat_cmp}
use Rattle.std.specs.FinMap.{get-entries, entries_sorted}
use Rattle.std.specs.FinMap.Entries.{find, is_sorted}
use Rattle.topology.specs.Tallies.{untold, told, tally_at}
use Rattle.topology.proofs.Tallies.{told_more, rest_sorted}
use Rattle.topology.proofs.writable.add_told.Goals as goal

pub loop-volume-init : goal.loop-volume-init
loop-volume-init c =
    let all = c.into_iter-volume-iterator.ensures.into_iter_gives ∙ c.entries-volume-items.ensures in
    let before = tally_at c.args.kind.now c.args.tallies.now in
    record {
      sorted = subst (λ es. T (is_sorted nat_cmp es)) (sym all) (entries_sorted c.args.reports.now);
      same = λ q. ap (λ es. told c.args.kind.now (before q) (find nat_cmp q es)) all ∙ ap (told c.args.kind.now (before q)) (sym (get-entries c.args.reports.now q));
    }

pub loop-volume-preserved : goal.loop-volume-preserved
loop-volume-preserved c =
    let kind = c.args.kind.now in
    let new = c.told.ensures ∙ ap (λ tally. told kind tally (Some c.in-Some.report.now)) (c.unwrap_or-before.ensures ∙ ap (unwrap_or c.copied.result) c.untold.ensures ∙ ap (λ found. unwrap_or found (untold kind)) (c.copied.ensures ∙ c.get.ensures)) in
    record {
      sorted = rest_sorted c.in-Some.volume.now c.in-Some.report.now _ c.next.new.self c.in-Some.ensures.steps c.loop-volume.invariant.sorted;
      same = λ q.
          ap (λ tallies. told kind (tally_at kind tallies q) (find nat_cmp q c.next.new.self)) c.in_ok-insert.ensures.ok
          ∙ told_more kind c.loop-volume.tallies c.in-Some.volume.now c.in-Some.report.now _ c.next.new.self c.told.result c.in-Some.ensures.steps c.loop-volume.invariant.sorted new q
          ∙ c.loop-volume.invariant.same q;
    }
