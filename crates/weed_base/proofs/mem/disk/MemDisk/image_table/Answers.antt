use Rattle.std.proofs.Common.{take, drop, reverse, ap, ◌∙◌}
use Rattle.std.proofs.lemmas.List.{take_rest}
use Rattle.weed_base.specs.History.{earlier, picked, replayed}
use Rattle.weed_base.specs.NamedBytes.{files_from}
use Rattle.weed_base.specs.declared.mem.change.Pick.TheVariants.{New}
use Rattle.weed_base.proofs.ReplayLemmas.{picked-replayed}
use Rattle.weed_base.proofs.mem.disk.MemDisk.image_table.Goals as goal

pub returns : goal.returns
returns c =
    let start = files_from c.self.inside.start.items in
    let past = c.earlier_calls-past.result.now in
    let count = c.settled_count-count.result in
    let pick = c.args.pick in
    let first = c.in_ok-replay.ensures ∙ ap (λ files. replayed New files (take count past)) (c.in_ok-table.ensures ∙ ap files_from c.deref-2.ensures.value) in
    let second = c.in_ok-replay-2.ensures ∙ ap (replayed pick c.replay.new.self) (take_rest past count) ∙ ap (λ files. replayed pick files (drop count past)) first in
    let early = c.earlier_calls-past.ensures ∙ ap (λ calls. earlier c.args.tick (reverse calls)) c.deref.ensures.value in
    second
    ∙ picked-replayed pick start past count c.settled_count-count.ensures.settled c.settled_count-count.ensures.left
    ∙ ap (picked pick start) early
    ∙ ap (λ disk. picked pick disk.start (earlier c.args.tick disk.past)) c.self.view_is
