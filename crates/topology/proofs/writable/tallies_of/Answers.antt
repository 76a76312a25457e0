use Rattle.std.proofs.Common.{sym, ap, ◌∙◌, arith}
use Rattle.std.specs.Option.{unwrap_or}
use Rattle.std.specs.Ordering.{nat_cmp}
use Rattle.std.specs.FinMap.{get, get-empty}
use Rattle.topology.specs.Tallies.{untold, told, tally_at}
use Rattle.topology.proofs.Tallies.{tally_more, tally_none}
use Rattle.topology.proofs.writable.tallies_of.Goals as goal

pub loop-member-init : goal.loop-member-init
loop-member-init c volume =
    ap (λ tallies. tally_at c.args.kind.now tallies volume) c.new-tallies.ensures ∙ ap (λ found. unwrap_or found (untold c.args.kind.now)) (get-empty nat_cmp volume) ∙ tally_none c.args.kind.now volume

pub loop-member-preserved : goal.loop-member-preserved
loop-member-preserved c volume =
    c.in_ok-add_told.ensures volume
    ∙ ap (λ tally. told c.args.kind.now tally (get c.member-item.result.reports volume)) (c.loop-member.invariant volume)
    ∙ sym (tally_more c.args.kind.now volume c.args.members.now c.loop-member.member-index _ c.member-item.result (omega arith) c.loop-member-test.true c.member-item.is)
