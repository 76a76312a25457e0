use Rattle.std.proofs.Common.{sym, ap, ◌∙◌, arith}
use Rattle.std.specs.Option.{option_or}
use Rattle.std.specs.Ordering.{nat_cmp}
use Rattle.std.specs.FinMap.{get, get-empty}
use Rattle.topology.proofs.Merges.{first_report_more}
use Rattle.topology.proofs.volumes.first_reports.Goals as goal

pub loop-member-init : goal.loop-member-init
loop-member-init c volume = ap (λ table. get table volume) c.new-reports.ensures ∙ get-empty nat_cmp volume

pub loop-member-preserved : goal.loop-member-preserved
loop-member-preserved c volume =
    c.in_ok-add_missing.ensures volume
    ∙ ap (λ found. option_or found (get c.member-item.result.reports volume)) (c.loop-member.invariant volume)
    ∙ sym (first_report_more volume c.args.members.now c.loop-member.member-index _ c.member-item.result (omega arith) c.loop-member-test.true c.member-item.is)
