use Rattle.std.proofs.Common.{◌+◌, ◌-◌, false, refl, ap, ◌∙◌, arith}
use Rattle.std.specs.Prelude.{is_ok}
use Rattle.volume_items.proofs.Judged.{never_true, told_too_long, told_judged}
use Rattle.volume_items.proofs.Told.{moved}
use Rattle.volume_items.proofs.look.judge.Goals as goal

pub returns-then-tail-clause-judged : goal.returns-then-tail-clause-judged
returns-then-tail-clause-judged g c =
    told_too_long c.args.name.now c.args.version c.args.head.now c.args.place (c.args.place + 20) c.from-len.result (c.padded_len.result - 20 - c.from-len.result)
    (record { start_is = refl; len_is = c.from-len.ensures ∙ c.data_behind.ensures; tail_is = ap (λ n. n - 20 - c.from-len.result) c.padded_len.ensures })
    c.requires.within (g.D.Disk.files c.args.disk.now) c.in_ok-sum.sum c.in_ok-sum_of.field-0
    c.if-tail.true c.requires.head c.requires.there c.in_ok-sum.ensures.sum (moved _ c.in_ok-sum.ensures.looks.files c.in_ok-sum_of.ensures.sum)

pub returns-then-len-gt-MOST_DATA-clause-judged : goal.returns-then-len-gt-MOST_DATA-clause-judged
returns-then-len-gt-MOST_DATA-clause-judged g c =
    told_judged c.args.name.now c.args.version c.args.head.now c.args.place (c.args.place + 20) c.from-len.result (c.padded_len.result - 20 - c.from-len.result)
    (record { start_is = refl; len_is = c.from-len.ensures ∙ c.data_behind.ensures; tail_is = ap (λ n. n - 20 - c.from-len.result) c.padded_len.ensures })
    c.requires.within (g.D.Disk.files c.args.disk.now) c.in_ok-sum.sum (is_ok c.in_ok-verdict.verdict) false
    c.requires.head c.requires.there c.in_ok-sum.ensures.sum (moved _ c.in_ok-sum.ensures.looks.files c.in_ok-verdict.ensures.bytes)
    (moved _ c.in_ok-sum.ensures.looks.files c.in_ok-verdict.ensures.checked)
    (λ good. absurd (never_true good)) (λ good few. absurd (omega (arith, few, c.if-len-gt-MOST_DATA.true)))

pub returns-clause-judged : goal.returns-clause-judged
returns-clause-judged g c =
    told_judged c.args.name.now c.args.version c.args.head.now c.args.place (c.args.place + 20) c.from-len.result (c.padded_len.result - 20 - c.from-len.result)
    (record { start_is = refl; len_is = c.from-len.ensures ∙ c.data_behind.ensures; tail_is = ap (λ n. n - 20 - c.from-len.result) c.padded_len.ensures })
    c.requires.within (g.D.Disk.files c.args.disk.now) c.in_ok-sum.sum (is_ok c.in_ok-verdict.verdict) (is_ok c.in_ok-verdict.verdict)
    c.requires.head c.requires.there c.in_ok-sum.ensures.sum (moved _ c.in_ok-sum.ensures.looks.files c.in_ok-verdict.ensures.bytes)
    (moved _ c.in_ok-sum.ensures.looks.files c.in_ok-verdict.ensures.checked) (λ good. (good, c.if-len-gt-MOST_DATA.false)) (λ good few. good)
