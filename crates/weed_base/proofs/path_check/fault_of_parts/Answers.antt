use Rattle.std.proofs.Common.{◌≡◌, ◌==◌, ◌∙◌, None, map, length, take, sym, ap, arith, rules, tests}
use Rattle.std.specs.List.{slice_split}
use Rattle.std.proofs.lemmas.Iterator.Splits.{YieldsList-from_slice_split}
use Rattle.std.proofs.lemmas.Iterator.Consumers.{YieldsList-turn, YieldsList-end, YieldsList-so_far}
use Rattle.std.proofs.lemmas.List.{map_push, length_push}
use Rattle.weed_base.specs.PathFaults.{first_fault, part_fault}
use Rattle.weed_base.proofs.PathFaultLemmas.{bad_part, passed_more, too_deep, not_deep}
use Rattle.weed_base.proofs.path_check.fault_of_parts.Goals as goal

pub returns-then-is_some : goal.returns-then-is_some
returns-then-is_some c =
    let parts = slice_split (λ b. b == 47) c.args.text.now in
    let turn = YieldsList-turn (YieldsList-from_slice_split _ (λ b. b == 47) c.args.text.now (cc) (cc) (cc) (λ x b q k. search (rules, tests))) c.loop-part.yielded c.loop-part.part-iterator c.loop-part.yielded_by _ _ c.in-Some.part c.in-Some.is c.next.ensures.steps in
    let before : first_fault (map part_fault (take (length c.loop-part.yielded) parts)) ≡ None =
    ap (λ front. first_fault (map part_fault front)) (sym (YieldsList-so_far (YieldsList-from_slice_split _ (λ b. b == 47) c.args.text.now (cc) (cc) (cc) (λ x b q k. search (rules, tests))) c.loop-part.yielded c.loop-part.part-iterator c.loop-part.yielded_by)) ∙ c.loop-part.invariant.sound in
    bad_part parts (length c.loop-part.yielded) c.in-Some.part.now c.fault_of_part-fault.result turn before c.fault_of_part-fault.ensures (sym c.if-is_some.ensures)

pub loop-part-preserved : goal.loop-part-preserved
loop-part-preserved c =
    let seen = map (λ part. part.now) c.loop-part.yielded in
    record {
      can = search rules;
      finite = search rules;
      count = omega (arith, c.loop-part.invariant.count, length_push c.loop-part.yielded c.in-Some.part);
      sound = ap (λ parts. first_fault (map part_fault parts)) (map_push (λ part. part.now) c.loop-part.yielded c.in-Some.part)
          ∙ passed_more seen c.in-Some.part.now c.fault_of_part-fault.result c.loop-part.invariant.sound c.fault_of_part-fault.ensures (sym c.if-is_some.ensures);
    }

pub returns-then-depth-gt-MAX_DEPTH : goal.returns-then-depth-gt-MAX_DEPTH
returns-then-depth-gt-MAX_DEPTH c =
    let parts = slice_split (λ b. b == 47) c.args.text.now in
    let all = YieldsList-end (YieldsList-from_slice_split _ (λ b. b == 47) c.args.text.now (cc) (cc) (cc) (λ x b q k. search (rules, tests))) c.loop-part.yielded c.loop-part.part-iterator c.loop-part.yielded_by _ _ c.in-None.is c.next.ensures.steps in
    too_deep parts (ap (λ seen. first_fault (map part_fault seen)) (sym all.0) ∙ c.loop-part.invariant.sound) (omega (arith, all.1, c.loop-part.invariant.count))

pub returns-else-depth-gt-MAX_DEPTH : goal.returns-else-depth-gt-MAX_DEPTH
returns-else-depth-gt-MAX_DEPTH c =
    let parts = slice_split (λ b. b == 47) c.args.text.now in
    let all = YieldsList-end (YieldsList-from_slice_split _ (λ b. b == 47) c.args.text.now (cc) (cc) (cc) (λ x b q k. search (rules, tests))) c.loop-part.yielded c.loop-part.part-iterator c.loop-part.yielded_by _ _ c.in-None.is c.next.ensures.steps in
    not_deep parts (ap (λ seen. first_fault (map part_fault seen)) (sym all.0) ∙ c.loop-part.invariant.sound) (omega (arith, all.1, c.loop-part.invariant.count))
