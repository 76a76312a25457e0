use Rattle.std.proofs.Common.{◌≡◌, None, length, map}
use Rattle.weed_base.specs.PathFaults.{first_fault, part_fault}
use Rattle.weed_base.proofs.path_check.fault_of_parts.Given as goal

abbrev pub invariant-loop-part : goal.invariant-loop-part
invariant-loop-part l = record {
  can : (goal.iterator-loop-part).can_next l.part-iterator;
  finite : (goal.iterator-loop-part).is_finite l.part-iterator;
  count : l.depth ≡ length l.yielded;
  sound : first_fault (map part_fault (map (λ part. part.now) l.yielded)) ≡ None;
}
