use Rattle.std.proofs.Common.{◌≡◌, ◌≤◌, ℕ, None, length}
use Rattle.spans.specs.Visible.{AreApart, place_in}
use Rattle.spans.proofs.run.spans_after.Given as goal

abbrev pub invariant-loop-rest : goal.invariant-loop-rest
invariant-loop-rest l = record {
  same : (q : ℕ) → l.position ≤ q → place_in l.rest None q ≡ place_in l.spans None q;
  apart : AreApart l.rest;
}

abbrev pub decreases-loop-rest : goal.decreases-loop-rest
decreases-loop-rest l = length l.rest
