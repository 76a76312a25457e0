use Rattle.std.proofs.Common.{◌≡◌, ◌≤◌, ◌<◌, ℕ, None, drop}
use Rattle.spans.specs.Stretches.{seen_in}
use Rattle.spans.specs.Visible.{place_in, place_of, AreApart, EndBy}
use Rattle.spans.proofs.seen_spans.join.Given as goal

-- Up to here the spans name what is seen, and from here on the rest tells it.
abbrev pub invariant-loop-stretch : goal.invariant-loop-stretch
invariant-loop-stretch l = record {
  apart : AreApart l.spans.items;
  ended : EndBy l.at l.spans.items;
  rest : (p : ℕ) → l.at ≤ p → seen_in (drop l.stretch-index l.stretches) None p ≡ seen_in l.stretches None p;
  so_far : (p : ℕ) → p < l.at → place_in l.spans.items None p ≡ place_of (seen_in l.stretches None p);
}
