-- How a run goes on from what its calls leave.
use Rattle.std.proofs.Common.{ℕ, ◌≤◌, ◌⊎◌, inl, inr, arith}
use Rattle.weed_base.specs.Files.{Files}
use Rattle.weed_base.specs.Images.{NoMore, Elapses, StandsStill, LeavesOnly, OnlyReads}

-- two runs, one behind the other
pub leaves_both : {D : Type 0} (tick : D → ℕ) (since : D → ℕ → Files → Type 0) (old middle new : D) (P : Files → Type 0)
    → LeavesOnly tick since old middle P → LeavesOnly tick since middle new P → LeavesOnly tick since old new P
leaves_both tick since old middle new P first second = record {
  later = omega (arith, first.later, second.later);
  each = λ moment image early left.
      elim (second.each moment image (omega (arith, early, first.later)) left) as (λ _. since old moment image ⊎ P image) [
        | inl before ↦ first.each moment image early before
        | inr now ↦ inr now
      ];
}

-- what has P has Q too
pub leaves_weaker : {D : Type 0} (tick : D → ℕ) (since : D → ℕ → Files → Type 0) (old new : D) (P Q : Files → Type 0)
    → ((image : Files) → P image → Q image) → LeavesOnly tick since old new P → LeavesOnly tick since old new Q
leaves_weaker tick since old new P Q implied leaves = record {
  later = leaves.later;
  each = λ moment image early left.
      elim (leaves.each moment image early left) as (λ _. since old moment image ⊎ Q image) [
        | inl before ↦ inl before
        | inr now ↦ inr (implied image now)
      ];
}

-- one call
pub leaves_call : {D : Type 0} (tick : D → ℕ) (since : D → ℕ → Files → Type 0) (images : D → Files → Type 0) (old new : D) (P : Files → Type 0)
    → Elapses (tick old) (tick new) (since old) (since new) (images new) → ((image : Files) → images new image → P image)
    → LeavesOnly tick since old new P
leaves_call tick since images old new P time now = record {
  later = time.later;
  each = λ moment image early left.
      elim (time.nothing_else moment image early left) as (λ _. since old moment image ⊎ P image) [
        | inl before ↦ inl before
        | inr left_now ↦ inr (now image left_now)
      ];
}

-- no call
pub leaves_nothing : {D : Type 0} (tick : D → ℕ) (since : D → ℕ → Files → Type 0) (same : D) (P : Files → Type 0) → LeavesOnly tick since same same P
leaves_nothing tick since same P = record { later = omega arith; each = λ moment image early left. inl left }

-- a send
pub leaves_still : {D : Type 0} (tick : D → ℕ) (since : D → ℕ → Files → Type 0) (images : D → Files → Type 0) (old new : D) (P : Files → Type 0)
    → StandsStill (tick old) (tick new) (since old) (since new) (images old) (images new) → LeavesOnly tick since old new P
leaves_still tick since images old new P still = record {
  later = omega (arith, still.tick);
  each = λ moment image early left. inl (still.nothing_else moment image left);
}

-- two runs of calls that only read, one behind the other
pub reads_both : {D : Type 0} (tick : D → ℕ) (images : D → Files → Type 0) (since : D → ℕ → Files → Type 0) (old middle new : D)
    → OnlyReads tick images since old middle → OnlyReads tick images since middle new → OnlyReads tick images since old new
reads_both tick images since old middle new first second = record {
  later = omega (arith, first.later, second.later);
  now = λ image left. first.now image (second.now image left);
  each = λ moment image early left. first.each moment image early (second.each moment image (omega (arith, early, first.later)) left);
}

-- one call that only reads
pub reads_call : {D : Type 0} (tick : D → ℕ) (images : D → Files → Type 0) (since : D → ℕ → Files → Type 0) (old new : D)
    → ((moment : ℕ) (image : Files) → moment ≤ tick old → images old image → since old moment image)
    → NoMore (images old) (images new) → Elapses (tick old) (tick new) (since old) (since new) (images new) → OnlyReads tick images since old new
reads_call tick images since old new counts none time = record {
  later = time.later;
  now = none;
  each = λ moment image early left.
      elim (time.nothing_else moment image early left) as (λ _. since old moment image) [
        | inl before ↦ before
        | inr now ↦ counts moment image early (none image now)
      ];
}

-- no call
pub reads_nothing : {D : Type 0} (tick : D → ℕ) (images : D → Files → Type 0) (since : D → ℕ → Files → Type 0) (same : D) → OnlyReads tick images since same same
reads_nothing tick images since same = record { later = omega arith; now = λ image left. left; each = λ moment image early left. left }

-- calls that only read leave nothing new
pub reads_leaves : {D : Type 0} (tick : D → ℕ) (images : D → Files → Type 0) (since : D → ℕ → Files → Type 0) (old new : D) (P : Files → Type 0)
    → OnlyReads tick images since old new → LeavesOnly tick since old new P
reads_leaves tick images since old new P reads = record { later = reads.later; each = λ moment image early left. inl (reads.each moment image early left) }
