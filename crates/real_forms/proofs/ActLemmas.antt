-- What is asked of the system, one act behind another.
use Rattle.std.proofs.Common.{◌≡◌, ℕ, zero, suc, List, refl, sym, subst, inl, inr}
use Rattle.real_forms.specs.System.{Act, ActsOnce, ActsInTurn, ActsOnly, IsOpening}

module _ {R F : Type 0} (one_act : R → R → Act F → Type 0) where
  -- nothing was asked
  pub acts_none : {May : Act F → Type 0} {old new : R} → new ≡ old → ActsOnly one_act May old new
  acts_none same = (zero, same)

  -- one act
  pub acts_one : {May : Act F → Type 0} {old new : R} (act : Act F) → May act → one_act old new act → ActsOnly one_act May old new
  acts_one {new = new} act may led = (suc zero, (act, new, may, led, refl))

  in_turn_along : {May More : Act F → Type 0} → ((act : Act F) → May act → More act) → (count : ℕ) (old middle new : R) → ActsInTurn one_act May count old middle → ActsOnly one_act More middle new → ActsOnly one_act More old new
  in_turn_along {More = More} more zero old middle new same behind = subst (λ (it : R). ActsOnly one_act More it new) same behind
  in_turn_along more (suc count) old middle new (act, next, may, led, rest) behind =
      let others = in_turn_along more count next middle new rest behind in
      (suc others.0, (act, next, more act may, led, others.1))

  -- some acts, and others behind them
  pub acts_along : {May : Act F → Type 0} {old middle new : R} → ActsOnly one_act May old middle → ActsOnly one_act May middle new → ActsOnly one_act May old new
  acts_along {May} {old} {middle} {new} front behind = in_turn_along (λ act may. may) front.0 old middle new front.1 behind

  -- acts of one kind are some of a wider one
  pub acts_among : {May More : Act F → Type 0} {old new : R} → ((act : Act F) → May act → More act) → ActsOnly one_act May old new → ActsOnly one_act More old new
  acts_among {May} {More} {old} {new} more front = in_turn_along more front.0 old new new front.1 (zero, refl)

  -- one act at most, of a kind that is known of
  pub acts_once : {May More : Act F → Type 0} {old new : R} → ((act : Act F) → May act → More act) → ActsOnce one_act May old new → ActsOnce one_act More old new
  acts_once more (inl same) = inl same
  acts_once more (inr (act, may, led)) = inr (act, more act may, led)

  -- some acts, and one more at most
  pub acts_more : {May : Act F → Type 0} {old middle new : R} → ActsOnly one_act May old middle → ActsOnce one_act May middle new → ActsOnly one_act May old new
  acts_more {May} {old} front (inl same) = subst (λ (it : R). ActsOnly one_act May old it) (sym same) front
  acts_more front (inr (act, may, led)) = acts_along front (acts_one act may led)

  -- acts of an opening, of the same path
  pub acts_at : {old new : R} {path place : List ℕ} → path ≡ place → ActsOnly one_act (IsOpening path) old new → ActsOnly one_act (IsOpening place) old new
  acts_at {old} {new} is front = subst (λ it. ActsOnly one_act (IsOpening it) old new) is front
