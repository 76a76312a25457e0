-- Where a text is cut, by the places of its bytes.
use Rattle.std.proofs.Common.{◌≡◌, ◌⊎◌, inl, inr, subst, ◌≢◌, ℕ, suc, ◌+◌, ◌-◌, ◌<◌, ◌≤◌, List, [], ◌∷◌, ◌++◌, length, take, drop, get_or, refl, sym, ap, ◌∙◌, arith, Bool, true, false, cond, Option, Some, None, nat_eq}
use Rattle.std.specs.List.{position, position_or_len}
use Rattle.std.proofs.lemmas.List.Sums.{fails_before_first, passes_at_first}
use Rattle.std.proofs.lemmas.List.{drop_more, take-append-drop, take_rest, length-take, get_or-take, length-drop, get_or-drop}
use Rattle.std.proofs.lemmas.Option.{cond_some, none-some, same_Some}
use Rattle.std.proofs.lemmas.Bool.Decides.{eqb_tells}
use Rattle.std.specs.Option.{option_map, option_or}
use Rattle.std.proofs.lemmas.Bool.{eqb-true, eq-eqb, false≢true, ltb-true, ltb-false}
use Rattle.std.proofs.lemmas.Grind.{common_steps}
use Rattle.file_id.specs.Reading.{Cut, cut_first, cut_last, after_byte}

-- The byte stands nowhere in the text.
abbrev pub Lacks : ℕ → List ℕ → Type 0
Lacks b [] = Unit {0}
Lacks b (c ∷ cs) = (c ≢ b) × Lacks b cs

pub Lacks-from_places : (b : ℕ) (text : List ℕ) → ((k : ℕ) → k < length text → get_or text k 0 ≢ b) → Lacks b text
Lacks-from_places b [] none = tt
Lacks-from_places b (c ∷ cs) none = (none 0 (omega arith), Lacks-from_places b cs (λ k h. none (suc k) (omega arith)))

pub cut_first-none : (b : ℕ) (text : List ℕ) → Lacks b text → cut_first b text ≡ None
cut_first-none b [] none = refl
cut_first-none b (c ∷ cs) none = grind (arith, common_steps, none.0, cut_first-none b cs none.1)

pub cut_first-at : (b : ℕ) (before behind : List ℕ) → Lacks b before → cut_first b (before ++ (b ∷ behind)) ≡ Some (before, behind)
cut_first-at b [] behind none = grind (arith, common_steps)
cut_first-at b (c ∷ cs) behind none = grind (arith, common_steps, none.0, cut_first-at b cs behind none.1)

pub cut_last-none : (b : ℕ) (text : List ℕ) → Lacks b text → cut_last b text ≡ None
cut_last-none b [] none = refl
cut_last-none b (c ∷ cs) none = grind (arith, common_steps, none.0, cut_last-none b cs none.1)

pub cut_last-at : (b : ℕ) (before behind : List ℕ) → Lacks b behind → cut_last b (before ++ (b ∷ behind)) ≡ Some (before, behind)
cut_last-at b [] behind none = grind (arith, common_steps, cut_last-none b behind none)
cut_last-at b (c ∷ cs) behind none = grind (arith, common_steps, cut_last-at b cs behind none)

-- A text around the byte at a place.
around : (b : ℕ) (text : List ℕ) (i : ℕ) → i < length text → get_or text i 0 ≡ b → take i text ++ (b ∷ drop (i + 1) text) ≡ text
around b text i h is =
    ap (λ c. take i text ++ (c ∷ drop (i + 1) text)) (sym is)
    ∙ ap (λ rest. take i text ++ rest) (sym (drop_more text i 0 h))
    ∙ take-append-drop i text

-- A cut as the two slices give it.
cut_at : ℕ → List ℕ → Option Cut
cut_at i text = Some (take i text, take (length text - (i + 1)) (drop (i + 1) text))

cut_at-is : (i : ℕ) (text : List ℕ) → Some (take i text, drop (i + 1) text) ≡ cut_at i text
unfolding cut_at
cut_at-is i text = ap (λ rest. Some (take i text, rest)) (sym (take_rest text (i + 1)))

Lacks-front : (b : ℕ) (text : List ℕ) (i : ℕ) → i ≤ length text → ((k : ℕ) → k < i → get_or text k 0 ≢ b) → Lacks b (take i text)
Lacks-front b text i within none = Lacks-from_places b (take i text) (λ k h.
    let low : k < i = omega (arith, length-take i text) in
    let here : get_or (take i text) k 0 ≡ get_or text k 0 = get_or-take i text k 0 low in
    λ e. none k low (sym here ∙ e))

Lacks-back : (b : ℕ) (text : List ℕ) (i : ℕ) → ((k : ℕ) → i ≤ k → k < length text → get_or text k 0 ≢ b) → Lacks b (drop i text)
Lacks-back b text i none = Lacks-from_places b (drop i text) (λ k h e.
    none (i + k) (omega arith) (omega (arith, length-drop i text)) (sym (get_or-drop i text k 0) ∙ e))

pub cut_first-place : (b : ℕ) (text : List ℕ) (i : ℕ) → position (λ c. nat_eq c b) text ≡ Some i
    → cut_first b text ≡ Some (take i text, take (length text - (i + 1)) (drop (i + 1) text))
unfolding cut_at
cut_first-place b text i is =
    let found = cond_some _ _ _ is in
    let within : position_or_len (λ c. nat_eq c b) text < length text = ltb-true _ _ found.0 in
    let low : i < length text = subst (λ n. n < length text) found.1 within in
    let here : get_or text i 0 ≡ b = eqb-true _ _ (subst (λ n. nat_eq (get_or text n 0) b ≡ true) found.1 (passes_at_first (λ c. nat_eq c b) text 0 within)) in
    let none : (k : ℕ) → k < i → get_or text k 0 ≢ b = λ k h e.
    false≢true (sym (fails_before_first (λ c. nat_eq c b) text k 0 (subst (λ n. k < n) (sym found.1) h)) ∙ eq-eqb _ _ e) in
    ap (cut_first b) (sym (around b text i low here))
    ∙ cut_first-at b (take i text) (drop (i + 1) text) (Lacks-front b text i (omega arith) none)
    ∙ cut_at-is i text

cond_none : (b : Bool) (x : ℕ) → cond b (Some x) None ≡ None → b ≡ false
cond_none true x e = absurd (none-some x (sym e))
cond_none false x e = refl

pub cut_first-no_place : (b : ℕ) (text : List ℕ) → position (λ c. nat_eq c b) text ≡ None → cut_first b text ≡ None
cut_first-no_place b text is = cut_first-none b text (Lacks-from_places b text (λ k h e.
    let far : length text ≤ position_or_len (λ c. nat_eq c b) text = ltb-false _ _ (cond_none _ _ is) in
    false≢true (sym (fails_before_first (λ c. nat_eq c b) text k 0 (omega arith)) ∙ eq-eqb _ _ e)))

pub cut_last-place : (b : ℕ) (text : List ℕ) (i : ℕ) → i < length text → get_or text i 0 ≡ b
    → ((k : ℕ) → i + 1 ≤ k → k < length text → get_or text k 0 ≢ b)
    → cut_last b text ≡ Some (take i text, take (length text - (i + 1)) (drop (i + 1) text))
unfolding cut_at
cut_last-place b text i low here none =
    ap (cut_last b) (sym (around b text i low here))
    ∙ cut_last-at b (take i text) (drop (i + 1) text) (Lacks-back b text (i + 1) none)
    ∙ cut_at-is i text

pub cut_last-no_place : (b : ℕ) (text : List ℕ) → ((k : ℕ) → k < length text → get_or text k 0 ≢ b) → cut_last b text ≡ None
cut_last-no_place b text none = cut_last-none b text (Lacks-from_places b text none)

mapped : {A B : Type 0} (f : A → B) (o : Option A) (y : B) → option_map f o ≡ Some y → (x : A) × (o ≡ Some x) × (f x ≡ y)
mapped f None y is = absurd (none-some y is)
mapped f (Some x) y is = (x, refl, same_Some (f x) y is)

-- The text is what stands before the cut, the byte, and what stands behind it.
pub cut_first-whole : (b : ℕ) (text : List ℕ) (cut : Cut) → cut_first b text ≡ Some cut → text ≡ cut.0 ++ (b ∷ cut.1)
cut_first-whole b [] cut is = absurd (none-some cut is)
cut_first-whole b (c ∷ cs) cut is = elim (eqb_tells c b) [
  | inl match ↦
      let here : cut_first b (c ∷ cs) ≡ Some ([], cs) = rw match.0 refl in
      ap (λ d. d ∷ cs) match.1 ∙ ap (λ (k : Cut). k.0 ++ (b ∷ k.1)) (same_Some _ cut (sym here ∙ is))
  | inr other ↦
      let later : cut_first b (c ∷ cs) ≡ option_map (after_byte c) (cut_first b cs) = rw other.0 refl in
      let m = mapped (after_byte c) (cut_first b cs) cut (sym later ∙ is) in
      ap (λ t. c ∷ t) (cut_first-whole b cs m.0 m.1) ∙ ap (λ (k : Cut). k.0 ++ (b ∷ k.1)) m.2
]

or_else : {A : Type 0} (o p : Option A) (x : A) → option_or o p ≡ Some x → (o ≡ Some x) ⊎ ((o ≡ None) × (p ≡ Some x))
or_else None p x is = inr (refl, is)
or_else (Some y) p x is = inl is

pub cut_last-whole : (b : ℕ) (text : List ℕ) (cut : Cut) → cut_last b text ≡ Some cut → text ≡ cut.0 ++ (b ∷ cut.1)
cut_last-whole b [] cut is = absurd (none-some cut is)
cut_last-whole b (c ∷ cs) cut is = elim (or_else _ _ cut is) [
  | inl later ↦
      let m = mapped (after_byte c) (cut_last b cs) cut later in
      ap (λ t. c ∷ t) (cut_last-whole b cs m.0 m.1) ∙ ap (λ (k : Cut). k.0 ++ (b ∷ k.1)) m.2
  | inr here ↦
      let found = cond_some _ _ _ here.1 in
      ap (λ d. d ∷ cs) (eqb-true c b found.0) ∙ ap (λ (k : Cut). k.0 ++ (b ∷ k.1)) found.1
]
