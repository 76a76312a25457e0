-- The spelling of a number, group by group.
use Rattle.std.proofs.Common.{◌≡◌, ℕ, zero, suc, ◌+◌, ◌/◌, ◌%◌, ◌^◌, ◌<◌, ◌≤◌, List, [], ◌∷◌, ◌++◌, length, refl, sym, ap, ◌∙◌, append_assoc, arith, length-append, inl, inr}
use Rattle.std.proofs.lemmas.Bool.{lt-ltb, le-ltb, cases_lt, cond-true, cond-false}
use Rattle.proto_wire.specs.Text.{groups, varint_text}

pub length-groups : (most n : ℕ) → length (groups most n) ≤ most
length-groups zero n = omega arith
length-groups (suc most) n =
    elim (cases_lt n 128) [
      | inl lt ↦ rw (lt-ltb n 128 lt) (omega arith)
      | inr le ↦ let rest = length-groups most (n / 128) in rw (le-ltb n 128 le) (omega (arith, rest))
    ]

pub length-varint_text : (n : ℕ) → length (varint_text n) ≤ 10
unfolding varint_text
length-varint_text n = length-groups 10 n

-- Between two pushes: with the groups of the rest behind it, what is there is the whole spelling.
pub record Pushes (before : List ℕ) (number : ℕ) (now : List ℕ) (rest : ℕ) : Type 0 where
  pub more : ℕ
  pub below : rest < 128 ^ suc more
  pub room : length now + suc more ≤ 20
  pub text : now ++ groups (suc more) rest ≡ before ++ varint_text number

pub begins : (before : List ℕ) (number : ℕ) → length before ≤ 10 → number < 2 ^ 64 → Pushes before number before number
unfolding varint_text
begins before number short fits = record { more = 9; below = omega arith; room = omega arith; text = refl }

falls : (more rest : ℕ) → 128 ≤ rest → rest < 128 ^ suc more → (less : ℕ) × (more ≡ suc less) × (rest / 128 < 128 ^ suc less)
falls zero rest large below = absurd (omega arith)
falls (suc less) rest large below = (less, refl, grind arith)

groups_more : (less rest : ℕ) → 128 ≤ rest → groups (suc (suc less)) rest ≡ (rest % 128 + 128) ∷ groups (suc less) (rest / 128)
groups_more less rest large = cond-false _ _ _ (le-ltb rest 128 large)

pub goes_on : (before : List ℕ) (number : ℕ) (now : List ℕ) (rest : ℕ) → 128 ≤ rest → Pushes before number now rest
    → Pushes before number (now ++ (rest % 128 + 128) ∷ []) (rest / 128)
goes_on before number now rest large pushes =
    let less = falls pushes.more rest large pushes.below in
    let e : groups (suc pushes.more) rest ≡ (rest % 128 + 128) ∷ groups (suc less.0) (rest / 128) = ap (λ (m : ℕ). groups (suc m) rest) less.1 ∙ groups_more less.0 rest large in
    record {
      more = less.0;
      below = less.2;
      room = omega (arith, length-append now ((rest % 128 + 128) ∷ []), pushes.room, less.1);
      text = append_assoc now ((rest % 128 + 128) ∷ []) (groups (suc less.0) (rest / 128)) ∙ ap (λ (t : List ℕ). now ++ t) (sym e) ∙ pushes.text;
    }

pub ends : (before : List ℕ) (number : ℕ) (now : List ℕ) (rest : ℕ) → rest < 128 → Pushes before number now rest → now ++ rest ∷ [] ≡ before ++ varint_text number
ends before number now rest small pushes =
    let e : groups (suc pushes.more) rest ≡ rest ∷ [] = cond-true _ _ _ (lt-ltb rest 128 small) in
    ap (λ (t : List ℕ). now ++ t) (sym e) ∙ pushes.text

pub length-alone : (before now : List ℕ) (number : ℕ) → before ≡ [] → now ≡ before ++ varint_text number → length now ≤ 10
length-alone before now number none e = rw (e, none) (length-varint_text number)
