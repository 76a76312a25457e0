-- The text of a path that is moved from one top to another.
use Rattle.std.proofs.Common.{◌≡◌, ◌≢◌, ◌⊎◌, ℕ, zero, suc, ◌≤◌, ◌<◌, Bool, true, false, List, [], ◌∷◌, ◌++◌, length, drop, Result, Ok, Err, refl, sym, ap, ◌∙◌, subst, inl, inr, arith, length-append}
use Rattle.std.specs.Prelude.{All, slice_index, nat_le, ◌&&◌, not}
use Rattle.std.specs.Str.{IsUtf8}
use Rattle.std.proofs.Math.Seq.{drop-append_seam}
use Rattle.std.proofs.lemmas.Bool.{le-leb, leb-true, cases_Bool}
use Rattle.std.proofs.lemmas.List.Elements.{All-head, All-append, All-drop, All-weaker}
use Rattle.std.proofs.lemmas.Str.{IsUtf8-append, IsUtf8-nil, IsUtf8-from_ascii}
use Rattle.weed_base.specs.Path.{IsPart, IsPath, spelled, text_of, parts_of}
use Rattle.weed_base.specs.declared.path_fault.PathFault.{PathFault}
use Rattle.weed_base.specs.declared.path_fault.PathFault.TheVariants.{Memory}
use Rattle.weed_base.proofs.PathLemmas.{spelled-append, IsUtf8-after_slash, parts_of-spelled}
use Rattle.name_core.specs.Namespace.{is_within}
use Rattle.name_core.specs.declared.command.Refusal.TheVariants.{PathLimit}
use Rattle.name_plans.specs.Moving.{moved_path, fits, within_limits, AreParts}
use Rattle.name_plans.specs.Refusing.{refuse_if, unless}
use Rattle.name_plans.proofs.Within.{split_within}

text_is_spelled : (path : List (List ℕ)) → path ≢ [] → text_of path ≡ spelled path
text_is_spelled [] filled = absurd (filled refl)
text_is_spelled (part ∷ parts) filled = refl

filled-append : (top rest : List (List ℕ)) → top ≢ [] → top ++ rest ≢ []
filled-append [] rest filled = absurd (filled refl)
filled-append (part ∷ top) rest filled = λ none. cc

-- The text of more parts behind a top
text-append : (top rest : List (List ℕ)) → top ≢ [] → text_of (top ++ rest) ≡ text_of top ++ spelled rest
text-append top rest filled =
    text_is_spelled (top ++ rest) (filled-append top rest filled) ∙ spelled-append top rest ∙ ap (λ text. text ++ spelled rest) (sym (text_is_spelled top filled))

text_within : (top path : List (List ℕ)) → top ≢ [] → is_within top path ≡ true → text_of path ≡ text_of top ++ spelled (drop (length top) path)
text_within top path filled within = ap text_of (split_within top path within) ∙ text-append top (drop (length top) path) filled

pub top_is_shorter : (top path : List (List ℕ)) → top ≢ [] → is_within top path ≡ true → length (text_of top) ≤ length (text_of path)
top_is_shorter top path filled within =
    omega (arith, ap length (text_within top path filled within), length-append (text_of top) (spelled (drop (length top) path)))

rest_text : (top path : List (List ℕ)) → top ≢ [] → is_within top path ≡ true → drop (length (text_of top)) (text_of path) ≡ spelled (drop (length top) path)
rest_text top path filled within =
    ap (drop (length (text_of top))) (text_within top path filled within) ∙ drop-append_seam (text_of top) (spelled (drop (length top) path))

pub moved_text : (from to path : List (List ℕ)) → from ≢ [] → to ≢ [] → is_within from path ≡ true
    → text_of to ++ drop (length (text_of from)) (text_of path) ≡ text_of (moved_path from to path)
moved_text from to path from_filled to_filled within =
    ap (λ rest. text_of to ++ rest) (rest_text from path from_filled within) ∙ sym (text-append to (drop (length from) path) to_filled)

slash_is_ascii : (i : ℕ) → slice_index (47 ∷ []) i < 128
slash_is_ascii zero = omega arith
slash_is_ascii (suc i) = omega arith

slash_utf8 : (ys : List ℕ) → IsUtf8 ys → IsUtf8 (47 ∷ ys)
slash_utf8 ys utf8 = IsUtf8-append (47 ∷ []) ys (IsUtf8-from_ascii (47 ∷ []) slash_is_ascii) utf8

-- What is behind a front, where both together are UTF-8, begins with a slash.
rest_utf8 : (text : List ℕ) (rest : List (List ℕ)) → IsUtf8 (text ++ spelled rest) → IsUtf8 (spelled rest)
rest_utf8 text [] utf8 = IsUtf8-nil
rest_utf8 text (part ∷ rest) utf8 = slash_utf8 (part ++ spelled rest) (IsUtf8-after_slash text (part ++ spelled rest) utf8)

pub moved_parts : (from to path : List (List ℕ)) → IsPath path → IsPath to → from ≢ [] → to ≢ [] → is_within from path ≡ true → AreParts (moved_path from to path)
moved_parts from to path is to_is from_filled to_filled within =
    let rest = drop (length from) path in
    let text : text_of (moved_path from to path) ≡ text_of to ++ drop (length (text_of from)) (text_of path) = sym (moved_text from to path from_filled to_filled within) in
    let utf8 : IsUtf8 (drop (length (text_of from)) (text_of path)) =
    subst IsUtf8 (sym (rest_text from path from_filled within)) (rest_utf8 (text_of from) rest (subst IsUtf8 (text_within from path from_filled within) is.utf8)) in record {
      filled = filled-append to rest to_filled;
      each = All-append IsPart to rest to_is.each (All-drop IsPart (length from) path is.each);
      no_zero = subst (All (λ b. b ≢ 0)) (sym text) (All-append (λ b. b ≢ 0) (text_of to) _ to_is.no_zero (All-drop (λ b. b ≢ 0) (length (text_of from)) (text_of path) is.no_zero));
      utf8 = subst IsUtf8 (sym text) (IsUtf8-append (text_of to) _ to_is.utf8 utf8);
    }

first_longer : (part : List ℕ) (parts : List (List ℕ)) → IsPart part → 47 ∷ [] ≢ text_of (part ∷ parts)
first_longer part parts is same =
    let filled = is.filled in
    let lengths : 1 ≡ length (text_of (part ∷ parts)) = ap length same in
    omega (arith, length-append part (spelled parts))

plain_parts : (parts : List (List ℕ)) → All IsPart parts → All (All (λ b. b ≢ 47)) parts
plain_parts parts each = All-weaker IsPart (All (λ b. b ≢ 47)) (λ part is. is.plain) parts each

-- Parts that have a path's text are the path.
pub one_path : (parts path : List (List ℕ)) → AreParts parts → IsPath path → text_of parts ≡ text_of path → parts ≡ path
one_path [] path are is same = absurd (are.filled refl)
one_path (part ∷ parts) [] are is same = absurd (first_longer part parts (All-head IsPart part parts are.each) (sym same))
one_path (part ∷ parts) (first ∷ path) are is same =
    sym (parts_of-spelled (part ∷ parts) (plain_parts (part ∷ parts) are.each)) ∙ ap parts_of same ∙ parts_of-spelled (first ∷ path) (plain_parts (first ∷ path) is.each)

path_fits : (path : List (List ℕ)) → IsPath path → fits path ≡ true
path_fits path is = ap (λ b. b && nat_le (length (text_of path)) 4096) (le-leb (length path) 64 is.few) ∙ le-leb (length (text_of path)) 4096 is.short

front_so : (a b : Bool) → (a && b) ≡ true → a ≡ true
front_so true b e = refl
front_so false b e = e

back_so : (a b : Bool) → (a && b) ≡ true → b ≡ true
back_so true b e = e
back_so false b e = cc

both_within : (path : List (List ℕ)) → fits path ≡ true → (length path ≤ 64) × (length (text_of path) ≤ 4096)
both_within path e = (leb-true _ _ (front_so _ _ e), leb-true _ _ (back_so _ _ e))

-- Parts within the limits are a path.
fitting_path : (parts : List (List ℕ)) → AreParts parts → fits parts ≡ true → IsPath parts
fitting_path parts are fit =
    let both = both_within parts fit in
    record { each = are.each; few = both.0; short = both.1; no_zero = are.no_zero; utf8 = are.utf8 }

pub read_fits : (parts path : List (List ℕ)) → AreParts parts → IsPath path → text_of parts ≡ text_of path → within_limits parts ≡ Ok path
read_fits parts path are is same =
    let one = one_path parts path are is same in
    subst (λ p. within_limits p ≡ Ok path) (sym one) (ap (λ b. unless (refuse_if (not b) PathLimit ∷ []) path) (path_fits path is))

refused_other : (fault : PathFault) (path : List (List ℕ)) → fault ≢ Memory → ◌≡◌ {A = Result (List (List ℕ)) PathFault} (Err fault) (Ok path) ⊎ ◌≡◌ {A = Result (List (List ℕ)) PathFault} (Err fault) (Err Memory) → ⊥
refused_other fault path other (inl is) = cc
refused_other fault path other (inr is) = other cc

pub read_outgrows : (parts : List (List ℕ)) (fault : PathFault) → AreParts parts → fault ≢ Memory
    → (IsPath parts → ◌≡◌ {A = Result (List (List ℕ)) PathFault} (Err fault) (Ok parts) ⊎ ◌≡◌ {A = Result (List (List ℕ)) PathFault} (Err fault) (Err Memory)) → within_limits parts ≡ Err PathLimit
read_outgrows parts fault are other only =
    elim (cases_Bool (fits parts)) [
      | inl fit ↦ absurd (refused_other fault parts other (only (fitting_path parts are fit)))
      | inr not_fit ↦ ap (λ b. unless (refuse_if (not b) PathLimit ∷ []) parts) not_fit
    ]
