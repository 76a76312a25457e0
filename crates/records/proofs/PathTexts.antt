-- The text of a path's parent stands in front of the last slash of its own text.
use Rattle.std.proofs.Common.{◌≡◌, ◌≢◌, ℕ, ◌+◌, ◌-◌, ◌<◌, ◌≤◌, List, [], ◌∷◌, ◌++◌, length, take, Some, None, refl, sym, ap, ◌∙◌, subst, arith, length-append, append-nil}
use Rattle.std.specs.Prelude.{unwrap_or}
use Rattle.std.specs.List.{last_or}
use Rattle.std.proofs.Math.Seq.{take-append_seam}
use Rattle.weed_base.specs.Path.{text_of, spelled}
use Rattle.weed_base.proofs.PathLemmas.{spelled-append, last_or-append, parent_of-append}
use Rattle.name_core.specs.RecordText.{directory_of, name_of}

-- What the text of a path with that last part is
pub record EndsIn (path : List (List ℕ)) (name : List ℕ) : Type 0 where
  pub top : List (List ℕ)
  pub directory : directory_of path ≡ top
  pub text : text_of path ≡ spelled top ++ 47 ∷ name

spelled_filled : (top : List (List ℕ)) (name : List ℕ) → text_of (top ++ name ∷ []) ≡ spelled (top ++ name ∷ [])
spelled_filled [] name = refl
spelled_filled (x ∷ top) name = refl

EndsIn-append : (top : List (List ℕ)) (name : List ℕ) → EndsIn (top ++ name ∷ []) name
EndsIn-append top name = record {
  top = top;
  directory = ap (λ o. unwrap_or o []) (parent_of-append top name);
  text = spelled_filled top name ∙ spelled-append top (name ∷ []) ∙ ap (λ back. spelled top ++ back) (append-nil (47 ∷ name));
}

pub record Parted (path : List (List ℕ)) : Type 0 where
  pub top : List (List ℕ)
  pub name : List ℕ
  pub is : path ≡ top ++ name ∷ []

pub parted : (x : List ℕ) (xs : List (List ℕ)) → Parted (x ∷ xs)
parted x [] = record { top = []; name = x; is = refl }
parted x (y ∷ ys) =
    let rest : Parted (y ∷ ys) = parted y ys in
    record { top = x ∷ rest.top; name = rest.name; is = ap (λ p. x ∷ p) rest.is }

-- A last part that is there ends the path, and only the root has none.
pub EndsIn-last : (path : List (List ℕ)) (name : List ℕ) → Some name ≡ last_or None path → EndsIn path name
EndsIn-last [] name e = cc
EndsIn-last (x ∷ xs) name e =
    let split : Parted (x ∷ xs) = parted x xs in
    let last : last_or None (x ∷ xs) ≡ Some split.name = ap (last_or None) split.is ∙ last_or-append split.top split.name None in
    let same : split.name ≡ name = cc in
    subst (λ p. EndsIn p name) (sym split.is) (subst (λ n. EndsIn (split.top ++ split.name ∷ []) n) same (EndsIn-append split.top split.name))

pub only_root_lacks : (path : List (List ℕ)) → None ≡ last_or None path → path ≡ []
only_root_lacks [] e = refl
only_root_lacks (x ∷ xs) e =
    let split : Parted (x ∷ xs) = parted x xs in
    let last : last_or None (x ∷ xs) ≡ Some split.name = ap (last_or None) split.is ∙ last_or-append split.top split.name None in
    cc

pub length-text : (path : List (List ℕ)) (name : List ℕ) (ends : EndsIn path name) → length (text_of path) ≡ length (spelled ends.top) + 1 + length name
length-text path name ends = ap length ends.text ∙ length-append (spelled ends.top) (47 ∷ name) ∙ omega arith

text_of-filled : (top : List (List ℕ)) → 0 < length (spelled top) → text_of top ≡ spelled top
text_of-filled [] h = absurd (omega arith)
text_of-filled (x ∷ top) h = refl

text_of-empty : (top : List (List ℕ)) → length (spelled top) ≡ 0 → 47 ∷ [] ≡ text_of top
text_of-empty [] e = refl
text_of-empty (x ∷ top) e = absurd (omega (arith, length-append (47 ∷ x) (spelled top)))

-- The place of the last slash, and what stands in front of it
pub slash_is : (path : List (List ℕ)) (name : List ℕ) (ends : EndsIn path name) → length (text_of path) - length name - 1 ≡ length (spelled ends.top)
slash_is path name ends = let e : length (text_of path) ≡ length (spelled ends.top) + 1 + length name = length-text path name ends in omega arith

pub directory_at_front : (path : List (List ℕ)) (name : List ℕ) → EndsIn path name → length (text_of path) - length name - 1 ≡ 0 → 47 ∷ [] ≡ text_of (directory_of path)
directory_at_front path name ends e = text_of-empty ends.top (sym (slash_is path name ends) ∙ e) ∙ ap text_of (sym ends.directory)

pub directory_before_slash : (path : List (List ℕ)) (name : List ℕ) → EndsIn path name → length (text_of path) - length name - 1 ≢ 0 → take (length (text_of path) - length name - 1) (text_of path) ≡ text_of (directory_of path)
directory_before_slash path name ends ne =
    let at : length (text_of path) - length name - 1 ≡ length (spelled ends.top) = slash_is path name ends in
    let cut : take (length (text_of path) - length name - 1) (text_of path) ≡ spelled ends.top = ap (λ n. take n (text_of path)) at ∙ ap (take (length (spelled ends.top))) ends.text ∙ take-append_seam (spelled ends.top) (47 ∷ name) in
    cut ∙ sym (text_of-filled ends.top (omega arith)) ∙ ap text_of (sym ends.directory)

length-text_of : (top : List (List ℕ)) → length (text_of top) ≤ length (spelled top) + 1
length-text_of [] = omega arith
length-text_of (x ∷ top) = omega arith

-- The parent and the name of a path are no longer than it.
pub record HasShortParts (path : List (List ℕ)) : Type 0 where
  pub directory : length (text_of (directory_of path)) ≤ length (text_of path)
  pub name : length (name_of path) ≤ length (text_of path)

pub short_parts : (path : List (List ℕ)) → HasShortParts path
short_parts [] = record { directory = omega arith; name = omega arith }
short_parts (x ∷ xs) =
    let split : Parted (x ∷ xs) = parted x xs in
    let last : last_or None (x ∷ xs) ≡ Some split.name = ap (last_or None) split.is ∙ last_or-append split.top split.name None in
    let ends : EndsIn (x ∷ xs) split.name = EndsIn-last (x ∷ xs) split.name (sym last) in
    let long : length (text_of (x ∷ xs)) ≡ length (spelled ends.top) + 1 + length split.name = length-text (x ∷ xs) split.name ends in
    let directory : length (text_of (directory_of (x ∷ xs))) ≡ length (text_of ends.top) = ap (λ p. length (text_of p)) ends.directory in
    let name : length (name_of (x ∷ xs)) ≡ length split.name = ap (λ o. length (unwrap_or o [])) last in
    record { directory = omega (arith, length-text_of ends.top); name = omega arith }

-- Every path but the root is its directory with its name behind.
pub directory_and_name : (path : List (List ℕ)) → path ≢ [] → path ≡ directory_of path ++ name_of path ∷ []
directory_and_name [] filled = absurd (filled refl)
directory_and_name (x ∷ xs) filled =
    let split : Parted (x ∷ xs) = parted x xs in
    let name : name_of (x ∷ xs) ≡ split.name = ap (λ o. unwrap_or o []) (ap (last_or None) split.is ∙ last_or-append split.top split.name None) in
    let directory : directory_of (x ∷ xs) ≡ split.top = ap directory_of split.is ∙ ap (λ o. unwrap_or o []) (parent_of-append split.top split.name) in
    split.is ∙ ap (λ top. top ++ split.name ∷ []) (sym directory) ∙ ap (λ last. directory_of (x ∷ xs) ++ last ∷ []) (sym name)
