-- The order of paths, read off their texts.
use Rattle.std.proofs.Common.{◌≡◌, ◌≢◌, ℕ, ◌<◌, eqb, List, [], ◌∷◌, length, refl, ap, ◌∙◌, arith}
use Rattle.std.specs.declared.cmp.Ordering.TheVariants.{Less, Greater}
use Rattle.std.specs.Ordering.{nat_cmp}
use Rattle.std.specs.Cmp.Lexicographic.{slice_cmp}
use Rattle.std.specs.List.{slice_split}
use Rattle.weed_base.specs.Path.{IsPath, text_of}
use Rattle.weed_base.specs.PathOrder.{path_cmp}
use Rattle.weed_base.proofs.PathLemmas.{parts_of-spelled}

-- A text between its slashes.
abbrev cut : List ℕ → List (List ℕ)
cut text = slice_split (λ b. eqb b 47) text

cut-text : (part : List ℕ) (parts : List (List ℕ)) → IsPath (part ∷ parts) → cut (text_of (part ∷ parts)) ≡ [] ∷ part ∷ parts
cut-text part parts path = ap (λ ps. [] ∷ ps) (parts_of-spelled (part ∷ parts) (λ i d h. (path.each i d h).plain))

first_filled : (part : List ℕ) (parts : List (List ℕ)) → IsPath (part ∷ parts) → part ≢ []
first_filled part parts path empty =
    let filled : 0 < length part = (path.each 0 [] (omega arith)).filled in
    let none : length part ≡ 0 = ap length empty in
    omega arith

root_before : (q : List ℕ) (qs : List (List ℕ)) → q ≢ [] → slice_cmp (slice_cmp nat_cmp) ([] ∷ [] ∷ []) ([] ∷ q ∷ qs) ≡ Less
root_before [] qs filled = absurd (filled refl)
root_before (b ∷ q) qs filled = refl

behind_root : (q : List ℕ) (qs : List (List ℕ)) → q ≢ [] → slice_cmp (slice_cmp nat_cmp) ([] ∷ q ∷ qs) ([] ∷ [] ∷ []) ≡ Greater
behind_root [] qs filled = absurd (filled refl)
behind_root (b ∷ q) qs filled = refl

pub cut_order : (a b : List (List ℕ)) → IsPath a → IsPath b → slice_cmp (slice_cmp nat_cmp) (cut (text_of a)) (cut (text_of b)) ≡ path_cmp a b
cut_order [] [] pa pb = refl
cut_order [] (q ∷ qs) pa pb = ap (slice_cmp (slice_cmp nat_cmp) ([] ∷ [] ∷ [])) (cut-text q qs pb) ∙ root_before q qs (first_filled q qs pb)
cut_order (p ∷ ps) [] pa pb = ap (λ x. slice_cmp (slice_cmp nat_cmp) x ([] ∷ [] ∷ [])) (cut-text p ps pa) ∙ behind_root p ps (first_filled p ps pa)
cut_order (p ∷ ps) (q ∷ qs) pa pb = λ i. slice_cmp (slice_cmp nat_cmp) (cut-text p ps pa i) (cut-text q qs pb i)
