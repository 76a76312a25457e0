-- What reading a path, or joining a name to it, finds.
use Rattle.std.proofs.Common.{◌≡◌, ◌≢◌, ℕ, Bool, true, false, cond, eqb, ltb, nat_eq, not, ◌||◌, List, [], ◌∷◌, ◌++◌, length, map, codes, bytes_eq, Option, None, Some, Result, Ok, Err, refl, sym, ap, ◌∙◌, subst, All}
use Rattle.std.specs.Prelude.{is_none, IfOk, IsErr, IsOkUnless, MatchOption, MatchResult, option_and_then}
use Rattle.std.specs.declared.alloc.AllocError.{AllocError}
use Rattle.std.specs.List.{list_any, starts_with}
use Rattle.std.specs.Str.{is_utf8}
use Rattle.std.proofs.lemmas.List.Elements.{All-head, All-tail}
use Rattle.std.proofs.lemmas.Option.{none-some, same_Some}
use Rattle.weed_base.specs.Path.{IsPart, IsPath, text_of, spelled, parts_in}
use Rattle.weed_base.specs.PathFaults.{fault_if, first_fault, part_fault, parts_fault, text_fault, read_fault, read_in_fault, join_fault}
use Rattle.weed_base.specs.declared.path_fault.PathFault.{PathFault}
use Rattle.weed_base.specs.declared.path_fault.PathFault.TheVariants.{NotAbsolute, TooLong, NulByte, NotUtf8, EmptyPart, DotPart, PartTooLong, TooDeep, SlashInName, Memory}
use Rattle.weed_base.proofs.PathLemmas.{parts_in-text_of, text_of-push, IsPath-front}
use Rattle.weed_base.proofs.PathFaultLemmas.{none_found, no_text_fault, read_complete}
use Rattle.name_core.specs.RecordText.{directory_of, name_of}
use Rattle.records.specs.Events.{path_read, path_with, path_in, FindsMeant}
use Rattle.records.proofs.PathTexts.{directory_and_name}

-- ---- No text has want of memory for a fault.

if_other : (test : Bool) (fault : PathFault) → fault ≢ Memory → fault_if test fault ≢ Some Memory
if_other true fault other is = other (same_Some fault Memory is)
if_other false fault other is = absurd (none-some Memory is)

first_other : (x : Option PathFault) (xs : List (Option PathFault)) → x ≢ Some Memory → first_fault xs ≢ Some Memory → first_fault (x ∷ xs) ≢ Some Memory
first_other None xs other rest is = rest is
first_other (Some fault) xs other rest is = other is

none_other : first_fault [] ≢ Some Memory
none_other is = absurd (none-some Memory is)

part_other : (part : List ℕ) → part_fault part ≢ Some Memory
part_other part =
    first_other (fault_if (eqb (length part) 0) EmptyPart) _ (if_other _ EmptyPart (λ is. absurd cc))
    (first_other (fault_if (bytes_eq part (codes ".") || bytes_eq part (codes "..")) DotPart) _ (if_other _ DotPart (λ is. absurd cc))
    (first_other (fault_if (ltb 255 (length part)) PartTooLong) [] (if_other _ PartTooLong (λ is. absurd cc)) none_other))

each_other : (parts : List (List ℕ)) → first_fault (map part_fault parts) ≢ Some Memory
each_other [] = none_other
each_other (part ∷ parts) = first_other (part_fault part) (map part_fault parts) (part_other part) (each_other parts)

text_other : (text : List ℕ) (parts : List (List ℕ)) → text_fault text parts ≢ Some Memory
text_other text parts =
    first_other (fault_if (not (starts_with nat_eq text (codes "/"))) NotAbsolute) _ (if_other _ NotAbsolute (λ is. absurd cc))
    (first_other (fault_if (ltb 4096 (length text)) TooLong) _ (if_other _ TooLong (λ is. absurd cc))
    (first_other (fault_if (list_any (λ b. eqb b 0) text) NulByte) _ (if_other _ NulByte (λ is. absurd cc))
    (first_other (fault_if (not (is_utf8 text)) NotUtf8) _ (if_other _ NotUtf8 (λ is. absurd cc))
    (first_other (parts_fault parts) []
    (first_other (first_fault (map part_fault parts)) _ (each_other parts)
    (first_other (fault_if (ltb 64 (length parts)) TooDeep) [] (if_other _ TooDeep (λ is. absurd cc)) none_other))
    none_other))))

read_other : (text : List ℕ) → read_fault text ≢ Some Memory
unfolding read_fault
read_other text = text_other text (parts_in text)

slash_other : (test : Bool) → fault_if test SlashInName ≢ Some Memory
slash_other test = if_other test SlashInName (λ is. absurd cc)

join_other : (top : List (List ℕ)) (name : List ℕ) → join_fault top name ≢ Some Memory
unfolding join_fault
join_other top name =
    first_other (fault_if (list_any (λ b. eqb b 47) name) SlashInName) _ (slash_other (list_any (λ b. eqb b 47) name))
    (first_other (text_fault (spelled (top ++ name ∷ [])) (top ++ name ∷ [])) [] (text_other (spelled (top ++ name ∷ [])) (top ++ name ∷ [])) none_other)

read_in_other : (directory name : List ℕ) → read_in_fault directory name ≢ Some Memory
read_in_other directory name =
    first_other (read_fault directory) _ (read_other directory) (first_other (join_fault (parts_in directory) name) [] (join_other (parts_in directory) name) none_other)

-- ---- What is read

-- What stands for a path, and no path where there is a fault in it
abbrev pub IsIfPath : Result (List (List ℕ)) PathFault → Result (Option (List (List ℕ))) AllocError → Type 0
IsIfPath read found =
    MatchResult read (λ path. found ≡ Ok (Some path)) (λ fault. (fault ≡ Memory → IsErr found) × (fault ≢ Memory → found ≡ Ok None))

not_err : (o : Option (List (List ℕ))) → IsErr {T = Option (List (List ℕ))} {E = AllocError} (Ok o) → ⊥
not_err o is = let e : ◌≡◌ {A = Bool} false true = is in cc

not_memory : (fault e : PathFault) → Some fault ≢ Some Memory → ◌≡◌ {A = Result (List (List ℕ)) PathFault} (Err e) (Err fault) → e ≢ Memory
not_memory fault e other is memory = other cc

found_is : (fault : Option PathFault) (value : List (List ℕ)) (read : Result (List (List ℕ)) PathFault) (found : Result (Option (List (List ℕ))) AllocError)
    → fault ≢ Some Memory → IfOk read (λ path. IsPath path × (path ≡ value)) → MatchOption fault (IsOkUnless read Memory) (λ f. read ≡ Err f) → IsIfPath read found
    → FindsMeant (cond (is_none fault) (Some value) None) found
found_is None value (Ok path) found other is refused made = subst (FindsMeant (Some value)) (sym made) (ap Some is.1)
found_is None value (Err e) (Ok o) other is refused made = absurd (not_err o (made.0 refused))
found_is None value (Err e) (Err f) other is refused made = refl
found_is (Some fault) value (Ok path) found other is refused made = absurd cc
found_is (Some fault) value (Err e) found other is refused made = subst (FindsMeant None) (sym (made.1 (not_memory fault e other refused))) refl

in_two : (fault more : Option PathFault) (top : List (List ℕ)) (f : List (List ℕ) → List (List ℕ))
    → option_and_then (λ path. cond (is_none more) (Some (f path)) None) (cond (is_none fault) (Some top) None) ≡ cond (is_none (first_fault (fault ∷ more ∷ []))) (Some (f top)) None
in_two None None top f = refl
in_two None (Some fault) top f = refl
in_two (Some fault) more top f = refl

in_one : (fault : Option PathFault) (top : List (List ℕ)) (name : List ℕ)
    → option_and_then (path_with name) (cond (is_none fault) (Some top) None) ≡ cond (is_none (first_fault (fault ∷ join_fault top name ∷ []))) (Some (top ++ name ∷ [])) None
in_one None top name = in_two None (join_fault top name) top (λ path. path ++ name ∷ [])
in_one (Some fault) top name = refl

path_in_is : (directory name : List ℕ) → path_in directory name ≡ cond (is_none (read_in_fault directory name)) (Some (parts_in directory ++ name ∷ [])) None
path_in_is directory name = in_one (read_fault directory) (parts_in directory) name

pub read_in_is : (directory name : List ℕ) (read : Result (List (List ℕ)) PathFault) (found : Result (Option (List (List ℕ))) AllocError)
    → IfOk read (λ path. IsPath path × (path ≡ parts_in directory ++ name ∷ [])) → MatchOption (read_in_fault directory name) (IsOkUnless read Memory) (λ f. read ≡ Err f) → IsIfPath read found
    → FindsMeant (path_in directory name) found
read_in_is directory name read found is refused made =
    subst (λ o. FindsMeant o found) (sym (path_in_is directory name))
    (found_is (read_in_fault directory name) (parts_in directory ++ name ∷ []) read found (read_in_other directory name) is refused made)

-- ---- A path is found again by its directory's text and its name.

All-last : (xs ys : List (List ℕ)) → All IsPart (xs ++ ys) → All IsPart ys
All-last [] ys each = each
All-last (x ∷ xs) ys each = All-last xs ys (All-tail IsPart x (xs ++ ys) each)

no_slash : (parts : List (List ℕ)) (name : List ℕ) → IsPath (parts ++ name ∷ []) → list_any (λ b. eqb b 47) name ≡ false
no_slash parts name is = none_found 47 name (All-head IsPart name [] (All-last parts (name ∷ []) is.each)).plain

pub joins : (parts : List (List ℕ)) (name : List ℕ) → IsPath (parts ++ name ∷ []) → join_fault parts name ≡ None
unfolding join_fault
joins parts name is =
    ap (λ b. first_fault (fault_if b SlashInName ∷ text_fault (spelled (parts ++ name ∷ [])) (parts ++ name ∷ []) ∷ [])) (no_slash parts name is)
    ∙ ap (λ fault. first_fault (fault ∷ []))
    (ap (λ text. text_fault text (parts ++ name ∷ [])) (sym (text_of-push parts name)) ∙ no_text_fault (parts ++ name ∷ []) is)

found_again : (top : List (List ℕ)) (name : List ℕ) → IsPath (top ++ name ∷ []) → path_in (text_of top) name ≡ Some (top ++ name ∷ [])
found_again top name is =
    let above : IsPath top = IsPath-front top (name ∷ []) is in
    let read : path_read (text_of top) ≡ Some top =
    ap (λ fault. cond (is_none fault) (Some (parts_in (text_of top))) None) (read_complete top above) ∙ ap Some (parts_in-text_of top above) in
    ap (option_and_then (path_with name)) read ∙ ap (λ fault. cond (is_none fault) (Some (top ++ name ∷ [])) None) (joins top name is)

pub path_found : (path : List (List ℕ)) → IsPath path → path ≢ [] → path_in (text_of (directory_of path)) (name_of path) ≡ Some path
path_found path is filled =
    let whole : path ≡ directory_of path ++ name_of path ∷ [] = directory_and_name path filled in
    found_again (directory_of path) (name_of path) (subst IsPath whole is) ∙ ap Some (sym whole)
