-- Which fault comes first, and what a text without a fault is.
use Rattle.std.proofs.Common.{◌≡◌, ◌≢◌, ℕ, ◌+◌, ◌≤◌, ◌<◌, Bool, true, false, cond, eqb, ltb, nat_eq, List, [], ◌∷◌, ◌++◌, length, map, take, drop, get_or, not, ◌||◌, ◌&&◌, All, IsUtf8, Decides, Option, None, Some, codes, bytes_eq, sym, ◌∙◌, ap, subst, refl, arith}
use Rattle.std.specs.Option.{is_some}
use Rattle.std.specs.List.{list_any, starts_with}
use Rattle.std.specs.Str.{is_utf8}
use Rattle.std.proofs.lemmas.Bool.Decides.{nat_tests, same_from_decides, Decides-like}
use Rattle.std.proofs.lemmas.Bool.{both_ways, not-false, ltb-false, le-ltb, eq-eqb, eqb-true, eqb-false, ne_eqb}
use Rattle.std.proofs.lemmas.Slice.Eq.{bytes_eq-Decides}
use Rattle.std.proofs.lemmas.List.Folds.{list_any-append, list_any_none, list_any_at}
use Rattle.std.proofs.lemmas.List.Elements.{All-nil, All-cons, All-head, All-tail, All-push}
use Rattle.std.proofs.lemmas.List.{take-append-drop, drop_more, map-append, length-append, nil_from_length}
use Rattle.weed_base.specs.Path.{IsPart, spelled, text_of, IsPath, parts_of, parts_in}
use Rattle.weed_base.proofs.PathLemmas.{spelled-parts_of, parts_are_plain, parts_in_are_plain, parts_in-text_of, text_of-parts_in, IsKept, kept_bytes, spelled-push, text_of-push, parts_of-push, IsUtf8-after_slash, root_is_path}
use Rattle.std.proofs.lemmas.Str.{IsUtf8-from_is_utf8, is_utf8-from_IsUtf8, IsUtf8-append}
use Rattle.weed_base.specs.PathFaults.{fault_if, first_fault, part_fault, parts_fault, text_fault, read_fault, join_fault}
use Rattle.weed_base.specs.declared.path_fault.PathFault.{PathFault}
use Rattle.weed_base.specs.declared.path_fault.PathFault.TheVariants.{NotAbsolute, TooLong, NulByte, NotUtf8, EmptyPart, DotPart, PartTooLong, TooDeep, SlashInName}

-- what has no fault is passed over
pub first_fault-append : (xs ys : List (Option PathFault)) → first_fault xs ≡ None → first_fault (xs ++ ys) ≡ first_fault ys
first_fault-append [] ys none = refl
first_fault-append (None ∷ xs) ys none = first_fault-append xs ys none
first_fault-append (Some fault ∷ xs) ys none = absurd cc

pub parts_passed : (xs ys : List (List ℕ)) → first_fault (map part_fault xs) ≡ None → first_fault (map part_fault (xs ++ ys)) ≡ first_fault (map part_fault ys)
parts_passed xs ys none = ap first_fault (map-append part_fault xs ys) ∙ first_fault-append (map part_fault xs) (map part_fault ys) none

first_of_more : (r : Option PathFault) (more : List (Option PathFault)) → is_some r ≡ true → first_fault (r ∷ more) ≡ r
first_of_more None more some = absurd cc
first_of_more (Some fault) more some = refl

-- the first bad part of a list
pub bad_part : (parts : List (List ℕ)) (n : ℕ) (part : List ℕ) (r : Option PathFault) → (n < length parts) × (part ≡ get_or parts n part) → first_fault (map part_fault (take n parts)) ≡ None → r ≡ part_fault part → is_some r ≡ true → r ≡ parts_fault parts
bad_part parts n part r turn before is some =
    let cut : parts ≡ take n parts ++ part ∷ drop (n + 1) parts =
    sym (take-append-drop n parts) ∙ ap (λ rest. take n parts ++ rest) (drop_more parts n part turn.0 ∙ ap (λ x. x ∷ drop (n + 1) parts) (sym turn.1)) in
    let found : first_fault (map part_fault parts) ≡ r =
    ap (λ all. first_fault (map part_fault all)) cut ∙ parts_passed (take n parts) (part ∷ drop (n + 1) parts) before
    ∙ ap (λ first. first_fault (first ∷ map part_fault (drop (n + 1) parts))) (sym is) ∙ first_of_more r (map part_fault (drop (n + 1) parts)) some in
    sym (ap (λ first. first_fault (first ∷ fault_if (ltb 64 (length parts)) TooDeep ∷ [])) found ∙ first_of_more r (fault_if (ltb 64 (length parts)) TooDeep ∷ []) some)

-- where no part is bad only their number counts
pub no_bad_part : (parts : List (List ℕ)) → first_fault (map part_fault parts) ≡ None → parts_fault parts ≡ first_fault (fault_if (ltb 64 (length parts)) TooDeep ∷ [])
no_bad_part parts none = ap (λ first. first_fault (first ∷ fault_if (ltb 64 (length parts)) TooDeep ∷ [])) none

pub too_deep : (parts : List (List ℕ)) → first_fault (map part_fault parts) ≡ None → 64 < length parts → Some TooDeep ≡ parts_fault parts
too_deep parts none deep =
    let test : ltb 64 (length parts) ≡ true = grind (arith, nat_tests) in
    sym (no_bad_part parts none ∙ ap (λ t. first_fault (fault_if t TooDeep ∷ [])) test)

pub not_deep : (parts : List (List ℕ)) → first_fault (map part_fault parts) ≡ None → length parts ≤ 64 → None ≡ parts_fault parts
not_deep parts none few =
    let test : ltb 64 (length parts) ≡ false = grind (arith, nat_tests) in
    sym (no_bad_part parts none ∙ ap (λ t. first_fault (fault_if t TooDeep ∷ [])) test)

none_from_test : (r : Option PathFault) → is_some r ≡ false → r ≡ None
none_from_test None test = refl
none_from_test (Some fault) test = absurd cc

-- one part more that is not bad
pub passed_more : (parts : List (List ℕ)) (part : List ℕ) (r : Option PathFault) → first_fault (map part_fault parts) ≡ None → r ≡ part_fault part → is_some r ≡ false → first_fault (map part_fault (parts ++ part ∷ [])) ≡ None
passed_more parts part r before is test =
    parts_passed parts (part ∷ []) before ∙ ap (λ first. first_fault (first ∷ [])) (sym is ∙ none_from_test r test)

-- no fault among several is none of each
first_none : (x : Option PathFault) (xs : List (Option PathFault)) → first_fault (x ∷ xs) ≡ None → (x ≡ None) × (first_fault xs ≡ None)
first_none None xs none = (refl, none)
first_none (Some fault) xs none = absurd cc

none_first : (x : Option PathFault) (xs : List (Option PathFault)) → x ≡ None → first_fault xs ≡ None → first_fault (x ∷ xs) ≡ None
none_first None xs is none = none
none_first (Some fault) xs is none = absurd cc

test_failed : (t : Bool) (fault : PathFault) → fault_if t fault ≡ None → t ≡ false
test_failed true fault none = absurd cc
test_failed false fault none = refl

no_fault : (t : Bool) (fault : PathFault) → t ≡ false → fault_if t fault ≡ None
no_fault t fault is = ap (λ u. fault_if u fault) is

pub none_among : (v : ℕ) (xs : List ℕ) → list_any (λ b. eqb b v) xs ≡ false → All (λ b. b ≢ v) xs
none_among v xs test k d within is = both_ways (list_any (λ b. eqb b v) xs) test (list_any_at (λ b. eqb b v) xs k d within (eq-eqb (get_or xs k d) v is))

pub none_found : (v : ℕ) (xs : List ℕ) → All (λ b. b ≢ v) xs → list_any (λ b. eqb b v) xs ≡ false
none_found v xs all = list_any_none (λ b. eqb b v) xs (λ k d within. ne_eqb (get_or xs k d) v (all k d within))

or_false : (a b : Bool) → (a || b) ≡ false → (a ≡ false) × (b ≡ false)
or_false true b none = absurd cc
or_false false b none = (refl, none)

differs : (xs ys : List ℕ) → bytes_eq xs ys ≡ false → xs ≢ ys
differs xs ys test is = both_ways (bytes_eq xs ys) test ((bytes_eq-Decides xs ys).1 is)

not_equal : (xs ys : List ℕ) → xs ≢ ys → bytes_eq xs ys ≡ false
not_equal xs ys other =
    let tested : (t : Bool) → bytes_eq xs ys ≡ t → t ≡ false = elim [ true ↦ λ is. absurd (other ((bytes_eq-Decides xs ys).0 is)) | false ↦ λ _. refl ] in
    tested (bytes_eq xs ys) refl

-- a part without a slash and without a fault
pub IsPart-sound : (part : List ℕ) → All (λ b. b ≢ 47) part → part_fault part ≡ None → IsPart part
IsPart-sound part plain none =
    let empty = first_none (fault_if (eqb (length part) 0) EmptyPart) _ none in
    let dots = first_none (fault_if (bytes_eq part (codes ".") || bytes_eq part (codes "..")) DotPart) _ empty.1 in
    let long = first_none (fault_if (ltb 255 (length part)) PartTooLong) [] dots.1 in
    let filled = eqb-false (length part) 0 (test_failed (eqb (length part) 0) EmptyPart empty.0) in
    let dotted = or_false (bytes_eq part (codes ".")) (bytes_eq part (codes "..")) (test_failed (bytes_eq part (codes ".") || bytes_eq part (codes "..")) DotPart dots.0) in
    record {
      filled = omega (arith, filled);
      short = ltb-false 255 (length part) (test_failed (ltb 255 (length part)) PartTooLong long.0);
      plain = plain;
      no_dot = differs part (codes ".") dotted.0;
      no_dots = differs part (codes "..") dotted.1;
    }

pub part_fault-IsPart : (part : List ℕ) → IsPart part → part_fault part ≡ None
part_fault-IsPart part is =
    let filled : eqb (length part) 0 ≡ false = ne_eqb (length part) 0 (λ e. omega (arith, e, is.filled)) in
    let dots : (bytes_eq part (codes ".") || bytes_eq part (codes "..")) ≡ false = cc (not_equal part (codes ".") is.no_dot, not_equal part (codes "..") is.no_dots) in
    none_first (fault_if (eqb (length part) 0) EmptyPart) _ (no_fault (eqb (length part) 0) EmptyPart filled)
    (none_first (fault_if (bytes_eq part (codes ".") || bytes_eq part (codes "..")) DotPart) _ (no_fault (bytes_eq part (codes ".") || bytes_eq part (codes "..")) DotPart dots)
    (none_first (fault_if (ltb 255 (length part)) PartTooLong) [] (no_fault (ltb 255 (length part)) PartTooLong (le-ltb 255 (length part) is.short)) refl))

parts_sound : (parts : List (List ℕ)) → All (All (λ b. b ≢ 47)) parts → first_fault (map part_fault parts) ≡ None → All IsPart parts
parts_sound [] plain none = All-nil IsPart
parts_sound (part ∷ parts) plain none =
    let split = first_none (part_fault part) (map part_fault parts) none in
    All-cons IsPart part parts
    (IsPart-sound part (All-head (All (λ b. b ≢ 47)) part parts plain) split.0)
    (parts_sound parts (All-tail (All (λ b. b ≢ 47)) part parts plain) split.1)

pub no_bad_parts : (parts : List (List ℕ)) → All IsPart parts → first_fault (map part_fault parts) ≡ None
no_bad_parts [] each = refl
no_bad_parts (part ∷ parts) each =
    none_first (part_fault part) (map part_fault parts) (part_fault-IsPart part (All-head IsPart part parts each)) (no_bad_parts parts (All-tail IsPart part parts each))

-- a text without a fault is that of a path
pub IsPath-sound : (text : List ℕ) (parts : List (List ℕ)) → All (All (λ b. b ≢ 47)) parts → text_of parts ≡ text → text_fault text parts ≡ None → IsPath parts
IsPath-sound text parts plain is none =
    let rooted = first_none (fault_if (not (starts_with nat_eq text (codes "/"))) NotAbsolute) _ none in
    let long = first_none (fault_if (ltb 4096 (length text)) TooLong) _ rooted.1 in
    let zero_byte = first_none (fault_if (list_any (λ b. eqb b 0) text) NulByte) _ long.1 in
    let valid = first_none (fault_if (not (is_utf8 text)) NotUtf8) _ zero_byte.1 in
    let last = first_none (parts_fault parts) [] valid.1 in
    let bad = first_none (first_fault (map part_fault parts)) _ last.0 in
    let deep = first_none (fault_if (ltb 64 (length parts)) TooDeep) [] bad.1 in
    let utf8 : IsUtf8 text = IsUtf8-from_is_utf8 text (not-false (is_utf8 text) (test_failed (not (is_utf8 text)) NotUtf8 valid.0)) in
    record {
      each = parts_sound parts plain bad.0;
      few = ltb-false 64 (length parts) (test_failed (ltb 64 (length parts)) TooDeep deep.0);
      short = subst (λ t. length t ≤ 4096) (sym is) (ltb-false 4096 (length text) (test_failed (ltb 4096 (length text)) TooLong long.0));
      no_zero = subst (All (λ b. b ≢ 0)) (sym is) (none_among 0 text (test_failed (list_any (λ b. eqb b 0) text) NulByte zero_byte.0));
      utf8 = subst IsUtf8 (sym is) utf8;
    }

text_begins : (parts : List (List ℕ)) → (rest : List ℕ) × (text_of parts ≡ 47 ∷ rest)
text_begins [] = ([], refl)
text_begins (part ∷ parts) = (part ++ spelled parts, refl)

begins_with_slash : (parts : List (List ℕ)) → starts_with nat_eq (text_of parts) (codes "/") ≡ true
begins_with_slash [] = refl
begins_with_slash (part ∷ parts) = refl

-- the text of a path has no fault
pub no_text_fault : (parts : List (List ℕ)) → IsPath parts → text_fault (text_of parts) parts ≡ None
no_text_fault parts path =
    let text = text_of parts in
    none_first (fault_if (not (starts_with nat_eq text (codes "/"))) NotAbsolute) _ (ap (λ t. fault_if (not t) NotAbsolute) (begins_with_slash parts))
    (none_first (fault_if (ltb 4096 (length text)) TooLong) _ (no_fault (ltb 4096 (length text)) TooLong (le-ltb 4096 (length text) path.short))
    (none_first (fault_if (list_any (λ b. eqb b 0) text) NulByte) _ (no_fault (list_any (λ b. eqb b 0) text) NulByte (none_found 0 text path.no_zero))
    (none_first (fault_if (not (is_utf8 text)) NotUtf8) _ (ap (λ t. fault_if (not t) NotUtf8) (is_utf8-from_IsUtf8 text path.utf8))
    (none_first (parts_fault parts) [] (sym (not_deep parts (no_bad_parts parts path.each) path.few)) refl))))

-- a text that may be that of a path begins with a slash
slash_first : (text : List ℕ) → starts_with nat_eq text (codes "/") ≡ true → (rest : List ℕ) × (text ≡ 47 ∷ rest)
slash_first [] test = absurd cc
slash_first (b ∷ text) test =
    let both : (t : Bool) → (t && true) ≡ true → t ≡ true = elim [ true ↦ λ _. refl | false ↦ λ is. is ] in
    (text, ap (λ first. first ∷ text) (sym (eqb-true 47 b (both (eqb 47 b) test))))

-- what is read without a fault
pub read_sound : (text : List ℕ) → read_fault text ≡ None → (text ≡ text_of (parts_in text)) × IsPath (parts_in text)
unfolding read_fault
read_sound text none =
    let rooted = first_none (fault_if (not (starts_with nat_eq text (codes "/"))) NotAbsolute) _ none in
    let begins = slash_first text (not-false (starts_with nat_eq text (codes "/")) (test_failed (not (starts_with nat_eq text (codes "/"))) NotAbsolute rooted.0)) in
    let same : text ≡ text_of (parts_in text) = begins.1 ∙ sym (text_of-parts_in begins.0) ∙ ap (λ t. text_of (parts_in t)) (sym begins.1) in
    (same, IsPath-sound text (parts_in text) (parts_in_are_plain text) (sym same) none)

-- the text of a path is read
pub read_complete : (parts : List (List ℕ)) → IsPath parts → read_fault (text_of parts) ≡ None
unfolding read_fault
read_complete parts path =
    ap (λ read. text_fault (text_of parts) read) (parts_in-text_of parts path) ∙ no_text_fault parts path

utf8_decided : (bs : List ℕ) → Decides (is_utf8 bs) (IsUtf8 bs)
utf8_decided bs = (IsUtf8-from_is_utf8 bs, is_utf8-from_IsUtf8 bs)

-- behind a slash a text is valid where the rest is
is_utf8-behind : (bytes name : List ℕ) → IsUtf8 bytes → is_utf8 (bytes ++ 47 ∷ name) ≡ is_utf8 name
is_utf8-behind bytes name valid =
    let slash : IsUtf8 (47 ∷ []) = root_is_path.utf8 in
    same_from_decides (is_utf8 (bytes ++ 47 ∷ name)) (is_utf8 name)
    (Decides-like (is_utf8 (bytes ++ 47 ∷ name)) (IsUtf8-after_slash bytes name) (λ rest. IsUtf8-append bytes (47 ∷ name) valid (IsUtf8-append (47 ∷ []) name slash rest)) (utf8_decided (bytes ++ 47 ∷ name)))
    (utf8_decided name)

first_alone : (x : Option PathFault) → first_fault (x ∷ []) ≡ x
first_alone None = refl
first_alone (Some fault) = refl

-- the tests of a name that is joined, by what they depend on
abbrev nested : Option PathFault → Bool → ℕ → Bool → Bool → Option PathFault → ℕ → Option PathFault
nested slash rooted long zeros valid bad deep = first_fault (slash ∷ first_fault
    (fault_if (not rooted) NotAbsolute
    ∷ fault_if (ltb 4096 long) TooLong
    ∷ fault_if zeros NulByte
    ∷ fault_if (not valid) NotUtf8
    ∷ first_fault (bad ∷ fault_if (ltb 64 deep) TooDeep ∷ [])
    ∷ []) ∷ [])

nested_tests : (a b c d e f : Option PathFault) → first_fault (a ∷ first_fault (b ∷ c ∷ d ∷ first_fault (e ∷ f ∷ []) ∷ []) ∷ []) ≡ first_fault (a ∷ b ∷ c ∷ d ∷ e ∷ f ∷ [])
nested_tests (Some fault) b c d e f = refl
nested_tests None (Some fault) c d e f = refl
nested_tests None None (Some fault) d e f = refl
nested_tests None None None (Some fault) e f = refl
nested_tests None None None None (Some fault) f = refl
nested_tests None None None None None None = refl
nested_tests None None None None None (Some fault) = refl

flat : (slash : Option PathFault) (long : ℕ) (zeros valid : Bool) (bad : Option PathFault) (deep : ℕ) → nested slash true long zeros valid bad deep ≡ first_fault
    (slash ∷ fault_if (ltb 4096 long) TooLong ∷ fault_if zeros NulByte ∷ fault_if (not valid) NotUtf8 ∷ bad ∷ fault_if (ltb 64 deep) TooDeep ∷ [])
flat slash long zeros valid bad deep = nested_tests slash (fault_if (ltb 4096 long) TooLong) (fault_if zeros NulByte) (fault_if (not valid) NotUtf8) bad (fault_if (ltb 64 deep) TooDeep)

-- the fault of a name behind the bytes of a path
pub join_fault_is : (bytes name : List ℕ) → IsKept bytes → join_fault (parts_of bytes) name ≡ first_fault
    (fault_if (list_any (λ b. eqb b 47) name) SlashInName
    ∷ fault_if (ltb 4096 (length bytes + 1 + length name)) TooLong
    ∷ fault_if (list_any (λ b. eqb b 0) name) NulByte
    ∷ fault_if (not (is_utf8 name)) NotUtf8
    ∷ part_fault name
    ∷ fault_if (ltb 64 (length (parts_of bytes) + 1)) TooDeep
    ∷ [])
unfolding join_fault
join_fault_is bytes name kept =
    let parts = parts_of bytes in
    let joined = parts ++ name ∷ [] in
    let held = kept_bytes parts bytes kept.0 kept.1 in
    let text : spelled joined ≡ bytes ++ 47 ∷ name = spelled-push bytes name kept.0 in
    let rooted : starts_with nat_eq (spelled joined) (codes "/") ≡ true = ap (λ t. starts_with nat_eq t (codes "/")) (sym (text_of-push parts name)) ∙ begins_with_slash joined in
    let long : length (spelled joined) ≡ length bytes + 1 + length name = omega (arith, ap length text, length-append bytes (47 ∷ name)) in
    let zeros : list_any (λ b. eqb b 0) (spelled joined) ≡ list_any (λ b. eqb b 0) name =
    ap (list_any (λ b. eqb b 0)) text ∙ list_any-append (λ b. eqb b 0) bytes (47 ∷ name) ∙ ap (λ t. t || list_any (λ b. eqb b 0) name) (none_found 0 bytes held.1) in
    let valid : is_utf8 (spelled joined) ≡ is_utf8 name = ap is_utf8 text ∙ is_utf8-behind bytes name held.2 in
    let bad : first_fault (map part_fault joined) ≡ part_fault name =
    parts_passed parts (name ∷ []) (no_bad_parts parts kept.1.each) ∙ first_alone (part_fault name) in
    let deep : length joined ≡ length parts + 1 = length-append parts (name ∷ []) in
    let same : join_fault parts name ≡ nested (fault_if (list_any (λ b. eqb b 47) name) SlashInName) true (length bytes + 1 + length name) (list_any (λ b. eqb b 0) name) (is_utf8 name) (part_fault name) (length parts + 1) = cc in
    same ∙ flat (fault_if (list_any (λ b. eqb b 47) name) SlashInName) (length bytes + 1 + length name) (list_any (λ b. eqb b 0) name) (is_utf8 name) (part_fault name) (length parts + 1)

-- what is joined without a fault
pub join_sound : (bytes name : List ℕ) → IsKept bytes → join_fault (parts_of bytes) name ≡ None → IsKept (bytes ++ 47 ∷ name) × (parts_of (bytes ++ 47 ∷ name) ≡ parts_of bytes ++ name ∷ [])
unfolding join_fault
join_sound bytes name kept none =
    let joined = parts_of bytes ++ name ∷ [] in
    let slash = first_none (fault_if (list_any (λ b. eqb b 47) name) SlashInName) _ none in
    let rest = first_none (text_fault (spelled joined) joined) [] slash.1 in
    let plain = none_among 47 name (test_failed (list_any (λ b. eqb b 47) name) SlashInName slash.0) in
    let all_plain : All (All (λ b. b ≢ 47)) joined = All-push (All (λ b. b ≢ 47)) (parts_of bytes) name (parts_are_plain bytes) plain in
    let path : IsPath joined = IsPath-sound (spelled joined) joined all_plain (text_of-push (parts_of bytes) name) rest.0 in
    let parts : parts_of (bytes ++ 47 ∷ name) ≡ joined = parts_of-push bytes name plain in
    ((ap spelled parts ∙ spelled-push bytes name kept.0, subst IsPath (sym parts) path), parts)

pub long_parts_in : (text : List ℕ) → length text ≢ 1 → parts_in text ≡ parts_of text
long_parts_in text long =
    ap (λ t. cond t [] (parts_of text)) (not_equal text (codes "/") (λ is. long (ap length is)))

-- what is read without a fault and isn't the root is kept as it is
pub read_kept : (text : List ℕ) → read_fault text ≡ None → length text ≢ 1 → IsKept text × (text ≡ text_of (parts_of text))
read_kept text none long =
    let sound = read_sound text none in
    let parts = long_parts_in text long in
    let begins = text_begins (parts_in text) in
    let same : text ≡ 47 ∷ begins.0 = sound.0 ∙ begins.1 in
    let spelling : spelled (parts_of text) ≡ text = ap (λ t. spelled (parts_of t)) same ∙ spelled-parts_of begins.0 ∙ sym same in
    ((spelling, subst IsPath parts sound.1), sound.0 ∙ ap text_of parts)

-- a text is of no other path
pub read_only : (text : List ℕ) (parts : List (List ℕ)) → IsPath parts → text ≡ text_of parts → (read_fault text ≡ None) × (parts_in text ≡ parts)
read_only text parts path is =
    (ap read_fault is ∙ read_complete parts path, ap parts_in is ∙ parts_in-text_of parts path)

-- the one text of one byte
pub read_root : (text : List ℕ) → read_fault text ≡ None → length text ≡ 1 → text ≡ text_of []
read_root text none one =
    let sound = read_sound text none in
    let begins = text_begins (parts_in text) in
    let same : text ≡ 47 ∷ begins.0 = sound.0 ∙ begins.1 in
    let short : length begins.0 ≡ 0 = omega (arith, ap length same) in
    same ∙ ap (λ rest. 47 ∷ rest) (nil_from_length begins.0 short)
