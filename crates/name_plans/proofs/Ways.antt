-- The way to a path: its ancestors, the first file among them, and those that are missing.
use Rattle.std.proofs.Common.{◌≡◌, ◌≢◌, ◌⊎◌, ℕ, suc, ◌+◌, ◌<◌, ◌≤◌, Bool, true, false, cond, List, [], ◌∷◌, ◌++◌, length, take, drop, get_or, Option, Some, None, refl, sym, ap, ◌∙◌, subst, inl, inr, arith, length-append, append_assoc, append-nil, drop-cons}
use Rattle.std.specs.Option.{option_or}
use Rattle.std.specs.Prelude.{◌&&◌, IfSome, is_none, is_some}
use Rattle.std.specs.FinMap.{get}
use Rattle.std.proofs.Math.Seq.{take-suc}
use Rattle.std.proofs.lemmas.Bool.{cases_Bool, false≢true}
use Rattle.std.proofs.lemmas.List.{take-append-drop, drop_all, take_all, map-append}
use Rattle.std.proofs.lemmas.List.Elements.{filter-append}
use Rattle.std.proofs.lemmas.List.Folds.{find-append}
use Rattle.entry.specs.declared.entry.Entry.{Entry}
use Rattle.entry.specs.Entry.{is_file_kind, IsValid}
use Rattle.name_core.specs.declared.change.Change.{Change}
use Rattle.name_core.specs.declared.change.Change.TheVariants.{Put, Drop}
use Rattle.name_core.specs.Namespace.{Namespace, step, is_within, after_changes}
use Rattle.name_core.specs.Plan.{new_directory, prefixes_from, prefixes, is_file, first_file, missing, puts}
use Rattle.name_core.specs.RecordText.{directory_of, name_of}
use Rattle.records.proofs.PathTexts.{directory_and_name}
use Rattle.name_core.proofs.Paths.{filled-append}
use Rattle.name_plans.specs.Makeable.{AreMakeable}
use Rattle.name_plans.specs.Placing.{drop_of, cleared, has_already, replacing, way_made}
use Rattle.name_plans.specs.Writing.{is_directory}
use Rattle.name_plans.proofs.Makes.{makeable-append, none_makeable, one_makeable, new_directory_valid}
use Rattle.name_plans.proofs.Within.{split_within, join_within}
use Rattle.name_plans.proofs.Drops.{gone, stays, below_within}

-- The prefixes of more parts behind others
pub prefixes_from-append : (top a b : List (List ℕ)) → prefixes_from top (a ++ b) ≡ prefixes_from top a ++ prefixes_from (top ++ a) b
prefixes_from-append top [] b = ap (λ t. prefixes_from t b) (sym (append-nil top))
prefixes_from-append top (x ∷ a) b =
    ap (λ l. (top ++ x ∷ []) ∷ l) (prefixes_from-append (top ++ x ∷ []) a b ∙ ap (λ t. prefixes_from (top ++ x ∷ []) a ++ prefixes_from t b) (append_assoc top (x ∷ []) a))

-- A shorter path isn't within a longer one.
pub shorter_is_outside : (top path : List (List ℕ)) → length path < length top → is_within top path ≡ false
shorter_is_outside top path short =
    elim (cases_Bool (is_within top path)) [
      | inl within ↦
          let split : length path ≡ length (top ++ drop (length top) path) = ap length (split_within top path within) in
          absurd (omega (arith, length-append top (drop (length top) path)))
      | inr outside ↦ outside
    ]

-- A drop leaves what is missing of shorter paths.
missing_above : (file : List (List ℕ)) (names : Namespace) (top a : List (List ℕ)) → length top + length a < length file
    → missing (step (Drop file) names) (prefixes_from top a) ≡ missing names (prefixes_from top a)
missing_above file names top [] short = refl
missing_above file names top (x ∷ a) short =
    let path : List (List ℕ) = top ++ x ∷ [] in
    let long : length path ≡ length top + 1 = length-append top (x ∷ []) in
    ap (λ o. cond (is_none o) (path ∷ missing (step (Drop file) names) (prefixes_from path a)) (missing (step (Drop file) names) (prefixes_from path a)))
    (stays file path names (shorter_is_outside file path (omega arith)))
    ∙ ap (λ l. cond (is_none (get names path)) (path ∷ l) l) (missing_above file names path a (omega arith))

-- After a drop all within its path is missing.
missing_within : (file : List (List ℕ)) (names : Namespace) (top a : List (List ℕ)) → is_within file top ≡ true
    → missing (step (Drop file) names) (prefixes_from top a) ≡ prefixes_from top a
missing_within file names top [] within = refl
missing_within file names top (x ∷ a) within =
    let path : List (List ℕ) = top ++ x ∷ [] in
    ap (λ o. cond (is_none o) (path ∷ missing (step (Drop file) names) (prefixes_from path a)) (missing (step (Drop file) names) (prefixes_from path a)))
    (gone file path names (below_within file top x within))
    ∙ ap (λ l. path ∷ l) (missing_within file names path a (below_within file top x within))

pub itself_within : (path : List (List ℕ)) → is_within path path ≡ true
itself_within path = subst (λ p. is_within path p ≡ true) (append-nil path) (join_within path [])

-- A file at a front of a path, with no file above it
module _ (names : Namespace) (a : List (List ℕ)) (part : List ℕ) (rest : List (List ℕ)) where
  abbrev file : List (List ℕ)
  file = a ++ part ∷ []

  fronts : prefixes (a ++ part ∷ rest) ≡ prefixes a ++ file ∷ prefixes_from file rest
  fronts = prefixes_from-append [] a (part ∷ rest)

  pub blocked_file : first_file names (prefixes a) ≡ None → is_file (get names (a ++ part ∷ [])) ≡ true
      → first_file names (prefixes (a ++ part ∷ rest)) ≡ Some (a ++ part ∷ [])
  blocked_file clear is =
      ap (first_file names) fronts ∙ find-append _ (prefixes a) (file ∷ prefixes_from file rest)
      ∙ ap (λ o. option_or o (cond (is_file (get names file)) (Some file) (first_file names (prefixes_from file rest)))) clear
      ∙ ap (λ b. cond b (Some file) (first_file names (prefixes_from file rest))) is

  pub blocked_missing : missing (step (Drop (a ++ part ∷ [])) names) (prefixes (a ++ part ∷ rest)) ≡ missing names (prefixes a) ++ prefixes_from a (part ∷ rest)
  blocked_missing =
      let long : length file ≡ length a + 1 = length-append a (part ∷ []) in
      ap (missing (step (Drop file) names)) fronts ∙ filter-append _ (prefixes a) (file ∷ prefixes_from file rest)
      ∙ ap (λ l. l ++ missing (step (Drop file) names) (file ∷ prefixes_from file rest)) (missing_above file names [] a (omega arith))
      ∙ ap (λ o. missing names (prefixes a) ++ cond (is_none o) (file ∷ missing (step (Drop file) names) (prefixes_from file rest)) (missing (step (Drop file) names) (prefixes_from file rest)))
      (gone file file names (itself_within file))
      ∙ ap (λ l. missing names (prefixes a) ++ file ∷ l) (missing_within file names file rest (itself_within file))

-- The first file among a path's fronts is one of them: no file is above it.
pub record Splits (names : Namespace) (top parts file : List (List ℕ)) : Type 0 where
  pub a : List (List ℕ)
  pub part : List ℕ
  pub rest : List (List ℕ)
  pub is : parts ≡ a ++ part ∷ rest
  pub file_is : file ≡ top ++ (a ++ part ∷ [])
  pub clear : first_file names (prefixes_from top a) ≡ None
  pub found : is_file (get names file) ≡ true

some_same : (x y : List (List ℕ)) → Some x ≡ Some y → x ≡ y
some_same x y e = cc

pub first_splits : (names : Namespace) (top parts file : List (List ℕ)) → first_file names (prefixes_from top parts) ≡ Some file → Splits names top parts file
first_splits names top [] file is = cc
first_splits names top (x ∷ parts) file is =
    let path : List (List ℕ) = top ++ x ∷ [] in
    elim (cases_Bool (is_file (get names path))) [
      | inl yes_file ↦
          let same : path ≡ file = some_same path file (sym (ap (λ b. cond b (Some path) (first_file names (prefixes_from path parts))) yes_file) ∙ is) in record {
            a = [];
            part = x;
            rest = parts;
            is = refl;
            file_is = sym same;
            clear = refl;
            found = subst (λ p. is_file (get names p) ≡ true) same yes_file;
          }
      | inr not_file ↦
          let later : Splits names path parts file = first_splits names path parts file (sym (ap (λ b. cond b (Some path) (first_file names (prefixes_from path parts))) not_file) ∙ is) in record {
            a = x ∷ later.a;
            part = later.part;
            rest = later.rest;
            is = ap (λ l. x ∷ l) later.is;
            file_is = later.file_is ∙ append_assoc top (x ∷ []) (later.a ++ later.part ∷ []);
            clear = ap (λ b. cond b (Some path) (first_file names (prefixes_from path later.a))) not_file ∙ later.clear;
            found = later.found;
          }
    ]

-- Below a file that is dropped nothing is left.
pub first_within : (names : Namespace) (parts file : List (List ℕ)) → first_file names (prefixes parts) ≡ Some file → is_within file parts ≡ true
first_within names parts file is =
    let split : Splits names [] parts file = first_splits names [] parts file is in
    let whole : parts ≡ file ++ split.rest =
    split.is ∙ sym (append_assoc split.a (split.part ∷ []) split.rest) ∙ ap (λ f. f ++ split.rest) (sym split.file_is) in
    subst (λ p. is_within file p ≡ true) (sym whole) (join_within file split.rest)

some_or_none : (o : Option (List (List ℕ))) → (o ≡ None) ⊎ ((file : List (List ℕ)) × (o ≡ Some file))
some_or_none None = inl refl
some_or_none (Some file) = inr (file, refl)

pub cleared_gone : (names : Namespace) (path : List (List ℕ)) → true ≡ is_some (first_file names (prefixes (directory_of path))) → None ≡ get (cleared names (directory_of path)) path
cleared_gone names [] is = absurd (false≢true (sym is))
cleared_gone names (x ∷ xs) is =
    elim (some_or_none (first_file names (prefixes (directory_of (x ∷ xs))))) [
      | inl none ↦ absurd (false≢true (sym (is ∙ ap is_some none)))
      | inr (file, some) ↦
          let path : List (List ℕ) = x ∷ xs in
          let within : is_within file path ≡ true =
          subst (λ p. is_within file p ≡ true) (sym (directory_and_name path (λ none. cc)))
          (below_within file (directory_of path) (name_of path) (first_within names (directory_of path) file some)) in
          sym (ap (λ f. get (after_changes (drop_of f) names) (x ∷ xs)) some ∙ gone file (x ∷ xs) names within)
    ]

pub cleared_same : (names : Namespace) (directory : List (List ℕ)) → false ≡ is_some (first_file names (prefixes directory)) → cleared names directory ≡ names
cleared_same names directory is =
    elim (some_or_none (first_file names (prefixes directory))) [
      | inl none ↦ ap (λ f. after_changes (drop_of f) names) none
      | inr (_, some) ↦ absurd (false≢true (is ∙ ap is_some some))
    ]

pub there_cleared : (told : Option Namespace) (clears : Bool) (path : List (List ℕ)) → clears ≡ true
    → IfSome told (λ names. clears ≡ is_some (first_file names (prefixes (directory_of path))) → None ≡ get (cleared names (directory_of path)) path)
there_cleared None clears path yes_clears = tt
there_cleared (Some names) clears path yes_clears = λ is. cleared_gone names path (sym yes_clears ∙ is)

pub there_found : (told : Option Namespace) (clears : Bool) (path : List (List ℕ)) (there : Option Entry) → clears ≡ false
    → IfSome told (λ names. there ≡ get names path)
    → IfSome told (λ names. clears ≡ is_some (first_file names (prefixes (directory_of path))) → there ≡ get (cleared names (directory_of path)) path)
there_found None clears path there not_clears found = tt
there_found (Some names) clears path there not_clears found = λ is. found ∙ ap (λ n. get n path) (sym (cleared_same names (directory_of path) (sym not_clears ∙ is)))

-- The fronts of a path so far: new directories at those that are missing, and no file.
pub record MakesFront (told : Option Namespace) (time : ℕ) (directory : List (List ℕ)) (depth : ℕ) (changes : List Change) : Type 0 where
  pub makeable : AreMakeable changes
  pub made : IfSome told (λ names. (changes ≡ puts time (missing names (prefixes (take depth directory)))) × (first_file names (prefixes (take depth directory)) ≡ None))

next_is : (path : List (List ℕ)) (depth : ℕ) → depth < length path → take (depth + 1) path ≡ take depth path ++ get_or path depth [] ∷ []
next_is path depth low = let next : depth + 1 ≡ suc depth = omega arith in ap (λ n. take n path) next ∙ take-suc path depth [] low

next_prefixes : (path : List (List ℕ)) (depth : ℕ) → depth < length path → prefixes (take (depth + 1) path) ≡ prefixes (take depth path) ++ take (depth + 1) path ∷ []
next_prefixes path depth low =
    ap prefixes (next_is path depth low) ∙ prefixes_from-append [] (take depth path) (get_or path depth [] ∷ [])
    ∙ ap (λ p. prefixes (take depth path) ++ p ∷ []) (sym (next_is path depth low))

rest_is : (path : List (List ℕ)) (depth : ℕ) → depth < length path → path ≡ take depth path ++ get_or path depth [] ∷ drop (suc depth) path
rest_is path depth low = sym (take-append-drop depth path) ∙ ap (λ rest. take depth path ++ rest) (drop-cons path depth [] low)

front_filled : (path : List (List ℕ)) (depth : ℕ) → depth < length path → take (depth + 1) path ≢ []
front_filled path depth low none = filled-append (take depth path) (get_or path depth []) (sym (next_is path depth low) ∙ none)

no_file_more : (names : Namespace) (paths : List (List (List ℕ))) (path : List (List ℕ)) → first_file names paths ≡ None → is_file (get names path) ≡ false → first_file names (paths ++ path ∷ []) ≡ None
no_file_more names paths path clear is =
    find-append _ paths (path ∷ []) ∙ ap (λ o. option_or o (cond (is_file (get names path)) (Some path) None)) clear ∙ ap (λ b. cond b (Some path) None) is

-- A new directory at a front of a path
new_makeable : (time : ℕ) (path : List (List ℕ)) → path ≢ [] → AreMakeable (Put path (new_directory time) ∷ [])
new_makeable time path filled = one_makeable (Put path (new_directory time)) filled (new_directory_valid time)

pub fronts_begin : (told : Option Namespace) (time : ℕ) (directory : List (List ℕ)) → MakesFront told time directory 0 []
fronts_begin None time directory = record { makeable = none_makeable; made = tt }
fronts_begin (Some names) time directory = record { makeable = none_makeable; made = (refl, refl) }

pub front_missing : (told : Option Namespace) (time : ℕ) (directory : List (List ℕ)) (depth : ℕ) (changes : List Change) → depth < length directory
    → MakesFront told time directory depth changes → IfSome told (λ names. None ≡ get names (take (depth + 1) directory))
    → MakesFront told time directory (depth + 1) (changes ++ Put (take (depth + 1) directory) (new_directory time) ∷ [])
front_missing None time directory depth changes low front found = record {
  makeable = makeable-append changes _ front.makeable (new_makeable time (take (depth + 1) directory) (front_filled directory depth low));
  made = tt;
}
front_missing (Some names) time directory depth changes low front found =
    let path : List (List ℕ) = take (depth + 1) directory in
    let before : List (List (List ℕ)) = prefixes (take depth directory) in record {
      makeable = makeable-append changes _ front.makeable (new_makeable time path (front_filled directory depth low));
      made = (
        sym (ap (λ l. puts time (missing names l)) (next_prefixes directory depth low)
            ∙ ap (puts time) (filter-append _ before (path ∷ []) ∙ ap (λ o. missing names before ++ cond (is_none o) (path ∷ []) []) (sym found))
            ∙ map-append _ (missing names before) (path ∷ [])
            ∙ ap (λ l. l ++ Put path (new_directory time) ∷ []) (sym front.made.0)),
        ap (first_file names) (next_prefixes directory depth low) ∙ no_file_more names before path front.made.1 (ap is_file (sym found)),
      );
    }

pub front_directory : (told : Option Namespace) (time : ℕ) (directory : List (List ℕ)) (depth : ℕ) (changes : List Change) (entry : Entry) → depth < length directory
    → MakesFront told time directory depth changes → IfSome told (λ names. Some entry ≡ get names (take (depth + 1) directory)) → is_file_kind entry.kind ≡ false
    → MakesFront told time directory (depth + 1) changes
front_directory None time directory depth changes entry low front found kind = record { makeable = front.makeable; made = tt }
front_directory (Some names) time directory depth changes entry low front found kind =
    let path : List (List ℕ) = take (depth + 1) directory in
    let before : List (List (List ℕ)) = prefixes (take depth directory) in record {
      makeable = front.makeable;
      made = (
        front.made.0 ∙ ap (puts time) (sym (append-nil (missing names before))
            ∙ ap (λ o. missing names before ++ cond (is_none o) (path ∷ []) []) found
            ∙ sym (filter-append _ before (path ∷ []))
            ∙ sym (ap (missing names) (next_prefixes directory depth low))),
        ap (first_file names) (next_prefixes directory depth low) ∙ no_file_more names before path front.made.1 (ap is_file (sym found) ∙ kind),
      );
    }

-- The way made so, where no front is a file
clear_way : (names : Namespace) (time : ℕ) (directory : List (List ℕ)) → first_file names (prefixes directory) ≡ None
    → way_made names time directory ≡ puts time (missing names (prefixes directory))
clear_way names time directory clear =
    ap (λ file. drop_of file ++ puts time (missing (after_changes (drop_of file) names) (prefixes directory))) clear

pub front_ends : (told : Option Namespace) (time : ℕ) (directory : List (List ℕ)) (depth : ℕ) (changes : List Change) → length directory ≤ depth
    → MakesFront told time directory depth changes
    → IfSome told (λ names. (changes ≡ way_made names time directory) × (false ≡ is_some (first_file names (prefixes directory))))
front_ends None time directory depth changes all front = tt
front_ends (Some names) time directory depth changes all front =
    let whole : take depth directory ≡ directory = take_all depth directory all in
    let clear : first_file names (prefixes directory) ≡ None = ap (λ d. first_file names (prefixes d)) (sym whole) ∙ front.made.1 in (
      front.made.0 ∙ ap (λ d. puts time (missing names (prefixes d))) whole ∙ sym (clear_way names time directory clear),
      sym (ap is_some clear),
    )

-- The way past a file
pub front_blocked : (told : Option Namespace) (time : ℕ) (directory : List (List ℕ)) (depth : ℕ) (changes : List Change) (entry : Entry) → depth < length directory
    → MakesFront told time directory depth changes → IfSome told (λ names. Some entry ≡ get names (take (depth + 1) directory)) → is_file_kind entry.kind ≡ true
    → IfSome told (λ names. (Drop (take (depth + 1) directory) ∷ changes ++ puts time (prefixes_from (take depth directory) (drop depth directory)) ≡ way_made names time directory)
    × (true ≡ is_some (first_file names (prefixes directory))))
front_blocked None time directory depth changes entry low front found kind = tt
front_blocked (Some names) time directory depth changes entry low front found kind =
    let a : List (List ℕ) = take depth directory in
    let part : List ℕ = get_or directory depth [] in
    let rest : List (List ℕ) = drop (suc depth) directory in
    let file_is : take (depth + 1) directory ≡ a ++ part ∷ [] = next_is directory depth low in
    let whole : directory ≡ a ++ part ∷ rest = rest_is directory depth low in
    let there : is_file (get names (a ++ part ∷ [])) ≡ true = ap (λ p. is_file (get names p)) (sym file_is) ∙ ap is_file (sym found) ∙ kind in
    let first : first_file names (prefixes directory) ≡ Some (a ++ part ∷ []) =
    ap (λ d. first_file names (prefixes d)) whole ∙ blocked_file names a part rest front.made.1 there in (
      ap (λ p. Drop p ∷ changes ++ puts time (prefixes_from a (drop depth directory))) file_is
          ∙ ap (λ l. Drop (a ++ part ∷ []) ∷ changes ++ puts time (prefixes_from a l)) (drop-cons directory depth [] low)
          ∙ ap (λ l. Drop (a ++ part ∷ []) ∷ l ++ puts time (prefixes_from a (part ∷ rest))) front.made.0
          ∙ ap (λ l. Drop (a ++ part ∷ []) ∷ l)
          (sym (map-append _ (missing names (prefixes a)) (prefixes_from a (part ∷ rest))) ∙ ap (puts time) (sym (blocked_missing names a part rest)))
          ∙ ap (λ d. Drop (a ++ part ∷ []) ∷ puts time (missing (step (Drop (a ++ part ∷ [])) names) (prefixes d))) (sym whole)
          ∙ sym (ap (λ file. drop_of file ++ puts time (missing (after_changes (drop_of file) names) (prefixes directory))) first),
      sym (ap is_some first),
    )

-- New directories at all fronts of a path past some
pub fronts_next : (time : ℕ) (path : List (List ℕ)) (depth : ℕ) → depth < length path
    → puts time (prefixes_from (take depth path) (drop depth path)) ≡ Put (take (depth + 1) path) (new_directory time) ∷ puts time (prefixes_from (take (depth + 1) path) (drop (depth + 1) path))
fronts_next time path depth low =
    ap (λ l. puts time (prefixes_from (take depth path) l)) (drop-cons path depth [] low)
    ∙ ap (λ p. Put p (new_directory time) ∷ puts time (prefixes_from p (drop (suc depth) path))) (sym (next_is path depth low))
    ∙ (let next : suc depth ≡ depth + 1 = omega arith in ap (λ n. Put (take (depth + 1) path) (new_directory time) ∷ puts time (prefixes_from (take (depth + 1) path) (drop n path))) next)

pub fronts_end : (time : ℕ) (path : List (List ℕ)) (depth : ℕ) → length path ≤ depth → puts time (prefixes_from (take depth path) (drop depth path)) ≡ []
fronts_end time path depth all = ap (λ l. puts time (prefixes_from (take depth path) l)) (drop_all depth path all)

fronts_makeable : (time : ℕ) (top parts : List (List ℕ)) → AreMakeable (puts time (prefixes_from top parts))
fronts_makeable time top [] = none_makeable
fronts_makeable time top (part ∷ parts) =
    makeable-append (Put (top ++ part ∷ []) (new_directory time) ∷ []) (puts time (prefixes_from (top ++ part ∷ []) parts))
    (new_makeable time (top ++ part ∷ []) (filled-append top part)) (fronts_makeable time (top ++ part ∷ []) parts)

-- A drop of a file, changes above it, and new directories from it on
pub past_makeable : (time : ℕ) (file : List (List ℕ)) (above : List Change) (top parts : List (List ℕ)) (made : List Change) → file ≢ [] → AreMakeable above
    → made ≡ Drop file ∷ above ++ puts time (prefixes_from top parts) → AreMakeable made
past_makeable time file above top parts made filled had is =
    subst AreMakeable (sym is) (makeable-append (Drop file ∷ []) (above ++ puts time (prefixes_from top parts)) (one_makeable (Drop file) filled tt)
    (makeable-append above (puts time (prefixes_from top parts)) had (fronts_makeable time top parts)))

-- One front more is put
pub fronts_pushed : (time : ℕ) (path : List (List ℕ)) (depth : ℕ) (all old now : List Change) (front : List (List ℕ)) (entry : Entry) → depth < length path
    → front ≡ take (depth + 1) path → entry ≡ new_directory time → now ≡ old ++ Put front entry ∷ []
    → all ≡ old ++ puts time (prefixes_from (take depth path) (drop depth path))
    → all ≡ now ++ puts time (prefixes_from (take (depth + 1) path) (drop (depth + 1) path))
fronts_pushed time path depth all old now front entry low front_is entry_is pushed had =
    let later : List Change = puts time (prefixes_from (take (depth + 1) path) (drop (depth + 1) path)) in
    had ∙ ap (λ l. old ++ l) (fronts_next time path depth low)
    ∙ sym (append_assoc old (Put (take (depth + 1) path) (new_directory time) ∷ []) later)
    ∙ ap (λ p. (old ++ Put p (new_directory time) ∷ []) ++ later) (sym front_is)
    ∙ ap (λ e. (old ++ Put front e ∷ []) ++ later) (sym entry_is)
    ∙ ap (λ l. l ++ later) (sym pushed)

-- The same of the changes as they stand after the push
pub front_pushed : (told : Option Namespace) (time : ℕ) (directory : List (List ℕ)) (depth : ℕ) (changes pushed items : List Change) (front : List (List ℕ)) (entry : Entry) → depth < length directory
    → MakesFront told time directory depth changes → IfSome told (λ names. None ≡ get names (take (depth + 1) directory))
    → items ≡ pushed → pushed ≡ changes ++ Put front entry ∷ [] → front ≡ take (depth + 1) directory → entry ≡ new_directory time
    → MakesFront told time directory (depth + 1) items
front_pushed told time directory depth changes pushed items front entry low made found same push front_is entry_is =
    let all : items ≡ changes ++ Put (take (depth + 1) directory) (new_directory time) ∷ [] =
    same ∙ push ∙ ap (λ e. changes ++ Put front e ∷ []) entry_is ∙ ap (λ p. changes ++ Put p (new_directory time) ∷ []) front_is in
    subst (MakesFront told time directory (depth + 1)) (sym all) (front_missing told time directory depth changes low made found)

-- What is placed may stand in a record.
replaced_makeable : (path : List (List ℕ)) (entry : Entry) → path ≢ [] → IsValid entry → (drops has : Bool)
    → AreMakeable (cond drops (Drop path ∷ []) [] ++ cond has [] (Put path entry ∷ []))
replaced_makeable path entry filled valid true true = one_makeable (Drop path) filled tt
replaced_makeable path entry filled valid true false = makeable-append (Drop path ∷ []) (Put path entry ∷ []) (one_makeable (Drop path) filled tt) (one_makeable (Put path entry) filled valid)
replaced_makeable path entry filled valid false true = none_makeable
replaced_makeable path entry filled valid false false = one_makeable (Put path entry) filled valid

pub placed_makeable : (way made : List Change) (path : List (List ℕ)) (there : Option Entry) (entry : Entry) → length path ≢ 0 → IsValid entry → AreMakeable way
    → made ≡ way ++ replacing path there entry → AreMakeable made
placed_makeable way made path there entry filled valid had is =
    subst AreMakeable (sym is) (makeable-append way (replacing path there entry) had
    (replaced_makeable path entry (λ none. filled (ap length none)) valid (is_directory there && is_file_kind entry.kind) (has_already there entry)))

pub told_changes : (told : Option Namespace) (time : ℕ) (directory : List (List ℕ)) (wanted made : List Change) → made ≡ wanted
    → IfSome told (λ names. (wanted ≡ way_made names time directory) × (true ≡ is_some (first_file names (prefixes directory))))
    → IfSome told (λ names. made ≡ way_made names time directory)
told_changes None time directory wanted made is both = tt
told_changes (Some names) time directory wanted made is both = is ∙ both.0

pub told_clears : (told : Option Namespace) (time : ℕ) (directory : List (List ℕ)) (wanted : List Change) (clears : Bool) → clears ≡ true
    → IfSome told (λ names. (wanted ≡ way_made names time directory) × (true ≡ is_some (first_file names (prefixes directory))))
    → IfSome told (λ names. clears ≡ is_some (first_file names (prefixes directory)))
told_clears None time directory wanted clears is both = tt
told_clears (Some names) time directory wanted clears is both = is ∙ both.1
