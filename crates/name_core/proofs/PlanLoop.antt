-- The plan of new directories, one prefix after another.
use Rattle.std.proofs.Common.{◌≡◌, ℕ, suc, ◌+◌, ◌<◌, ◌≤◌, true, false, cond, List, [], ◌∷◌, ◌++◌, length, take, drop, get_or, Some, None, Ok, Err, Option, Result, refl, sym, ap, ◌∙◌, subst, arith, length-append, append_assoc, drop-cons, add-one}
use Rattle.std.specs.Prelude.{IfSome, All, is_none}
use Rattle.std.specs.FinMap.{get}
use Rattle.std.proofs.Math.Seq.{take-suc}
use Rattle.std.proofs.lemmas.List.{take-append-drop, length-take-le}
use Rattle.std.proofs.lemmas.List.Elements.{All-nil, All-push}
use Rattle.weed_base.specs.Path.{IsPath}
use Rattle.weed_base.proofs.PathLemmas.{IsPath-front}
use Rattle.entry.specs.declared.entry.Entry.{Entry}
use Rattle.name_core.specs.declared.change.Change.{Change}
use Rattle.name_core.specs.declared.change.Change.TheVariants.{Put}
use Rattle.name_core.specs.declared.command.Refusal.{Refusal}
use Rattle.name_core.specs.declared.command.Refusal.TheVariants.{IsFile}
use Rattle.entry.specs.Entry.{is_file_kind}
use Rattle.name_core.specs.Plan.{new_directory, prefixes_from, prefixes, is_file, first_file, missing, puts, unless_file, directories_at, IsNewDirectory}
use Rattle.name_core.specs.Namespace.{Namespace}

-- Changes in front of further ones
abbrev pub with_front : List Change → Result (List Change) Refusal → Result (List Change) Refusal
with_front changes (Ok more) = Ok (changes ++ more)
with_front changes (Err refusal) = Err refusal

-- What is planned of a path's first parts; with the plan of the rest behind it, it is the plan of the path.
pub record PlansFront (told : Option Namespace) (time : ℕ) (path : List (List ℕ)) (depth : ℕ) (changes : List Change) : Type 0 where
  pub each : All (IsNewDirectory time) changes
  pub few : length changes ≤ depth
  pub planned : IfSome told (λ names. directories_at names time (prefixes path) ≡ with_front changes (directories_at names time (prefixes_from (take depth path) (drop depth path))))

with_front_none : (r : Result (List Change) Refusal) → r ≡ with_front [] r
with_front_none (Ok more) = refl
with_front_none (Err refusal) = refl

with_front-more : (changes : List Change) (change : Change) (file : Option (List (List ℕ))) (more : List Change) → with_front changes (unless_file file (change ∷ more)) ≡ with_front (changes ++ change ∷ []) (unless_file file more)
with_front-more changes change None more = ap Ok (sym (append_assoc changes (change ∷ []) more))
with_front-more changes change (Some file) more = refl

-- The next prefix, and those behind it
next_prefix : (path : List (List ℕ)) (depth : ℕ) → depth < length path → prefixes_from (take depth path) (drop depth path) ≡ take (depth + 1) path ∷ prefixes_from (take (depth + 1) path) (drop (depth + 1) path)
next_prefix path depth low =
    let rest : drop depth path ≡ get_or path depth [] ∷ drop (suc depth) path = drop-cons path depth [] low in
    let next : take (suc depth) path ≡ take depth path ++ get_or path depth [] ∷ [] = take-suc path depth [] low in
    rw add-one (ap (prefixes_from (take depth path)) rest ∙ ap (λ top. top ∷ prefixes_from top (drop (suc depth) path)) (sym next))

-- What the next prefix adds to the plan, by what stands there
pub planned_missing : (names : Namespace) (time : ℕ) (path : List (List ℕ)) (later : List (List (List ℕ))) (changes : List Change) → None ≡ get names path → with_front changes (directories_at names time (path ∷ later)) ≡ with_front (changes ++ Put path (new_directory time) ∷ []) (directories_at names time later)
planned_missing names time path later changes is =
    subst (λ found. with_front changes (unless_file (cond (is_file found) (Some path) (first_file names later)) (puts time (cond (is_none found) (path ∷ missing names later) (missing names later)))) ≡ with_front (changes ++ Put path (new_directory time) ∷ []) (directories_at names time later)) is
    (with_front-more changes (Put path (new_directory time)) (first_file names later) (puts time (missing names later)))

planned_entry : (names : Namespace) (time : ℕ) (path : List (List ℕ)) (later : List (List (List ℕ))) (entry : Entry) → Some entry ≡ get names path → directories_at names time (path ∷ later) ≡ unless_file (cond (is_file_kind entry.kind) (Some path) (first_file names later)) (puts time (missing names later))
planned_entry names time path later entry is =
    subst (λ found. unless_file (cond (is_file found) (Some path) (first_file names later)) (puts time (cond (is_none found) (path ∷ missing names later) (missing names later))) ≡ unless_file (cond (is_file_kind entry.kind) (Some path) (first_file names later)) (puts time (missing names later))) is refl

pub planned_directory : (names : Namespace) (time : ℕ) (path : List (List ℕ)) (later : List (List (List ℕ))) (entry : Entry) → Some entry ≡ get names path → is_file_kind entry.kind ≡ false → directories_at names time (path ∷ later) ≡ directories_at names time later
planned_directory names time path later entry is kind =
    planned_entry names time path later entry is ∙ ap (λ b. unless_file (cond b (Some path) (first_file names later)) (puts time (missing names later))) kind

pub planned_file : (names : Namespace) (time : ℕ) (path : List (List ℕ)) (later : List (List (List ℕ))) (entry : Entry) → Some entry ≡ get names path → is_file_kind entry.kind ≡ true → directories_at names time (path ∷ later) ≡ Err (IsFile path)
planned_file names time path later entry is kind =
    planned_entry names time path later entry is ∙ ap (λ b. unless_file (cond b (Some path) (first_file names later)) (puts time (missing names later))) kind

-- The loop: it begins with nothing planned
pub front_none : (told : Option Namespace) (time : ℕ) (path : List (List ℕ)) → PlansFront told time path 0 []
front_none None time path = record { each = All-nil _; few = omega arith; planned = tt }
front_none (Some names) time path = record { each = All-nil _; few = omega arith; planned = with_front_none (directories_at names time (prefixes path)) }

-- A new directory at a prefix of a path
prefix_is_new : (time : ℕ) (path : List (List ℕ)) (depth : ℕ) → IsPath path → depth < length path → IsNewDirectory time (Put (take (depth + 1) path) (new_directory time))
prefix_is_new time path depth is low =
    let long : length (take (depth + 1) path) ≡ depth + 1 = length-take-le (depth + 1) path (omega arith) in (
      IsPath-front (take (depth + 1) path) (drop (depth + 1) path) (subst IsPath (sym (take-append-drop (depth + 1) path)) is),
      (λ e. let none : length (take (depth + 1) path) ≡ 0 = ap length e in omega arith),
      refl,
    )

with_next : (names : Namespace) (time : ℕ) (path : List (List ℕ)) (depth : ℕ) (changes : List Change) → depth < length path → with_front changes (directories_at names time (prefixes_from (take depth path) (drop depth path))) ≡ with_front changes (directories_at names time (take (depth + 1) path ∷ prefixes_from (take (depth + 1) path) (drop (depth + 1) path)))
with_next names time path depth changes low = ap (λ paths. with_front changes (directories_at names time paths)) (next_prefix path depth low)

front_missing : (told : Option Namespace) (time : ℕ) (path : List (List ℕ)) (depth : ℕ) (changes : List Change) → PlansFront told time path depth changes → IsPath path → depth < length path → IfSome told (λ names. None ≡ get names (take (depth + 1) path)) → PlansFront told time path (depth + 1) (changes ++ Put (take (depth + 1) path) (new_directory time) ∷ [])
front_missing None time path depth changes front is low found = record {
  each = All-push (IsNewDirectory time) changes _ front.each (prefix_is_new time path depth is low);
  few = let few = front.few in omega (arith, length-append changes (Put (take (depth + 1) path) (new_directory time) ∷ []));
  planned = tt;
}
front_missing (Some names) time path depth changes front is low found = record {
  each = All-push (IsNewDirectory time) changes _ front.each (prefix_is_new time path depth is low);
  few = let few = front.few in omega (arith, length-append changes (Put (take (depth + 1) path) (new_directory time) ∷ []));
  planned = front.planned ∙ with_next names time path depth changes low ∙ planned_missing names time (take (depth + 1) path) _ changes found;
}

pub front_directory : (told : Option Namespace) (time : ℕ) (path : List (List ℕ)) (depth : ℕ) (changes : List Change) (entry : Entry) → PlansFront told time path depth changes → depth < length path → IfSome told (λ names. Some entry ≡ get names (take (depth + 1) path)) → is_file_kind entry.kind ≡ false → PlansFront told time path (depth + 1) changes
front_directory None time path depth changes entry front low found kind = record { each = front.each; few = let few = front.few in omega arith; planned = tt }
front_directory (Some names) time path depth changes entry front low found kind = record {
  each = front.each;
  few = let few = front.few in omega arith;
  planned = front.planned ∙ with_next names time path depth changes low ∙ ap (with_front changes) (planned_directory names time (take (depth + 1) path) _ entry found kind);
}

pub front_file : (told : Option Namespace) (time : ℕ) (path : List (List ℕ)) (depth : ℕ) (changes : List Change) (entry : Entry) → PlansFront told time path depth changes → depth < length path → IfSome told (λ names. Some entry ≡ get names (take (depth + 1) path)) → is_file_kind entry.kind ≡ true → IfSome told (λ names. directories_at names time (prefixes path) ≡ Err (IsFile (take (depth + 1) path)))
front_file None time path depth changes entry front low found kind = tt
front_file (Some names) time path depth changes entry front low found kind =
    front.planned ∙ with_next names time path depth changes low ∙ ap (with_front changes) (planned_file names time (take (depth + 1) path) _ entry found kind)

-- The same of the changes as they stand after the push
pub front_pushed : (told : Option Namespace) (time : ℕ) (path : List (List ℕ)) (depth : ℕ) (changes pushed items : List Change) (prefix : List (List ℕ)) (entry : Entry) → PlansFront told time path depth changes → IsPath path → depth < length path → IfSome told (λ names. None ≡ get names (take (depth + 1) path)) → items ≡ pushed → pushed ≡ changes ++ Put prefix entry ∷ [] → prefix ≡ take (depth + 1) path → entry ≡ new_directory time → PlansFront told time path (depth + 1) items
front_pushed told time path depth changes pushed items prefix entry front is low found same push same_path same_entry =
    let all : items ≡ changes ++ Put (take (depth + 1) path) (new_directory time) ∷ [] =
    same ∙ push ∙ ap (λ e. changes ++ Put prefix e ∷ []) same_entry ∙ ap (λ p. changes ++ Put p (new_directory time) ∷ []) same_path in
    subst (PlansFront told time path (depth + 1)) (sym all) (front_missing told time path depth changes front is low found)

-- What a view tells of a prefix
pub found_at : (told now : Option Namespace) (path prefix : List (List ℕ)) (found result : Option Entry) → now ≡ told → prefix ≡ path → result ≡ found → IfSome now (λ names. result ≡ get names prefix) → IfSome told (λ names. found ≡ get names path)
found_at told now path prefix found result same_map same_path same_result h =
    subst (λ t. IfSome t (λ names. found ≡ get names path)) same_map
    (subst (λ p. IfSome now (λ names. found ≡ get names p)) same_path
    (subst (λ f. IfSome now (λ names. f ≡ get names prefix)) same_result h))
