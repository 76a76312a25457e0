-- What an attached directory keeps along its calls, and which file they are of.
use Rattle.std.proofs.Common.{◌≡◌, ◌⊎◌, ℕ, zero, suc, ◌<◌, List, [], ◌∷◌, length, get_or, string_bytes, Option, Some, None, IfSome, Result, Ok, Err, OnOk, IfOk, MatchOption, true, sym, ap, ◌∙◌, inl, inr, subst, refl, arith}
use Rattle.std.specs.List.{position}
use Rattle.std.specs.Str.{bytes_eq}
use Rattle.weed_base.specs.Files.{BothTold}
use Rattle.real_forms.specs.System.{Act, ActsOnly, IsSettling, FileCall, PathCall, Opened, Made, path_in}
use Rattle.real_forms.specs.Awaiting.{Covers, Awaiting, IsNamedAt, IsFileAt, IsOpenAs, OpensNone, StillAwaits}
use Rattle.real_forms.specs.Folder.{IsOpenFile, IsOpenAt, MakesThenSettles, IsSameFolder, OpensByName, OpensOne, KeepsFolder, MarksNoMore, NamesMayHaveChanged, path_of}
use Rattle.real_forms.specs.declared.kept.Awaits.{Awaits}
use Rattle.real_forms.specs.declared.kept.Awaits.TheVariants.{Nothing}
use Rattle.real_forms.specs.declared.kept.KeptFile.{KeptFile}
use Rattle.real_forms.specs.declared.kept.KeptFiles.{KeptFiles}
use Rattle.real_forms.specs.declared.folder.Folder.{Folder}
use Rattle.real_forms.proofs.ActLemmas.{acts_along}
use Rattle.real_forms.proofs.AwaitingLemmas.{named_at_position, covers_nothing}

-- the path of a name stays where the directory does
path_same : {F : Type 0} {before after : Folder F} → IsSameFolder before after → (name : List ℕ) → path_of after name ≡ path_of before name
path_same same name = ap (λ path. path_in (string_bytes path) name) same.path

opens_along : {F : Type 0} (answered : PathCall F → Type 0) (first middle last : Folder F) → IsSameFolder first middle → OpensByName answered first middle → OpensByName answered middle last → OpensByName answered first last
opens_along answered first middle last same one two name file found =
    elim (two name file found) [
      | inl (inl was) ↦ one name file was
      | inl (inr opened) ↦ inl (inr (subst (λ path. answered (Opened path file)) (path_same same name) opened))
      | inr made ↦ inr (subst (λ path. answered (Made path file)) (path_same same name) made)
    ]

pub keeps_along : {F : Type 0} (answered : PathCall F → Type 0) {first middle last : Folder F} → KeepsFolder answered first middle → KeepsFolder answered middle last → KeepsFolder answered first last
keeps_along answered {first} {middle} {last} one two = record {
  same = record { path = two.same.path ∙ one.same.path; directory = two.same.directory ∙ one.same.directory };
  opens = opens_along answered first middle last one.same one.opens two.opens;
  files = λ name file mark something found. two.files name file mark something (one.files name file mark something found);
  names = λ was. two.names (one.names was);
}

-- a change of the open files alone
pub keeps_by : {F : Type 0} (answered : PathCall F → Type 0) (folder : Folder F) (kept : KeptFiles F) → OpensByName answered folder (record folder { kept = kept }) → StillAwaits folder.kept.files.items kept.files.items → (folder.kept.names_await ≡ true → kept.names_await ≡ true) → kept.directory ≡ folder.kept.directory → KeepsFolder answered folder (record folder { kept = kept })
keeps_by answered folder kept opens files names directory = record { same = record { path = refl; directory = directory }; opens = opens; files = files; names = names }

-- a call that opens none
pub opens_none : {F : Type 0} (answered : PathCall F → Type 0) (folder : Folder F) (kept : KeptFiles F) → OpensNone folder.kept.files.items kept.files.items → OpensByName answered folder (record folder { kept = kept })
opens_none answered folder kept none name file found = inl (inl (none name file found))

-- a place in a list has one item
get_or_same : {X : Type 0} (items : List X) (place : ℕ) (one other : X) → place < length items → get_or items place one ≡ get_or items place other
get_or_same [] place one other within = absurd (omega (arith, within))
get_or_same (x ∷ xs) zero one other within = refl
get_or_same (x ∷ xs) (suc place) one other within = get_or_same xs place one other (omega (arith, within))

some_open : {F : Type 0} (answered : PathCall F → Type 0) (path name : List ℕ) (files : List (KeptFile F)) (place : ℕ) (some : KeptFile F) → IsNamedAt name place files → IsOpenAt answered path name files files place
some_open answered path name files place some named =
    let kept = get_or files place some in
    (kept.file, λ d. ap (λ it. it.file) (get_or_same files place d some named.0), inl (place, kept, named.0, get_or_same files place kept some named.0, (named.1 some, refl)))

-- the first file of a name stands open
pub stands_open : {F : Type 0} (answered : PathCall F → Type 0) (path name : List ℕ) (files : List (KeptFile F)) (place : ℕ) → position (λ kept. bytes_eq kept.name name) files ≡ Some place → IsOpenAt answered path name files files place
stands_open answered path name [] place is = absurd (cc is)
stands_open answered path name (some ∷ files) place is = some_open answered path name (some ∷ files) place some (named_at_position (some ∷ files) name place is)

-- what holds where something was found
pub at_found : (Q : Type 0) (P : ℕ → Type 0) (found : Option ℕ) (place : ℕ) → found ≡ Some place → MatchOption found Q P → P place
at_found Q P found place is holds = subst (λ (it : Option ℕ). MatchOption it Q P) is holds

-- a call that answered Ok at a place did so of the open file
pub of_placed : {F T E : Type 0} (answered : PathCall F → Type 0) (path name : List ℕ) (before after : List (KeptFile F)) (place : ℕ) (result : Result T E) (P : F → Type 0) → IsOpenAt answered path name before after place → ((file : F) → IsFileAt place after file → OnOk result (P file)) → OnOk result ((file : F) × IsOpenFile answered path name before file × P file)
of_placed answered path name before after place (Ok value) P (file, stands, asked) then = (file, asked, then file stands)
of_placed answered path name before after place (Err error) P found then = tt

-- what holds of the file at a place is of an open file
pub of_place : {F Q : Type 0} (answered : PathCall F → Type 0) (path name : List ℕ) (before after : List (KeptFile F)) (place : ℕ) (P : F → Type 0) → IsOpenAt answered path name before after place → ((file : F) → IsFileAt place after file → P file) → ((file : F) → IsOpenFile answered path name before file → IsFileAt place after file → P file → Q) → Q
of_place answered path name before after place P (file, stands, asked) holds then = then file asked stands (holds file stands)

one_file : {F : Type 0} (files : List (KeptFile F)) (place : ℕ) (one other : F) → place < length files → IsFileAt place files one → IsFileAt place files other → one ≡ other
one_file [] place one other within first second = absurd (omega (arith, within))
one_file (some ∷ files) place one other within first second = sym (first some) ∙ second some

-- what holds of the file at a place holds of the open file
pub of_found : {F : Type 0} (answered : PathCall F → Type 0) (path name : List ℕ) (before after : List (KeptFile F)) (place : ℕ) (P : F → Type 0) (file : F) → place < length after → IsFileAt place after file → IsOpenAt answered path name before after place → P file → (asked : F) × IsOpenFile answered path name before asked × P asked
of_found answered path name before after place P file within at (asked, stands, found) holds = (asked, found, subst P (one_file after place file asked within at stands) holds)

-- what follows of a value that was answered
pub if_ok : {T E : Type 0} {P Q : T → Type 0} (result : Result T E) → ((value : T) → P value → Q value) → IfOk result P → IfOk result Q
if_ok (Ok value) then holds = then value holds
if_ok (Err error) then holds = tt

-- the item at a place, whatever stands past the end
pub get_or_is : (items : List (List ℕ)) (place k : ℕ) (item d : List ℕ) → place < length items → k ≡ place → item ≡ get_or items place item → item ≡ get_or items k d
get_or_is items place k item d within here is = is ∙ get_or_same items place item d within ∙ ap (λ it. get_or items it d) (sym here)

-- one more is open, which was made or opened at the path of its name
pub opens_one : {F : Type 0} (answered : PathCall F → Type 0) (before after : Folder F) (name : List ℕ) (new : F) → (answered (Opened (path_of before name) new) ⊎ answered (Made (path_of before name) new)) → OpensOne name new before after → OpensByName answered before after
opens_one {F} answered before after name new came only other file found =
    elim (only other file found) [
      | inl was ↦ inl (inl was)
      | inr is ↦
          elim came [
            | inl opened ↦ inl (inr (subst (λ (it : F). answered (Opened (path_of before other) it)) is.1 (subst (λ it. answered (Opened (path_of before it) new)) is.0 opened)))
            | inr made ↦ inr (subst (λ (it : F). answered (Made (path_of before other) it)) is.1 (subst (λ it. answered (Made (path_of before it) new)) is.0 made))
          ]
    ]

-- a file more is kept
pub keeps_one : {F : Type 0} (answered : PathCall F → Type 0) {before after : Folder F} (name : List ℕ) (new : F) → (answered (Opened (path_of before name) new) ⊎ answered (Made (path_of before name) new)) → IsSameFolder before after → OpensOne name new before after → StillAwaits before.kept.files.items after.kept.files.items → after.kept.names_await ≡ before.kept.names_await → KeepsFolder answered before after
keeps_one answered {before} {after} name new came same only still names = record { same = same; opens = opens_one answered before after name new came only; files = still; names = λ was. names ∙ was }

-- names may have changed
pub keeps_noted : {F : Type 0} (answered : PathCall F → Type 0) {before after : Folder F} → IsSameFolder before after → NamesMayHaveChanged before after → KeepsFolder answered before after
keeps_noted {F} answered {before} {after} same noted = record {
  same = same;
  opens = λ name file found. inl (inl (subst (λ (files : List (KeptFile F)). IsOpenAs name file files) noted.files found));
  files = λ name file mark something found. subst (λ (files : List (KeptFile F)). Awaiting name file mark files) (sym noted.files) found;
  names = λ was. noted.names;
}

-- a directory was made and settled, and more was settled
pub makes_along : {R F : Type 0} (one_act : R → R → Act F → Type 0) (by_path : PathCall F → Type 0) (by_file : FileCall → F → Type 0) {path place : List ℕ} {old middle new : R} → path ≡ place → MakesThenSettles one_act by_path by_file path old middle → ActsOnly one_act IsSettling middle new → MakesThenSettles one_act by_path by_file place old new
makes_along one_act by_path by_file {old = old} {new = new} is (made, settled, above, act, answered, opened, whole, last, rest) behind =
    subst (λ it. MakesThenSettles one_act by_path by_file it old new) is (made, settled, above, act, answered, opened, whole, last, acts_along one_act rest behind)

-- the directory before and the one after, where one was attached
pub both_some : {X : Type 0} (R : X → X → Type 0) (before after : Option X) → BothTold R before after → IfSome before (λ old. (new : X) × R old new)
both_some R None None told = tt
both_some R None (Some new) told = absurd told
both_some R (Some old) None told = absurd told
both_some R (Some old) (Some new) told = (new, told)

-- no mark rose, and then only those that may
pub marks_along : {F : Type 0} {May : List ℕ → Awaits → Type 0} {Named : Type 0} {first middle last : Folder F} → MarksNoMore (λ _ _. ⊥) ⊥ first middle → MarksNoMore May Named middle last → MarksNoMore May Named first last
marks_along one two = record {
  files = λ name file mark something found. elim (two.files name file mark something found) [
    | inl was ↦ elim (one.files name file mark something was) [ inl stood ↦ inl stood | inr none ↦ absurd none ]
    | inr may ↦ inr may
  ];
  names = elim two.names [
    | inl same ↦ elim one.names [ inl before ↦ inl (same ∙ before) | inr none ↦ absurd none ]
    | inr named ↦ inr named
  ];
}

-- a directory that stays as it was
marks_same : {F : Type 0} {May : List ℕ → Awaits → Type 0} {Named : Type 0} {folder : Folder F} → MarksNoMore May Named folder folder
marks_same = record { files = λ name file mark something found. inl found; names = inl refl }

-- no mark rose, so none but those that may
pub marks_none : {F : Type 0} {May : List ℕ → Awaits → Type 0} {Named : Type 0} {first last : Folder F} → MarksNoMore (λ _ _. ⊥) ⊥ first last → MarksNoMore May Named first last
marks_none one = marks_along one marks_same

-- a file that awaits nothing raises none
pub marks_nothing : {F : Type 0} {Is : List ℕ → Type 0} {first last : Folder F} → MarksNoMore (λ other mark. Is other × Covers Nothing mark) ⊥ first last → MarksNoMore (λ _ _. ⊥) ⊥ first last
marks_nothing more = record {
  files = λ name file mark something found. elim (more.files name file mark something found) [
    | inl was ↦ inl was
    | inr may ↦ inr (covers_nothing mark something may.1)
  ];
  names = more.names;
}
