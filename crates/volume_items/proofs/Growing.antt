-- A piece behind a file's end.
use Rattle.std.proofs.Common.{◌≡◌, ℕ, ◌+◌, ◌≤◌, List, [], ◌++◌, length, take, drop, sym, ap, subst, ◌∙◌, arith, Option, Some, None, Result, Ok, Err, append_assoc}
use Rattle.std.specs.Prelude.{IfSome, OnOk, IsSomeAnd, MatchResult, unwrap_or}
use Rattle.std.specs.Option.{option_map}
use Rattle.std.specs.FinMap.{get}
use Rattle.std.proofs.lemmas.List.{append-nil, take-append-le, take_all, take-take, length-append, nil_from_length, length-drop}
use Rattle.weed_base.specs.Files.{Files, content, spliced, written, BothTold, IsWithin, MayWrite}
use Rattle.volume_items.specs.Growing.{Appends, EndsAt, KeepsFront}
use Rattle.volume_items.specs.Changes.{ChangesOnly}
use Rattle.volume_items.proofs.Named.{get-insert_same, get-insert_other, joined}
use Rattle.volume_items.proofs.Told.{both_twice, told_related_both}

pub on_ok : {T E P : Type 0} (result : Result T E) → P → OnOk result P
on_ok (Ok value) fact = fact
on_ok (Err fault) fact = tt

-- ---- a piece behind a file's end

pub content_of : (files : Files) (name text : List ℕ) → get files name ≡ Some text → content files name ≡ text
content_of files name text is = ap (λ (o : Option (List ℕ)). unwrap_or o []) is

pub spliced_end : (text piece : List ℕ) (at : ℕ) → length text ≡ at → spliced text at piece ≡ text ++ piece
spliced_end text piece at end =
    ap (λ (front : List ℕ). front ++ piece ++ drop (at + length piece) text) (take_all at text (omega (arith, end)))
    ∙ ap (λ (rest : List ℕ). text ++ piece ++ rest) (nil_from_length (drop (at + length piece) text) (omega (arith, length-drop (at + length piece) text, end)))
    ∙ append-nil (text ++ piece)

pub appended_by : (name piece : List ℕ) (at : ℕ) (files : Files) → EndsAt name at files → Appends name piece files (written name at piece files)
appended_by name piece at files ends =
    let is : content files name ≡ ends.text = content_of files name ends.text ends.there in
    record {
      there = get-insert_same files name _ ∙ ap Some (spliced_end (content files name) piece at (ap length is ∙ ends.length_is));
      others = λ other differs. get-insert_other files name _ other differs;
    }

pub ends_behind : (name piece : List ℕ) (at : ℕ) (old new : Files) → EndsAt name at old → Appends name piece old new → EndsAt name (at + length piece) new
ends_behind name piece at old new ends is = record {
  text = content old name ++ piece;
  there = is.there;
  length_is = length-append (content old name) piece ∙ ap (λ (n : ℕ). n + length piece) (ap length (content_of old name ends.text ends.there) ∙ ends.length_is);
}

pub front_kept : (name piece : List ℕ) (at : ℕ) (old new : Files) → EndsAt name at old → Appends name piece old new → KeepsFront name at old new
front_kept name piece at old new ends is =
    ap (take at) (content_of new name (content old name ++ piece) is.there)
    ∙ take-append-le at (content old name) piece (omega (arith, ap length (content_of old name ends.text ends.there) ∙ ends.length_is))

pub told_within : (told : Option Files) (name : List ℕ) (at : ℕ) → IfSome told (EndsAt name at) → IfSome told (IsWithin name at)
told_within None name at ends = tt
told_within (Some files) name at ends = subst (λ o. IsSomeAnd o (λ bytes. at ≤ length bytes)) (sym ends.there) (omega (arith, ends.length_is))

pub told_appended : (name piece : List ℕ) (at : ℕ) (old new : Option Files) → new ≡ option_map (written name at piece) old → IfSome old (EndsAt name at) → BothTold (Appends name piece) old new
told_appended name piece at None new is ends = subst (λ o. BothTold (Appends name piece) None o) (sym is) tt
told_appended name piece at (Some files) new is ends = subst (λ o. BothTold (Appends name piece) (Some files) o) (sym is) (appended_by name piece at files ends)

pub told_ends : (name piece : List ℕ) (at : ℕ) (old new : Option Files) → BothTold (Appends name piece) old new → IfSome old (EndsAt name at) → IfSome new (EndsAt name (at + length piece))
told_ends name piece at None None is ends = tt
told_ends name piece at None (Some new) is ends = absurd is
told_ends name piece at (Some old) None is ends = absurd is
told_ends name piece at (Some old) (Some new) is ends = ends_behind name piece at old new ends is

pub done_appended : {T E : Type 0} (name piece : List ℕ) (at : ℕ) (old new : Option Files) (result : Result T E)
    → MatchResult result (λ _. new ≡ option_map (written name at piece) old) (λ _. BothTold (MayWrite name at piece) old new) → IfSome old (EndsAt name at)
    → OnOk result (BothTold (Appends name piece) old new)
done_appended name piece at old new (Ok value) is ends = told_appended name piece at old new is ends
done_appended name piece at old new (Err fault) is ends = tt

pub done_ends : {T E : Type 0} (name piece : List ℕ) (at : ℕ) (old new : Option Files) (result : Result T E)
    → MatchResult result (λ _. new ≡ option_map (written name at piece) old) (λ _. BothTold (MayWrite name at piece) old new) → IfSome old (EndsAt name at)
    → OnOk result (IfSome new (EndsAt name (at + length piece)))
done_ends name piece at old new (Ok value) is ends = told_ends name piece at old new (told_appended name piece at old new is ends) ends
done_ends name piece at old new (Err fault) is ends = tt

pub told_front : {T E : Type 0} (name piece : List ℕ) (at : ℕ) (old new : Option Files) (result : Result T E)
    → MatchResult result (λ _. new ≡ option_map (written name at piece) old) (λ _. BothTold (MayWrite name at piece) old new) → IfSome old (EndsAt name at)
    → BothTold (KeepsFront name at) old new
told_front name piece at None new (Ok value) is ends = subst (λ o. BothTold (KeepsFront name at) None o) (sym is) tt
told_front name piece at (Some files) new (Ok value) is ends =
    subst (λ o. BothTold (KeepsFront name at) (Some files) o) (sym is) (front_kept name piece at files (written name at piece files) ends (appended_by name piece at files ends))
told_front name piece at old new (Err fault) is ends =
    told_related_both (MayWrite name at piece) (KeepsFront name at) old new is
    (λ before after may. ap (take at) (content_of after name may.0 (ap (λ files. get files name) may.2 ∙ get-insert_same before name may.0)) ∙ (may.1).front)

-- ---- one piece behind another

pub appends_joined : (name one two : List ℕ) (a b c : Files) → Appends name one a b → Appends name two b c → Appends name (one ++ two) a c
appends_joined name one two a b c first second = record {
  there = second.there ∙ ap Some (ap (λ (l : List ℕ). l ++ two) (content_of b name (content a name ++ one) first.there) ∙ append_assoc (content a name) one two);
  others = λ other differs. second.others other differs ∙ first.others other differs;
}

-- a front that stays, of a file that grew first
front_joined : (name piece : List ℕ) (at : ℕ) (a b c : Files) → EndsAt name at a → Appends name piece a b → KeepsFront name (at + length piece) b c → KeepsFront name at a c
front_joined name piece at a b c ends first second =
    let n : ℕ = at + length piece in
    sym (take-take at n (content c name) (omega arith)) ∙ ap (take at) second ∙ take-take at n (content b name) (omega arith) ∙ front_kept name piece at a b ends first

pub told_front_joined : (name piece : List ℕ) (at : ℕ) (a b c : Option Files) → IfSome a (EndsAt name at) → BothTold (Appends name piece) a b
    → BothTold (KeepsFront name (at + length piece)) b c → BothTold (KeepsFront name at) a c
told_front_joined name piece at None None None ends first second = tt
told_front_joined name piece at None None (Some c) ends first second = absurd second
told_front_joined name piece at None (Some b) c ends first second = absurd first
told_front_joined name piece at (Some a) None c ends first second = absurd first
told_front_joined name piece at (Some a) (Some b) None ends first second = absurd second
told_front_joined name piece at (Some a) (Some b) (Some c) ends first second = front_joined name piece at a b c ends first second

pub told_appends_joined : (name one two : List ℕ) (a b c : Option Files) → BothTold (Appends name one) a b → BothTold (Appends name two) b c → BothTold (Appends name (one ++ two)) a c
told_appends_joined name one two a b c first second =
    both_twice (Appends name one) (Appends name two) (Appends name (one ++ two)) a b c first second (appends_joined name one two)

pub told_others_joined : (name : List ℕ) (a b c : Option Files) → BothTold (ChangesOnly name) a b → BothTold (ChangesOnly name) b c → BothTold (ChangesOnly name) a c
told_others_joined name a b c first second = both_twice (ChangesOnly name) (ChangesOnly name) (ChangesOnly name) a b c first second (joined name)
