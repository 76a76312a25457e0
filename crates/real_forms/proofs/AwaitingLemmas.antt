-- What keeps the marks of open files.
use Rattle.std.proofs.Common.{◌≡◌, ◌≢◌, ◌⊎◌, ℕ, suc, ◌+◌, ◌<◌, ◌≤◌, Bool, true, false, List, [], ◌∷◌, ◌++◌, length, get_or, set, Some, Result, Ok, Err, OnOk, OnErr, MatchResult, sym, ap, ◌∙◌, inl, inr, subst, refl, arith}
use Rattle.std.proofs.lemmas.Grind.{common_steps, get_or-set_at}
use Rattle.std.proofs.lemmas.List.{get_or-set_other, length-set}
use Rattle.std.proofs.lemmas.List.Elements.{at_read}
use Rattle.std.proofs.lemmas.List.Quantifiers.{any-set, position-Some}
use Rattle.std.proofs.lemmas.Slice.Eq.{bytes_eq-Decides}
use Rattle.std.specs.List.{Any, filter, position}
use Rattle.std.specs.Str.{bytes_eq}
use Rattle.real_forms.specs.System.{FileCall, Act}
use Rattle.real_forms.specs.Awaiting.{Covers, StillAwaits, AwaitsNoMore, IsNamedAt, FallsByAnswer, AwaitsNothing, SettlesBy, SettlesFirst}
use Rattle.real_forms.specs.declared.kept.Awaits.{Awaits}
use Rattle.real_forms.specs.declared.kept.Awaits.TheVariants.{Nothing, Data, Everything}
use Rattle.real_forms.specs.declared.kept.KeptFile.{KeptFile}
use Rattle.real_forms.proofs.ListLemmas.{same_or_other, below_other, any_filter, set_any_or, EachPair}

pub covers_same : (mark : Awaits) → Covers mark mark
covers_same Nothing = tt
covers_same Data = tt
covers_same Everything = tt

pub covers_all : (mark : Awaits) → Covers Everything mark
covers_all Nothing = tt
covers_all Data = tt
covers_all Everything = tt

covers_along : (high mark low : Awaits) → Covers high mark → Covers mark low → Covers high low
covers_along high mark Nothing p q = tt
covers_along high Nothing Data p q = absurd q
covers_along Nothing Data Data p q = absurd p
covers_along Data Data Data p q = tt
covers_along Everything Data Data p q = tt
covers_along Nothing Everything Data p q = absurd p
covers_along Data Everything Data p q = absurd p
covers_along Everything Everything Data p q = tt
covers_along high Nothing Everything p q = absurd q
covers_along high Data Everything p q = absurd q
covers_along Nothing Everything Everything p q = absurd p
covers_along Data Everything Everything p q = absurd p
covers_along Everything Everything Everything p q = tt

-- the file at a place is marked for more
pub still_set : {F : Type 0} (files : List (KeptFile F)) (place : ℕ) (before kept : KeptFile F) → place < length files → before ≡ get_or files place before → kept.name ≡ before.name → kept.file ≡ before.file → Covers kept.awaits before.awaits → StillAwaits files (set files place kept)
still_set {F} files place before kept within was same file more name held mark something (k, x, below, is, holds) =
    elim (same_or_other k place) [
      | inl here ↦
          let stood : get_or files place x ≡ before = at_read files (λ y. y ≡ before) place before within was refl x in
          let both : x ≡ before = sym is ∙ ap (λ i. get_or files i x) here ∙ stood in
          any-set (λ y. (y.name ≡ name) × ((y.file ≡ held) × Covers y.awaits mark)) files place kept within (
            same ∙ ap (λ y. y.name) (sym both) ∙ holds.0,
            (
              file ∙ ap (λ y. y.file) (sym both) ∙ holds.1.0,
              covers_along kept.awaits before.awaits mark more (subst (λ (y : KeptFile F). Covers y.awaits mark) both holds.1.1),
            ),
          )
      | inr other ↦ (k, x, grind (arith, common_steps), get_or-set_other files place k kept x other ∙ is, holds)
    ]

-- the file at a place is one of its name
pub named_set : {F : Type 0} (P : KeptFile F → Type 0) (files : List (KeptFile F)) (place : ℕ) (before kept : KeptFile F) (name : List ℕ) → IsNamedAt name place files → before ≡ get_or files place before → kept.name ≡ before.name → P kept → Any (λ y. (y.name ≡ name) × P y) (set files place kept)
named_set P files place before kept name named was same holds =
    any-set (λ y. (y.name ≡ name) × P y) files place kept named.0 (same ∙ ap (λ y. y.name) was ∙ named.1 before, holds)

-- one more file
pub still_push : {F : Type 0} (files : List (KeptFile F)) (kept : KeptFile F) → StillAwaits files (files ++ kept ∷ [])
still_push files kept name file mark something (k, x, below, is, holds) = (k, x, grind (arith, common_steps), grind (arith, common_steps), holds)

-- nothing covers nothing alone
pub covers_nothing : (mark : Awaits) → mark ≢ Nothing → Covers Nothing mark → ⊥
covers_nothing Nothing something covers = something refl
covers_nothing Data something covers = covers
covers_nothing Everything something covers = covers

-- only files that await nothing go
pub still_filter : {F : Type 0} (test : KeptFile F → Bool) (passes : (kept : KeptFile F) → kept.awaits ≢ Nothing → test kept ≡ true) (files : List (KeptFile F)) → StillAwaits files (filter test files)
still_filter {F} test passes files name file mark something found =
    any_filter (λ kept. (kept.name ≡ name) × ((kept.file ≡ file) × Covers kept.awaits mark)) test
    (λ kept holds. passes kept (λ none. covers_nothing mark something (subst (λ a. Covers a mark) none holds.1.1))) files found

-- the first file of a name
named_at : {F : Type 0} (files : List (KeptFile F)) (some : KeptFile F) (name : List ℕ) (place : ℕ) → position (λ kept. bytes_eq kept.name name) files ≡ Some place → IsNamedAt name place files
named_at {F} files some name place is =
    let first = position-Some (λ kept. bytes_eq kept.name name) files place some is in
    let named : (d : KeptFile F) → (get_or files place d).name ≡ name =
    λ d. let passes = position-Some (λ kept. bytes_eq kept.name name) files place d is in (bytes_eq-Decides (get_or files place d).name name).0 passes.1
    in (first.0, named)

pub named_at_position : {F : Type 0} (files : List (KeptFile F)) (name : List ℕ) (place : ℕ) → position (λ kept. bytes_eq kept.name name) files ≡ Some place → IsNamedAt name place files
named_at_position [] name place is = absurd (cc is)
named_at_position (some ∷ files) name place is = named_at (some ∷ files) some name place is

-- what follows where a call answered Ok
pub on_ok : {T E : Type 0} {P Q : Type 0} (answer : Result T E) → (P → Q) → OnOk answer P → OnOk answer Q
on_ok (Ok value) then holds = then holds
on_ok (Err error) then holds = tt

-- what was answered Ok, where that is handed on
pub noted : {T E F : Type 0} (P : Type 0) (answer : Result T E) (result : Result T F) (bad : F) → MatchResult answer (λ value. result ≡ Ok value) (λ _. result ≡ Err bad) → OnOk answer P → OnOk result P
noted {T} {F = F} P (Ok value) result bad is holds = subst (λ (it : Result T F). OnOk it P) (sym is) holds
noted {T} {F = F} P (Err error) result bad is holds = subst (λ (it : Result T F). OnOk it P) (sym is) tt

-- what follows where it failed
pub on_err : {T E : Type 0} {P Q : Type 0} (answer : Result T E) → (P → Q) → OnErr answer P → OnErr answer Q
on_err (Ok value) then holds = tt
on_err (Err error) then holds = then holds

-- the same with what follows where it fits
pub both_ok : {T E : Type 0} (Fits P Q : Type 0) (answer : Result T E) → OnOk answer Fits → OnOk answer P → (Fits → Q) → OnOk answer (P × Q)
both_ok Fits P Q (Ok value) fits holds then = (holds, then fits)
both_ok Fits P Q (Err error) fits holds then = tt

-- the first places were settled in turn, and one more
pub falls_set : {F : Type 0} (answered : FileCall → F → Type 0) (before now : List (KeptFile F)) (i : ℕ) (old new : KeptFile F) → EachPair (FallsByAnswer answered) before now → ((k : ℕ) (d : KeptFile F) → i ≤ k → get_or now k d ≡ get_or before k d) → i < length now → old ≡ get_or now i old → FallsByAnswer answered old new → EachPair (FallsByAnswer answered) before (set now i new)
falls_set {F} answered before now i old new pairs rest within was falls =
    let each : (k : ℕ) (d : KeptFile F) → k < length before → FallsByAnswer answered (get_or before k d) (get_or (set now i new) k d) =
    λ k d below. elim (same_or_other k i) [
      | inl here ↦
          let stood : get_or now i d ≡ old = at_read now (λ y. y ≡ old) i old within was refl d in
          let first : old ≡ get_or before k d = sym stood ∙ ap (λ j. get_or now j d) (sym here) ∙ rest k d (omega (arith, here)) in
          let last : new ≡ get_or (set now i new) k d = sym (get_or-set_at now i k new d here within) in
          subst (λ (y : KeptFile F). FallsByAnswer answered (get_or before k d) y) last (subst (λ (y : KeptFile F). FallsByAnswer answered y new) first falls)
      | inr other ↦
          subst (λ (y : KeptFile F). FallsByAnswer answered (get_or before k d) y) (sym (get_or-set_other now i k new d other)) (pairs.1 k d below)
    ] in (length-set now i new ∙ pairs.0, each)

-- the test of what awaits something
abbrev pub awaits_something : Awaits → Bool
awaits_something Nothing = false
awaits_something Data = true
awaits_something Everything = true

passes_something : (mark : Awaits) → mark ≢ Nothing → awaits_something mark ≡ true
passes_something Nothing something = absurd (something refl)
passes_something Data something = refl
passes_something Everything something = refl

pub still_awaiting : {F : Type 0} (files : List (KeptFile F)) → StillAwaits files (filter (λ kept. awaits_something kept.awaits) files)
still_awaiting files = still_filter (λ kept. awaits_something kept.awaits) (λ kept something. passes_something kept.awaits something) files

-- the file at a place awaits nothing, and so do those before it
pub nothing_set : {F : Type 0} (now : List (KeptFile F)) (i : ℕ) (new : KeptFile F) → i < length now → ((k : ℕ) (d : KeptFile F) → k < i → AwaitsNothing (get_or now k d)) → AwaitsNothing new → (k : ℕ) (d : KeptFile F) → k < i + 1 → AwaitsNothing (get_or (set now i new) k d)
nothing_set {F} now i new within before none k d below =
    elim (same_or_other k i) [
      | inl here ↦ subst (λ (y : KeptFile F). AwaitsNothing y) (sym (get_or-set_at now i k new d here within)) none
      | inr other ↦ subst (λ (y : KeptFile F). AwaitsNothing y) (sym (get_or-set_other now i k new d other)) (before k d (below_other k i below other))
    ]

-- what passes the test awaits something
pub something_awaited : (mark : Awaits) → awaits_something mark ≡ true → mark ≢ Nothing
something_awaited Nothing passes = λ none. absurd (cc passes)
something_awaited Data passes = λ none. absurd (cc none)
something_awaited Everything passes = λ none. absurd (cc none)

-- data covers data alone, of what is something
covered_by_data : (mark : Awaits) → mark ≢ Nothing → Covers Data mark → mark ≡ Data
covered_by_data Nothing something covers = absurd (something refl)
covered_by_data Data something covers = refl
covered_by_data Everything something covers = absurd covers

-- a mark that stays, or rises from nothing to data
pub rises_to_data : (old new mark : Awaits) → (new ≡ old) ⊎ ((old ≡ Nothing) × (new ≡ Data)) → mark ≢ Nothing → Covers new mark → Covers old mark ⊎ (mark ≡ Data)
rises_to_data old new mark (inl same) something covers = inl (subst (λ a. Covers a mark) same covers)
rises_to_data old new mark (inr rose) something covers = inr (covered_by_data mark something (subst (λ a. Covers a mark) rose.1 covers))

-- only the mark of the file at a place may rise
pub no_more_set : {F : Type 0} (May : List ℕ → Awaits → Type 0) (files : List (KeptFile F)) (place : ℕ) (before kept : KeptFile F) → place < length files → before ≡ get_or files place before → kept.name ≡ before.name → kept.file ≡ before.file → ((mark : Awaits) → mark ≢ Nothing → Covers kept.awaits mark → Covers before.awaits mark ⊎ May before.name mark) → AwaitsNoMore May files (set files place kept)
no_more_set {F} May files place before kept within was same file rises name held mark something =
    set_any_or (λ y. (y.name ≡ name) × ((y.file ≡ held) × Covers y.awaits mark)) (May name mark) files place before kept within was
    (λ holds. elim (rises mark something holds.1.1) [
      | inl covered ↦ inl (sym same ∙ holds.0, (sym file ∙ holds.1.0, covered))
      | inr may ↦ inr (subst (λ it. May it mark) (sym same ∙ holds.0) may)
    ])

-- one file more was settled
pub settles_next : {R F : Type 0} (one_act : R → R → Act F → Type 0) (before now : List (KeptFile F)) (i : ℕ) (kept : KeptFile F) (old middle new : R) → SettlesFirst one_act before i old middle → i < length now → ((d : KeptFile F) → i ≤ i → get_or now i d ≡ get_or before i d) → kept ≡ get_or now i kept → SettlesBy one_act kept.awaits kept.file middle new → SettlesFirst one_act before (i + 1) old new
settles_next {F = F} one_act before now i kept old middle new first within rest was once =
    let one_more : suc i ≡ i + 1 = omega arith in
    let last : (d : KeptFile F) → SettlesBy one_act (get_or before i d).awaits (get_or before i d).file middle new =
    λ d.
    let here : kept ≡ get_or before i d = sym (at_read now (λ y. y ≡ kept) i kept within was refl d) ∙ rest d (omega arith) in
    subst (λ (it : KeptFile F). SettlesBy one_act it.awaits it.file middle new) here once
    in subst (λ count. SettlesFirst one_act before count old new) one_more (middle, first, last)
