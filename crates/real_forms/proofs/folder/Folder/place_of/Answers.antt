use Rattle.std.proofs.Common.{sym, ◌∙◌, inl, inr, subst, List, ℕ, Option, MatchOption}
use Rattle.real_forms.specs.System.{PathCall, Opened, Missed}
use Rattle.real_forms.specs.Folder.{path_of}
use Rattle.real_forms.proofs.AwaitingLemmas.{named_at_position}
use Rattle.real_forms.proofs.FolderLemmas.{stands_open, keeps_one, marks_nothing}
use Rattle.real_forms.proofs.folder.Folder.place_of.Goals as goal

pub returns-in-Some-clause-place : goal.returns-in-Some-clause-place
returns-in-Some-clause-place g c = named_at_position _ _ _ (sym c.place_of.ensures ∙ c.in-Some.is)

pub returns-in-Some-clause-opened : goal.returns-in-Some-clause-opened
returns-in-Some-clause-opened g c = stands_open g.R.System.answered (path_of c.args.self.now c.args.name.now) _ _ _ (sym c.place_of.ensures ∙ c.in-Some.is)

pub returns-clause-opened : goal.returns-clause-opened
returns-clause-opened g c =
    let answered : PathCall g.row.F.Denot → Type 0 = g.R.System.answered in
    let asked = c.as_str.result.now in
    let opened = subst (λ (found : Option g.row.F.Denot). MatchOption found (answered (Missed asked)) (λ file. answered (Opened asked file))) c.in-Some-2.is c.in_ok-file.ensures in (
      c.in-Some-2.file,
      c.in_ok-keep.ensures.kept.1,
      inr (subst (λ (path : List ℕ). answered (Opened path c.in-Some-2.file)) (c.as_str.ensures.value ∙ c.in_ok-path.ensures) opened),
    )

pub returns-in_err-keep-clause-keeps : goal.returns-in_err-keep-clause-keeps
returns-in_err-keep-clause-keeps g c =
    let answered : PathCall g.row.F.Denot → Type 0 = g.R.System.answered in
    let asked = c.as_str.result.now in
    let opened = subst (λ (found : Option g.row.F.Denot). MatchOption found (answered (Missed asked)) (λ file. answered (Opened asked file))) c.in-Some-2.is c.in_ok-file.ensures in
    let came = subst (λ (path : List ℕ). answered (Opened path c.in-Some-2.file)) (c.as_str.ensures.value ∙ c.in_ok-path.ensures) opened in
    keeps_one answered c.args.name.now c.in-Some-2.file (inl came) c.keep.ensures.same c.keep.ensures.only c.keep.ensures.still c.keep.ensures.names

pub returns-clause-keeps : goal.returns-clause-keeps
returns-clause-keeps g c =
    let answered : PathCall g.row.F.Denot → Type 0 = g.R.System.answered in
    let asked = c.as_str.result.now in
    let opened = subst (λ (found : Option g.row.F.Denot). MatchOption found (answered (Missed asked)) (λ file. answered (Opened asked file))) c.in-Some-2.is c.in_ok-file.ensures in
    let came = subst (λ (path : List ℕ). answered (Opened path c.in-Some-2.file)) (c.as_str.ensures.value ∙ c.in_ok-path.ensures) opened in
    keeps_one answered c.args.name.now c.in-Some-2.file (inl came) c.keep.ensures.same c.keep.ensures.only c.keep.ensures.still c.keep.ensures.names

pub returns-in_err-keep-clause-more : goal.returns-in_err-keep-clause-more
returns-in_err-keep-clause-more g c = marks_nothing c.keep.ensures.more

pub returns-clause-more : goal.returns-clause-more
returns-clause-more g c = marks_nothing c.keep.ensures.more
