use Rattle.std.proofs.Common.{List, ℕ, inl, inr, subst, ◌∙◌}
use Rattle.real_forms.specs.System.{PathCall, Made}
use Rattle.real_forms.specs.Awaiting.{Awaiting}
use Rattle.real_forms.specs.declared.kept.KeptFile.{KeptFile}
use Rattle.real_forms.proofs.FolderLemmas.{keeps_along, keeps_noted, keeps_one}
use Rattle.real_forms.proofs.folder.Folder.make_new.Goals as goal

pub returns-in_err-path-clause-keeps : goal.returns-in_err-path-clause-keeps
returns-in_err-path-clause-keeps g c = keeps_noted g.R.System.answered c.note_names.ensures.same c.note_names.ensures.noted

pub returns-in_err-file-clause-keeps : goal.returns-in_err-file-clause-keeps
returns-in_err-file-clause-keeps g c = keeps_noted g.R.System.answered c.note_names.ensures.same c.note_names.ensures.noted

pub returns-in_err-keep-clause-keeps : goal.returns-in_err-keep-clause-keeps
returns-in_err-keep-clause-keeps g c =
    let answered : PathCall g.row.F.Denot → Type 0 = g.R.System.answered in
    let came = subst (λ (path : List ℕ). answered (Made path c.in_ok-file.file)) (c.as_str.ensures.value ∙ c.in_ok-path.ensures) c.in_ok-file.ensures.made in
    keeps_along answered (keeps_noted answered c.note_names.ensures.same c.note_names.ensures.noted)
    (keeps_one answered c.args.name.now c.in_ok-file.file (inr came) c.keep.ensures.same c.keep.ensures.only c.keep.ensures.still c.keep.ensures.names)

pub returns-clause-keeps : goal.returns-clause-keeps
returns-clause-keeps g c =
    let answered : PathCall g.row.F.Denot → Type 0 = g.R.System.answered in
    let came = subst (λ (path : List ℕ). answered (Made path c.in_ok-file.file)) (c.as_str.ensures.value ∙ c.in_ok-path.ensures) c.in_ok-file.ensures.made in
    keeps_along answered (keeps_noted answered c.note_names.ensures.same c.note_names.ensures.noted)
    (keeps_one answered c.args.name.now c.in_ok-file.file (inr came) c.keep.ensures.same c.keep.ensures.only c.keep.ensures.still c.keep.ensures.names)

pub returns-in_err-path-clause-more : goal.returns-in_err-path-clause-more
returns-in_err-path-clause-more g c = λ name file mark something found.
    inl (subst (λ (files : List (KeptFile g.row.F.Denot)). Awaiting name file mark files) c.note_names.ensures.noted.files found)

pub returns-in_err-file-clause-more : goal.returns-in_err-file-clause-more
returns-in_err-file-clause-more g c = λ name file mark something found.
    inl (subst (λ (files : List (KeptFile g.row.F.Denot)). Awaiting name file mark files) c.note_names.ensures.noted.files found)

pub returns-in_err-keep-clause-more : goal.returns-in_err-keep-clause-more
returns-in_err-keep-clause-more g c = λ name file mark something found.
    elim (c.keep.ensures.more.files name file mark something found) [
      | inl was ↦ inl (subst (λ (files : List (KeptFile g.row.F.Denot)). Awaiting name file mark files) c.note_names.ensures.noted.files was)
      | inr may ↦ inr may.0
    ]

pub returns-clause-more : goal.returns-clause-more
returns-clause-more g c = λ name file mark something found.
    elim (c.keep.ensures.more.files name file mark something found) [
      | inl was ↦ inl (subst (λ (files : List (KeptFile g.row.F.Denot)). Awaiting name file mark files) c.note_names.ensures.noted.files was)
      | inr may ↦ inr may.0
    ]
