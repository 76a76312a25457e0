use Rattle.std.proofs.Common.{◌∙◌, subst, inl, inr, refl}
use Rattle.std.specs.Prelude.{IfSome, OnErr}
use Rattle.real_forms.specs.System.{CutTo, CallFile}
use Rattle.real_forms.specs.Awaiting.{Awaiting, IsNamedAt}
use Rattle.real_forms.specs.Folder.{path_of}
use Rattle.real_forms.specs.declared.kept.Awaits.TheVariants.{Everything}
use Rattle.real_forms.proofs.AwaitingLemmas.{on_ok, on_err}
use Rattle.real_forms.proofs.FolderLemmas.{at_found, of_place, of_placed, keeps_along, keeps_by, opens_none, marks_along, marks_none}
use Rattle.real_forms.proofs.folder.Folder.cut.Goals as goal

pub returns-in-Some-clause-cut : goal.returns-in-Some-clause-cut
returns-in-Some-clause-cut g c =
    let named = subst (λ found. IfSome found (λ place. IsNamedAt c.args.name.now place c.place_of.new.self.kept.files.items)) c.in-Some.is c.in_ok-place.ensures.place in
    of_placed g.R.System.answered (path_of c.args.self.now c.args.name.now) _ _ _ c.in-Some.place c.cut.result
    (λ file. g.R.System.file_answered (CutTo c.args.to) file × Awaiting c.args.name.now file Everything c.cut.new.self.files.items)
    (at_found _ _ _ _ c.in-Some.is c.in_ok-place.ensures.opened)
    (λ file at. on_ok c.cut.result (λ answered. (answered, c.cut.ensures.marked c.args.name.now file named at)) (c.cut.ensures.cut file at))

pub returns-in-Some-clause-keeps : goal.returns-in-Some-clause-keeps
returns-in-Some-clause-keeps g c =
    keeps_along g.R.System.answered c.place_of.ensures.keeps
    (keeps_by g.R.System.answered c.place_of.new.self c.cut.new.self (opens_none g.R.System.answered c.place_of.new.self c.cut.new.self c.cut.ensures.only)
    c.cut.ensures.still (λ was. c.cut.ensures.names ∙ was) c.cut.ensures.directory)

pub returns-in_err-place-clause-more : goal.returns-in_err-place-clause-more
returns-in_err-place-clause-more g c = marks_none c.place_of.ensures.more

pub returns-in-None-clause-more : goal.returns-in-None-clause-more
returns-in-None-clause-more g c = marks_none c.place_of.ensures.more

pub returns-in-Some-clause-more : goal.returns-in-Some-clause-more
returns-in-Some-clause-more g c =
    let named = subst (λ found. IfSome found (λ place. IsNamedAt c.args.name.now place c.place_of.new.self.kept.files.items)) c.in-Some.is c.in_ok-place.ensures.place in
    marks_along c.place_of.ensures.more (record { files = c.cut.ensures.more c.args.name.now named; names = inl c.cut.ensures.names })

pub returns-in-Some-clause-acts : goal.returns-in-Some-clause-acts
returns-in-Some-clause-acts g c =
    let named = subst (λ found. IfSome found (λ place. IsNamedAt c.args.name.now place c.place_of.new.self.kept.files.items)) c.in-Some.is c.in_ok-place.ensures.place in
    of_place g.R.System.answered (path_of c.args.self.now c.args.name.now) _ _ _ c.in-Some.place (λ file. g.R.System.one_act _ _ (CallFile file (CutTo c.args.to)))
    (at_found _ _ _ _ c.in-Some.is c.in_ok-place.ensures.opened) c.cut.ensures.once
    (λ file asked at once. inr (CallFile file (CutTo c.args.to), (file, asked, (refl, c.cut.ensures.marked c.args.name.now file named at)), once))

pub returns-in-Some-clause-refused : goal.returns-in-Some-clause-refused
returns-in-Some-clause-refused g c =
    of_place g.R.System.answered (path_of c.args.self.now c.args.name.now) _ _ _ c.in-Some.place (λ file. OnErr c.cut.result (g.R.System.failed (CallFile file (CutTo c.args.to))))
    (at_found _ _ _ _ c.in-Some.is c.in_ok-place.ensures.opened) c.cut.ensures.refused
    (λ file asked at then. on_err c.cut.result (λ failed. inr (file, asked, failed)) then)
