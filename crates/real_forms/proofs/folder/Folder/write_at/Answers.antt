use Rattle.std.proofs.Common.{◌≡◌, ◌<◌, ◌+◌, ◌^◌, length, ◌⊎◌, ◌∙◌, subst, inl, inr}
use Rattle.std.specs.Prelude.{IfSome, OnErr}
use Rattle.real_forms.specs.System.{Write, CallFile, ActsOnce}
use Rattle.real_forms.specs.Awaiting.{Awaiting, IsNamedAt}
use Rattle.real_forms.specs.Folder.{path_of}
use Rattle.real_forms.specs.declared.kept.Awaits.TheVariants.{Data}
use Rattle.real_forms.proofs.AwaitingLemmas.{both_ok, on_err}
use Rattle.real_forms.proofs.ActLemmas.{acts_once}
use Rattle.real_forms.proofs.FolderLemmas.{at_found, of_place, of_placed, keeps_along, keeps_by, opens_none, marks_along, marks_none}
use Rattle.real_forms.proofs.folder.Folder.write_at.Goals as goal

pub returns-in-Some-clause-written : goal.returns-in-Some-clause-written
returns-in-Some-clause-written g c =
    let named = subst (λ found. IfSome found (λ place. IsNamedAt c.args.name.now place c.place_of.new.self.kept.files.items)) c.in-Some.is c.in_ok-place.ensures.place in
    of_placed g.R.System.answered (path_of c.args.self.now c.args.name.now) _ _ _ c.in-Some.place c.write_at.result
    (λ file. g.R.System.file_answered (Write c.args.at c.args.piece.now) file × Awaiting c.args.name.now file Data c.write_at.new.self.files.items)
    (at_found _ _ _ _ c.in-Some.is c.in_ok-place.ensures.opened)
    (λ file at. both_ok _ _ _ c.write_at.result c.write_at.ensures.fits (c.write_at.ensures.written file at) (c.write_at.ensures.marked c.args.name.now file named at))

pub returns-in-Some-clause-keeps : goal.returns-in-Some-clause-keeps
returns-in-Some-clause-keeps g c =
    keeps_along g.R.System.answered c.place_of.ensures.keeps
    (keeps_by g.R.System.answered c.place_of.new.self c.write_at.new.self (opens_none g.R.System.answered c.place_of.new.self c.write_at.new.self c.write_at.ensures.only)
    c.write_at.ensures.still (λ was. c.write_at.ensures.names ∙ was) c.write_at.ensures.directory)

pub returns-in_err-place-clause-more : goal.returns-in_err-place-clause-more
returns-in_err-place-clause-more g c = marks_none c.place_of.ensures.more

pub returns-in-None-clause-more : goal.returns-in-None-clause-more
returns-in-None-clause-more g c = marks_none c.place_of.ensures.more

pub returns-in-Some-clause-more : goal.returns-in-Some-clause-more
returns-in-Some-clause-more g c =
    let named = subst (λ found. IfSome found (λ place. IsNamedAt c.args.name.now place c.place_of.new.self.kept.files.items)) c.in-Some.is c.in_ok-place.ensures.place in
    marks_along c.place_of.ensures.more (record { files = c.write_at.ensures.more c.args.name.now named; names = inl c.write_at.ensures.names })

pub returns-in-Some-clause-acts : goal.returns-in-Some-clause-acts
returns-in-Some-clause-acts g c =
    let named = subst (λ found. IfSome found (λ place. IsNamedAt c.args.name.now place c.place_of.new.self.kept.files.items)) c.in-Some.is c.in_ok-place.ensures.place in
    of_place g.R.System.answered (path_of c.args.self.now c.args.name.now) _ _ _ c.in-Some.place (λ file. ActsOnce g.R.System.one_act (λ act. (act ≡ CallFile file (Write c.args.at c.args.piece.now)) × (c.args.at + length c.args.piece.now < 2 ^ 63)) _ _)
    (at_found _ _ _ _ c.in-Some.is c.in_ok-place.ensures.opened) c.write_at.ensures.acts
    (λ file asked at once. acts_once g.R.System.one_act (λ act is. ((file, asked, (is.0, c.write_at.ensures.marked c.args.name.now file named at is.1)), is.1)) once)

pub returns-in-Some-clause-refused : goal.returns-in-Some-clause-refused
returns-in-Some-clause-refused g c =
    of_place g.R.System.answered (path_of c.args.self.now c.args.name.now) _ _ _ c.in-Some.place (λ file. OnErr c.write_at.result ((c.write_at.new.system ≡ c.args.system.now) ⊎ g.R.System.failed (CallFile file (Write c.args.at c.args.piece.now))))
    (at_found _ _ _ _ c.in-Some.is c.in_ok-place.ensures.opened) c.write_at.ensures.refused
    (λ file asked at then. on_err c.write_at.result (λ either. elim either [ inl same ↦ inl same | inr failed ↦ inr (file, asked, failed) ]) then)
