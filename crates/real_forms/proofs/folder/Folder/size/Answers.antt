use Rattle.std.proofs.Common.{◌≡◌, length, subst}
use Rattle.std.specs.Prelude.{IfSome}
use Rattle.real_forms.specs.Awaiting.{IsNamedAt}
use Rattle.real_forms.specs.Folder.{path_of}
use Rattle.real_forms.proofs.FolderLemmas.{at_found, of_found}
use Rattle.real_forms.proofs.folder.Folder.size.Goals as goal

pub returns-in_ok-size-in-Some-clause-size : goal.returns-in_ok-size-in-Some-clause-size
returns-in_ok-size-in-Some-clause-size g c =
    let named = subst (λ found. IfSome found (λ place. IsNamedAt c.args.name.now place c.place_of.new.self.kept.files.items)) c.in-Some.is c.in_ok-place.ensures.place in
    of_found g.R.System.answered (path_of c.args.self.now c.args.name.now) _ _ _ c.in-Some.place (λ file. IfSome (g.F.SystemFile.bytes file) (λ told. c.in_ok-size-in-Some.field-0 ≡ length told)) c.file.result.now named.0 c.file.ensures
    (at_found _ _ _ _ c.in-Some.is c.in_ok-place.ensures.opened) c.in_ok-size-in-Some.ensures
