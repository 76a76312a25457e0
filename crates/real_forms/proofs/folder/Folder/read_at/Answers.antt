use Rattle.std.proofs.Common.{inl, subst}
use Rattle.std.specs.Prelude.{IfSome}
use Rattle.weed_base.specs.Files.{ReadsAt}
use Rattle.real_forms.specs.Awaiting.{IsNamedAt}
use Rattle.real_forms.specs.Folder.{path_of}
use Rattle.real_forms.proofs.FolderLemmas.{at_found, of_found, if_ok}
use Rattle.real_forms.proofs.folder.Folder.read_at.Goals as goal

pub returns-in-Some-clause-read : goal.returns-in-Some-clause-read
returns-in-Some-clause-read g c =
    let named = subst (λ found. IfSome found (λ place. IsNamedAt c.args.name.now place c.place_of.new.self.kept.files.items)) c.in-Some.is c.in_ok-place.ensures.place in
    if_ok c.read_full.result (λ count reads. inl (of_found g.R.System.answered (path_of c.args.self.now c.args.name.now) _ _ _ c.in-Some.place (λ file. IfSome (g.F.SystemFile.bytes file) (λ told. ReadsAt told c.args.at count c.read_full.new.room)) c.file.result.now named.0 c.file.ensures
    (at_found _ _ _ _ c.in-Some.is c.in_ok-place.ensures.opened) reads)) c.read_full.ensures.read
