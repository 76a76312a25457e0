use Rattle.std.proofs.Common.{◌≡◌, map, ap, ◌∙◌, arith}
use Rattle.std.proofs.lemmas.List.{take_at}
use Rattle.std.proofs.lemmas.Slice.Zip.{AllZip-map}
use Rattle.real_forms.specs.Awaiting.{renamed_file}
use Rattle.real_forms.proofs.ListLemmas.{zip_of_places}
use Rattle.real_forms.proofs.kept.KeptFiles.rename.Goals as goal

pub returns-clause-files : goal.returns-clause-files
returns-clause-files g c =
    let initial = c.deref_mut-kept-items.result.now in
    let items = c.loop-kept.kept-items in
    let change = renamed_file c.args.from.now c.args.to.now in
    let renamed : items ≡ map change initial =
    AllZip-map change initial items
    (zip_of_places (λ before after. after ≡ change before) initial items (c.loop-kept.invariant.0, λ k d below. c.loop-kept.invariant.1 k d (omega (arith, below, c.loop-kept.invariant.0, c.loop-kept-test.false)))) in
    take_at items _ c.forget.new.self.files.len (c.loop-kept.invariant.0 ∙ c.deref_mut-kept-items.ensures.len) ∙ renamed
    ∙ ap (map change) (c.deref_mut-kept-items.ensures.value ∙ c.forget.ensures.files)
