use Rattle.std.proofs.Common.{◌≡◌, sym, subst, ap, ◌∙◌, OnOk, inr}
use Rattle.std.specs.Prelude.{OnErr}
use Rattle.real_forms.specs.System.{CutTo, CallFile}
use Rattle.real_forms.specs.Awaiting.{Covers}
use Rattle.real_forms.specs.declared.kept.Awaits.TheVariants.{Everything}
use Rattle.real_forms.proofs.ListLemmas.{set_any}
use Rattle.real_forms.proofs.AwaitingLemmas.{still_set, named_set, no_more_set, covers_all}
use Rattle.real_forms.proofs.kept.KeptFiles.cut.Goals as goal

pub returns-clause-marked : goal.returns-clause-marked
returns-clause-marked g c = λ name file named at.
    named_set (λ kept. (kept.file ≡ file) × Covers kept.awaits Everything) _ _ c.index_mut.result.now c.cut.new.self name named c.index_mut.ensures.value c.cut.ensures.name
    (c.cut.ensures.file ∙ ap (λ kept. kept.file) c.index_mut.ensures.value ∙ at c.index_mut.result.now, (rw c.cut.ensures.marked tt))

pub returns-clause-cut : goal.returns-clause-cut
returns-clause-cut g c = λ file at. subst (λ (asked : g.row.F.Denot). OnOk c.cut.result (g.R.System.file_answered (CutTo c.args.to) asked)) (ap (λ kept. kept.file) c.index_mut.ensures.value ∙ at c.index_mut.result.now) c.cut.ensures.cut

pub returns-clause-still : goal.returns-clause-still
returns-clause-still g c = still_set _ _ c.index_mut.result.now c.cut.new.self c.requires c.index_mut.ensures.value c.cut.ensures.name c.cut.ensures.file (rw c.cut.ensures.marked (covers_all _))

pub returns-clause-only : goal.returns-clause-only
returns-clause-only g c = λ name file.
    set_any (λ kept. (kept.name ≡ name) × (kept.file ≡ file)) _ c.args.place c.index_mut.result.now c.cut.new.self c.requires c.index_mut.ensures.value
    (λ new. (sym c.cut.ensures.name ∙ new.0, sym c.cut.ensures.file ∙ new.1))

pub returns-clause-more : goal.returns-clause-more
returns-clause-more g c = λ name named.
    no_more_set (λ other mark. name ≡ other) _ _ c.index_mut.result.now c.cut.new.self c.requires c.index_mut.ensures.value c.cut.ensures.name c.cut.ensures.file
    (λ mark something covers. inr (sym (ap (λ kept. kept.name) c.index_mut.ensures.value ∙ named.1 c.index_mut.result.now)))

pub returns-clause-refused : goal.returns-clause-refused
returns-clause-refused g c = λ file at.
    subst (λ (asked : g.row.F.Denot). OnErr c.cut.result (g.R.System.failed (CallFile asked (CutTo c.args.to)))) (ap (λ kept. kept.file) c.index_mut.ensures.value ∙ at c.index_mut.result.now) c.cut.ensures.refused
