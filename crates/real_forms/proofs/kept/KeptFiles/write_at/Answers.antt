use Rattle.std.proofs.Common.{◌≡◌, sym, subst, ap, ◌∙◌, OnOk, ◌⊎◌, inl, inr}
use Rattle.std.specs.Prelude.{OnErr}
use Rattle.real_forms.specs.System.{Write, CallFile}
use Rattle.real_forms.specs.Awaiting.{Covers}
use Rattle.real_forms.specs.declared.kept.Awaits.TheVariants.{Data}
use Rattle.real_forms.proofs.ListLemmas.{set_any}
use Rattle.real_forms.proofs.AwaitingLemmas.{still_set, named_set, no_more_set, rises_to_data}
use Rattle.real_forms.proofs.kept.KeptFiles.write_at.Goals as goal

pub returns-clause-marked : goal.returns-clause-marked
returns-clause-marked g c = λ name file named at fits.
    named_set (λ kept. (kept.file ≡ file) × Covers kept.awaits Data) _ _ c.index_mut.result.now c.write_at.new.self name named c.index_mut.ensures.value c.write_at.ensures.name
    (c.write_at.ensures.file ∙ ap (λ kept. kept.file) c.index_mut.ensures.value ∙ at c.index_mut.result.now, (c.write_at.ensures.marked fits))

pub returns-clause-written : goal.returns-clause-written
returns-clause-written g c = λ file at. subst (λ (asked : g.row.F.Denot). OnOk c.write_at.result (g.R.System.file_answered (Write c.args.at c.args.piece.now) asked)) (ap (λ kept. kept.file) c.index_mut.ensures.value ∙ at c.index_mut.result.now) c.write_at.ensures.written

pub returns-clause-still : goal.returns-clause-still
returns-clause-still g c = still_set _ _ c.index_mut.result.now c.write_at.new.self c.requires c.index_mut.ensures.value c.write_at.ensures.name c.write_at.ensures.file c.write_at.ensures.still

pub returns-clause-only : goal.returns-clause-only
returns-clause-only g c = λ name file.
    set_any (λ kept. (kept.name ≡ name) × (kept.file ≡ file)) _ c.args.place c.index_mut.result.now c.write_at.new.self c.requires c.index_mut.ensures.value
    (λ new. (sym c.write_at.ensures.name ∙ new.0, sym c.write_at.ensures.file ∙ new.1))

pub returns-clause-more : goal.returns-clause-more
returns-clause-more g c = λ name named.
    let is = ap (λ kept. kept.name) c.index_mut.ensures.value ∙ named.1 c.index_mut.result.now in
    no_more_set (λ other mark. (name ≡ other) × (mark ≡ Data)) _ _ c.index_mut.result.now c.write_at.new.self c.requires c.index_mut.ensures.value c.write_at.ensures.name c.write_at.ensures.file
    (λ mark something covers. elim (rises_to_data _ _ mark c.write_at.ensures.mark something covers) [ inl was ↦ inl was | inr is_data ↦ inr (sym is, is_data) ])

pub returns-clause-refused : goal.returns-clause-refused
returns-clause-refused g c = λ file at.
    subst (λ (asked : g.row.F.Denot). OnErr c.write_at.result ((c.write_at.new.system ≡ c.args.system.now) ⊎ g.R.System.failed (CallFile asked (Write c.args.at c.args.piece.now))))
    (ap (λ kept. kept.file) c.index_mut.ensures.value ∙ at c.index_mut.result.now) c.write_at.ensures.refused
