use Rattle.std.proofs.Common.{rules, ◌≡◌, List, subst, inl}
use Rattle.std.proofs.lemmas.Fn.{filter_same}
use Rattle.std.proofs.lemmas.List.Elements.{filter_passes}
use Rattle.real_forms.specs.Awaiting.{Covers, Awaiting, IsOpenAs}
use Rattle.real_forms.specs.declared.kept.KeptFile.{KeptFile}
use Rattle.real_forms.proofs.ListLemmas.{filter_any}
use Rattle.real_forms.proofs.AwaitingLemmas.{still_awaiting, awaits_something, something_awaited}
use Rattle.real_forms.proofs.kept.KeptFiles.let_idle_go.Goals as goal

pub returns-then-len-ge-MAX_KEPT-clause-still : goal.returns-then-len-ge-MAX_KEPT-clause-still
returns-then-len-ge-MAX_KEPT-clause-still g c =
    rw (filter_same _ (λ (kept : KeptFile g.row.F.Denot). awaits_something kept.awaits) _ (λ x b f' k. search rules) _ _ c.retain.ensures.filtered) (still_awaiting c.args.self.now.files.items)

pub returns-then-len-ge-MAX_KEPT-clause-only : goal.returns-then-len-ge-MAX_KEPT-clause-only
returns-then-len-ge-MAX_KEPT-clause-only g c = λ name file found.
    filter_any (λ kept. (kept.name ≡ name) × (kept.file ≡ file)) (λ kept. awaits_something kept.awaits) c.args.self.now.files.items
    (subst (λ (files : List (KeptFile g.row.F.Denot)). IsOpenAs name file files)
    (filter_same _ (λ (kept : KeptFile g.row.F.Denot). awaits_something kept.awaits) _ (λ x b f' k. search rules) _ _ c.retain.ensures.filtered) found)

pub returns-then-len-ge-MAX_KEPT-clause-few : goal.returns-then-len-ge-MAX_KEPT-clause-few
returns-then-len-ge-MAX_KEPT-clause-few g c = λ many.
    rw (filter_same _ (λ (kept : KeptFile g.row.F.Denot). awaits_something kept.awaits) _ (λ x b f' k. search rules) _ _ c.retain.ensures.filtered)
    (λ k d below none. something_awaited _ (filter_passes (λ (kept : KeptFile g.row.F.Denot). awaits_something kept.awaits) c.args.self.now.files.items k d below) none)

pub returns-then-len-ge-MAX_KEPT-clause-more : goal.returns-then-len-ge-MAX_KEPT-clause-more
returns-then-len-ge-MAX_KEPT-clause-more g c = λ name file mark something found.
    inl (filter_any (λ kept. (kept.name ≡ name) × ((kept.file ≡ file) × Covers kept.awaits mark)) (λ kept. awaits_something kept.awaits) c.args.self.now.files.items
    (subst (λ (files : List (KeptFile g.row.F.Denot)). Awaiting name file mark files)
    (filter_same _ (λ (kept : KeptFile g.row.F.Denot). awaits_something kept.awaits) _ (λ x b f' k. search rules) _ _ c.retain.ensures.filtered) found))
