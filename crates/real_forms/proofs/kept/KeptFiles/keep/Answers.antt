use Rattle.std.proofs.Common.{◌≡◌, ◌⊎◌, refl, inl, inr, subst, List}
use Rattle.std.proofs.lemmas.List.Elements.{All-push}
use Rattle.std.proofs.lemmas.List.Quantifiers.{Any-push}
use Rattle.real_forms.specs.Awaiting.{Covers, Awaiting, IsOpenAs, AwaitsSomething}
use Rattle.real_forms.specs.declared.kept.KeptFile.{KeptFile}
use Rattle.real_forms.proofs.ListLemmas.{push_any}
use Rattle.real_forms.proofs.AwaitingLemmas.{still_push, covers_same}
use Rattle.real_forms.proofs.kept.KeptFiles.keep.Goals as goal

pub returns-in_err-push-clause-still : goal.returns-in_err-push-clause-still
returns-in_err-push-clause-still g c = rw c.in_err-push.ensures.items c.let_idle_go.ensures.still

pub returns-in_err-push-clause-only : goal.returns-in_err-push-clause-only
returns-in_err-push-clause-only g c = λ name file found.
    inl (c.let_idle_go.ensures.only name file (subst (λ (files : List (KeptFile g.row.F.Denot)). IsOpenAs name file files) c.in_err-push.ensures.items found))

pub returns-clause-marked : goal.returns-clause-marked
returns-clause-marked g c =
    rw c.in_ok-push.ensures.items (Any-push (λ kept. (kept.name ≡ c.args.opened.name) × ((kept.file ≡ c.args.opened.file) × Covers kept.awaits c.args.opened.awaits)) _ c.args.opened (refl, (refl, covers_same _)))

pub returns-clause-still : goal.returns-clause-still
returns-clause-still g c =
    rw c.in_ok-push.ensures.items (λ name file mark something found. still_push c.let_idle_go.new.self.files.items c.args.opened name file mark something (c.let_idle_go.ensures.still name file mark something found))

pub returns-clause-only : goal.returns-clause-only
returns-clause-only g c = λ name file found.
    let there = subst (λ (files : List (KeptFile g.row.F.Denot)). IsOpenAs name file files) c.in_ok-push.ensures.items found in
    elim (push_any (λ kept. (kept.name ≡ name) × (kept.file ≡ file)) c.let_idle_go.new.self.files.items c.args.opened there) [
      | inl was ↦ inl (c.let_idle_go.ensures.only name file was)
      | inr new ↦ inr new
    ]

pub returns-in_err-push-clause-few : goal.returns-in_err-push-clause-few
returns-in_err-push-clause-few g c = λ many. rw c.in_err-push.ensures.items (λ k d below. inl (c.let_idle_go.ensures.few many k d below))

pub returns-clause-few : goal.returns-clause-few
returns-clause-few g c = λ many.
    let some : KeptFile g.row.F.Denot → Type 0 = λ kept. AwaitsSomething kept ⊎ (kept ≡ c.args.opened) in
    rw c.in_ok-push.ensures.items (All-push some c.let_idle_go.new.self.files.items c.args.opened (λ k d below. inl (c.let_idle_go.ensures.few many k d below)) (inr refl))

pub returns-in_err-push-clause-more : goal.returns-in_err-push-clause-more
returns-in_err-push-clause-more g c = λ name file mark something found.
    elim (c.let_idle_go.ensures.more name file mark something (subst (λ (files : List (KeptFile g.row.F.Denot)). Awaiting name file mark files) c.in_err-push.ensures.items found)) [
      | inl was ↦ inl was
      | inr none ↦ absurd none
    ]

pub returns-clause-more : goal.returns-clause-more
returns-clause-more g c = λ name file mark something found.
    let there = subst (λ (files : List (KeptFile g.row.F.Denot)). Awaiting name file mark files) c.in_ok-push.ensures.items found in
    elim (push_any (λ kept. (kept.name ≡ name) × ((kept.file ≡ file) × Covers kept.awaits mark)) c.let_idle_go.new.self.files.items c.args.opened there) [
      | inl was ↦ elim (c.let_idle_go.ensures.more name file mark something was) [ inl stood ↦ inl stood | inr none ↦ absurd none ]
      | inr new ↦ inr (new.0, new.1.1)
    ]
