use Rattle.std.proofs.Common.{◌≡◌, ℕ, List, ◌⊎◌, OnOk, subst, inl}
use Rattle.real_forms.specs.Awaiting.{Covers, Awaiting, AwaitsNoMore, IsOpenAs}
use Rattle.real_forms.specs.declared.kept.KeptFile.{KeptFile}
use Rattle.real_forms.proofs.folder.Folder.keep.Goals as goal

pub returns-clause-marked : goal.returns-clause-marked
returns-clause-marked g c =
    subst (λ (name : List ℕ). OnOk c.keep.result (Awaiting name c.args.file c.args.awaits c.keep.new.self.files.items)) c.copy.ensures
    (subst (λ (kept : KeptFile g.row.F.Denot). OnOk c.keep.result (Awaiting kept.name kept.file kept.awaits c.keep.new.self.files.items)) c.new.ensures c.keep.ensures.marked)

pub returns-clause-only : goal.returns-clause-only
returns-clause-only g c =
    let Only : List ℕ → KeptFile g.row.F.Denot → Type 0 =
    λ name kept. (other : List ℕ) (held : g.row.F.Denot) → IsOpenAs other held c.keep.new.self.files.items → IsOpenAs other held c.args.self.now.kept.files.items ⊎ ((name ≡ other) × (kept.file ≡ held)) in
    subst (λ (name : List ℕ). Only name (record { name = c.args.name.now; file = c.args.file; awaits = c.args.awaits })) c.copy.ensures
    (subst (λ (kept : KeptFile g.row.F.Denot). Only kept.name kept) c.new.ensures c.keep.ensures.only)

pub returns-clause-more : goal.returns-clause-more
returns-clause-more g c =
    let Only : List ℕ → KeptFile g.row.F.Denot → Type 0 =
    λ name kept. AwaitsNoMore (λ other mark. (name ≡ other) × Covers kept.awaits mark) c.args.self.now.kept.files.items c.keep.new.self.files.items in
    record {
      files =
          subst (λ (name : List ℕ). Only name (record { name = c.args.name.now; file = c.args.file; awaits = c.args.awaits })) c.copy.ensures
          (subst (λ (kept : KeptFile g.row.F.Denot). AwaitsNoMore (λ other mark. (kept.name ≡ other) × Covers kept.awaits mark) c.args.self.now.kept.files.items c.keep.new.self.files.items) c.new.ensures c.keep.ensures.more);
      names = inl c.keep.ensures.names;
    }
