use Rattle.std.proofs.Common.{List, sym, subst, ◌∙◌, Err}
use Rattle.std.specs.Prelude.{IfSome}
use Rattle.std.specs.FinMap.{get}
use Rattle.std.proofs.lemmas.Result.{err_from_is_err_and}
use Rattle.needle.specs.declared.item.ReadItem.{ReadItem}
use Rattle.volume_items.specs.Contents.{contents_of}
use Rattle.volume.specs.Holds.{Holds}
use Rattle.volume.specs.Reads.{ReadsFrom}
use Rattle.volume.proofs.Found.{told_failed, told_none, told_ok, told_other}
use Rattle.volume.proofs.held.Volume.read.Goals as goal

pub returns-in-None-clause-contents : goal.returns-in-None-clause-contents
returns-in-None-clause-contents g c = told_none (g.D.Disk.files c.args.disk.now) c.args.self.now c.args.key (sym c.get.ensures ∙ c.in-None.is)

pub returns-in_err-needle-clause-contents : goal.returns-in_err-needle-clause-contents
returns-in_err-needle-clause-contents g c =
    let p = err_from_is_err_and c.from_residual.result c.from_residual.ensures.1 in
    subst (λ r. IfSome (g.D.Disk.files c.args.disk.now) (λ files. (items : List ReadItem) → Holds c.args.self.now items files
    → ReadsFrom (get (contents_of items) c.args.key) c.args.cookie r)) (sym p.1)
    (subst (λ f. IfSome (g.D.Disk.files c.args.disk.now) (λ files. (items : List ReadItem) → Holds c.args.self.now items files
    → ReadsFrom (get (contents_of items) c.args.key) c.args.cookie (Err f))) (sym p.2)
    (told_failed (g.D.Disk.files c.args.disk.now) c.args.self.now c.args.key c.args.cookie c.in-Some.spot c.in_err-needle.field-0.0 (sym c.get.ensures ∙ c.in-Some.is)
    c.in_err-needle.ensures.fault c.in_err-needle.ensures.gets))

pub returns-then-needle-cookie-clause-contents : goal.returns-then-needle-cookie-clause-contents
returns-then-needle-cookie-clause-contents g c =
    told_other (g.D.Disk.files c.args.disk.now) c.args.self.now c.args.key c.args.cookie c.in-Some.spot c.in_ok-needle.needle (sym c.get.ensures ∙ c.in-Some.is) c.in_ok-needle.ensures.gets

pub returns-clause-contents : goal.returns-clause-contents
returns-clause-contents g c =
    told_ok (g.D.Disk.files c.args.disk.now) c.args.self.now c.args.key c.args.cookie c.in-Some.spot c.in_ok-needle.needle (sym c.get.ensures ∙ c.in-Some.is) c.in_ok-needle.ensures.gets
