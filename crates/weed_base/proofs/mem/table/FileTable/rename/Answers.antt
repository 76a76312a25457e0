use Rattle.std.proofs.Common.{◌≡◌, IsSome, unwrap_or, [], sym, ap, ◌∙◌, subst, refl}
use Rattle.std.specs.Cmp.Lexicographic.{same_text}
use Rattle.std.specs.FinMap.{get, insert, remove}
use Rattle.weed_base.specs.Files.{renamed}
use Rattle.weed_base.proofs.TableLemmas.{get-made_other, get-made_left, renamed-steps, renamed-same}
use Rattle.weed_base.proofs.mem.table.FileTable.rename.Goals as goal

pub returns-then-eq-clause-ok : goal.returns-then-eq-clause-ok
returns-then-eq-clause-ok c =
    let same = same_text c.args.from.now c.args.to.now (sym c.if-eq.true ∙ c.eq.ensures) in
    subst (λ to. c.args.self.now ≡ renamed c.args.from.now to c.args.self.now) same (renamed-same c.args.self.now c.args.from.now c.requires)

pub unwrap-file-requires : goal.unwrap-file-requires
unwrap-file-requires c =
    let from = c.args.from.now in
    let moved = c.remove.ensures.file ∙ ap (λ files. get files from) c.in_ok-make.ensures.ok ∙ get-made_other c.args.self.now c.args.to.now from (sym c.eq.ensures ∙ c.if-eq.false) in
    subst IsSome (sym moved) c.requires

pub replace-requires : goal.replace-requires
replace-requires c =
    let from = c.args.from.now in
    let to = c.args.to.now in
    let left = c.remove.ensures.after ∙ ap (λ files. remove files from) c.in_ok-make.ensures.ok in
    let empty = ap (λ files. get files to) left ∙ get-made_left c.args.self.now to from (sym c.eq.ensures ∙ c.if-eq.false) in
    subst IsSome (sym empty) refl

pub returns-clause-ok : goal.returns-clause-ok
returns-clause-ok c =
    let table = c.args.self.now in
    let from = c.args.from.now in
    let to = c.args.to.now in
    let left = c.remove.ensures.after ∙ ap (λ files. remove files from) c.in_ok-make.ensures.ok in
    let moved = c.remove.ensures.file ∙ ap (λ files. get files from) c.in_ok-make.ensures.ok ∙ get-made_other table to from (sym c.eq.ensures ∙ c.if-eq.false) in
    let bytes = ap (λ found. unwrap_or found []) (sym c.unwrap-file.ensures ∙ moved) in
    c.replace.ensures ∙ ap (λ files. insert files to c.unwrap-file.result) left ∙ renamed-steps table from to c.unwrap-file.result ∙ ap (insert (remove table from) to) bytes
