use Rattle.std.proofs.Common.{[], sym, ap, ◌∙◌, subst}
use Rattle.std.proofs.lemmas.Result.{IfOk-weaker}
use Rattle.weed_base.specs.History.{IsEarlier}
use Rattle.weed_base.specs.MemForms.{disk_of, present, images_since}
use Rattle.weed_base.proofs.HistoryLemmas.{picked-now, picked-since}
use Rattle.weed_base.proofs.mem.disk.MemDisk.image.Goals as goal

pub returns-clause-image : goal.returns-clause-image
returns-clause-image c =
    let files = c.in_ok-entries.ensures ∙ c.in_ok-table.ensures in
    IfOk-weaker c.new-2.result _ _ (λ disk is. is ∙ ap (disk_of _) c.new.ensures.items ∙ ap (λ settled. disk_of settled []) files) c.new-2.ensures

pub returns-clause-since : goal.returns-clause-since
returns-clause-since c =
    let files = c.in_ok-entries.ensures ∙ c.in_ok-table.ensures in
    let early = subst (λ disk. IsEarlier disk.calls.made disk.past) c.self.view_is c.self.invariant.1 in
    let since = picked-since c.args.self.now c.args.pick c.args.tick c.requires early in
    IfOk-weaker c.new-2.result _ _ (λ disk is. subst (images_since c.args.self.now c.args.tick) (sym (ap present is ∙ files)) since) c.new-2.ensures

pub returns-clause-reads : goal.returns-clause-reads
returns-clause-reads c = λ new now.
    let files = c.in_ok-entries.ensures ∙ c.in_ok-table.ensures in
    let early = subst (λ disk. IsEarlier disk.calls.made disk.past) c.self.view_is c.self.invariant.1 in
    IfOk-weaker c.new-2.result _ _ (λ disk is. ap present is ∙ files ∙ picked-now c.args.self.now c.args.pick c.args.tick new now early) c.new-2.ensures
