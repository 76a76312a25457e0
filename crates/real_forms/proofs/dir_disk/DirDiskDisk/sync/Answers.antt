use Rattle.std.proofs.Common.{◌∙◌, sym, ap, subst}
use Rattle.real_forms.specs.System.{ActsOnly, IsSettling}
use Rattle.real_forms.proofs.AwaitingLemmas.{on_ok, noted}
use Rattle.real_forms.proofs.dir_disk.DirDiskDisk.sync.Goals as goal
use Rattle.real_forms.proofs.dir_disk.DirDiskDisk.sync.Goals.{then-is_err, else-is_err}

pub returns-clause-done : goal.returns-clause-done
returns-clause-done g c =
    let Done : g.row.R.Denot → Type 0 = λ system. ActsOnly g.R.System.one_done IsSettling c.args.self.now.system system in
    let settled = noted (Done c.sync-answer.new.system) c.sync-answer.result c.note.result (record {}) c.note.ensures.value c.sync-answer.ensures.done in
    elim c.if-is_err.branch [
      | then-is_err w ↦ on_ok c.note.result (subst Done (sym (ap (λ disk. disk.system) w.self-is ∙ w.break_off.ensures.rest.1))) settled
      | else-is_err w ↦ on_ok c.note.result (subst Done (sym (ap (λ disk. disk.system) w.self-is))) settled
    ]
