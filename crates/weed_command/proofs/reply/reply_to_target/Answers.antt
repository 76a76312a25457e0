use Rattle.std.proofs.Common.{◌≡◌, ℕ, List, Ok, Err, Result, refl, sym, ◌∙◌, subst}
use Rattle.std.specs.Prelude.{MatchOption, IsOkUnless}
use Rattle.weed_base.specs.PathFaults.{read_fault}
use Rattle.weed_base.specs.declared.path_fault.PathFault.{PathFault}
use Rattle.weed_base.specs.declared.path_fault.PathFault.TheVariants as path_fault
use Rattle.weed_command.specs.Settling.{Settling, Tearing}
use Rattle.weed_command.proofs.SettlingLemmas.{settles_nothing}
use Rattle.weed_command.proofs.ReplyLemmas.{gives_target, gives_fault}
use Rattle.weed_command.proofs.reply.reply_to_target.Goals as goal

pub returns-in-Ok-clause-gives : goal.returns-in-Ok-clause-gives
returns-in-Ok-clause-gives g c files moments records told coming filed =
    gives_target c.args.target.now c.in-Ok.path (Ok c.in-Ok.path)
    (Settling g.D.Disk.tick g.D.Disk.images g.D.Disk.image_since c.args.disk.now c.reply_to_path.new.disk records) (Tearing g.D.Disk.tick g.D.Disk.images g.D.Disk.image_since c.args.disk.now c.reply_to_path.new.disk records) records moments (g.D.Disk.files c.reply_to_path.new.disk) (g.C.Clock.moments c.reply_to_path.new.clock) c.reply_to_path.new.filer c.reply_to_path.result
    refl
    (subst (λ (text : List ℕ). MatchOption (read_fault text) (IsOkUnless {T = List (List ℕ)} (Ok c.in-Ok.path) path_fault.Memory) (λ f. Ok c.in-Ok.path ≡ Err f)) c.path_of_target.ensures c.in-Ok.ensures.refused)
    c.in-Ok.ensures.found.0 (sym c.path_of_target.ensures ∙ c.in-Ok.ensures.found.1)
    (c.reply_to_path.ensures.gives files moments records told coming filed)

pub returns-in-Err-clause-gives : goal.returns-in-Err-clause-gives
returns-in-Err-clause-gives g c files moments records told coming filed =
    let disk = g.D.Disk in
    let same = c.args.disk.now in
    let read : Result (List (List ℕ)) PathFault = Err c.in-Err.fault in
    gives_fault c.args.target.now c.in-Err.fault read (Settling disk.tick disk.images disk.image_since same same records) (Tearing disk.tick disk.images disk.image_since same same records)
    records moments (disk.files same) (disk.files same) (g.C.Clock.moments c.args.clock.now) (g.C.Clock.moments c.args.clock.now) c.args.filer.now c.fault_reply.result
    refl
    (subst (λ (text : List ℕ). MatchOption (read_fault text) (IsOkUnless read path_fault.Memory) (λ (f : PathFault). read ≡ Err f)) c.path_of_target.ensures c.in-Err.ensures.refused)
    c.fault_reply.ensures files told filed coming (settles_nothing disk.tick disk.images disk.image_since same records)
