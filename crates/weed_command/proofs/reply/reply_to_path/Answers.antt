use Rattle.std.proofs.Common.{◌∙◌, ap, subst, sym, Err, Result}
use Rattle.std.proofs.lemmas.Result.{err_from_is_err_and}
use Rattle.weed_command.specs.Replied.{GivesFor}
use Rattle.weed_command.specs.declared.reply.Reply.{Reply}
use Rattle.weed_command.specs.declared.reply.ReplyFault.{ReplyFault}
use Rattle.weed_command.specs.Settling.{Settling, Tearing}
use Rattle.weed_command.proofs.ReplyLemmas.{MakesTold, ImagesTold, gives_made, gives_refused, gives_no_memory, refused_no_memory, gives_disk_fault}
use Rattle.weed_command.proofs.reply.reply_to_path.Goals as goal

pub returns-in-Ok-clause-gives : goal.returns-in-Ok-clause-gives
returns-in-Ok-clause-gives g c =
    gives_made (g.D.Disk.files c.args.disk.now) (g.D.Disk.files c.make_dir.new.disk) (g.C.Clock.moments c.args.clock.now) (g.C.Clock.moments c.now-moment.new.self)
    c.args.filer.now c.make_dir.new.self c.args.path c.now-moment.result _ c.in_ok-made.made
    (Settling g.D.Disk.tick g.D.Disk.images g.D.Disk.image_since c.args.disk.now c.make_dir.new.disk) (Tearing g.D.Disk.tick g.D.Disk.images g.D.Disk.image_since c.args.disk.now c.make_dir.new.disk)
    c.in-Ok.ensures.made c.in-Ok.ensures.images (record { moment_is = c.now-moment.ensures.moment; later_is = c.now-moment.ensures.later })
    c.in_ok-made.ensures.answer c.in_ok-made.ensures.closes

pub returns-in_err-refusal_reply-in-Err-Refused-clause-gives : goal.returns-in_err-refusal_reply-in-Err-Refused-clause-gives
returns-in_err-refusal_reply-in-Err-Refused-clause-gives g c files moments records told coming filed =
    let old = g.D.Disk.files c.args.disk.now in
    let new = g.D.Disk.files c.make_dir.new.disk in
    let moves = Settling g.D.Disk.tick g.D.Disk.images g.D.Disk.image_since c.args.disk.now c.make_dir.new.disk in
    let tears = Tearing g.D.Disk.tick g.D.Disk.images g.D.Disk.image_since c.args.disk.now c.make_dir.new.disk in
    let p = err_from_is_err_and c.from_residual-in_err-refusal_reply-in-Err-Refused.result c.from_residual-in_err-refusal_reply-in-Err-Refused.ensures.1 in
    subst (λ (r : Result Reply ReplyFault). GivesFor c.args.path records moments (moves records) (tears records) new (g.C.Clock.moments c.now-moment.new.self) c.make_dir.new.self r)
    (sym (p.1 ∙ ap Err p.2))
    (refused_no_memory old new (g.C.Clock.moments c.args.clock.now) (g.C.Clock.moments c.now-moment.new.self) c.args.filer.now c.make_dir.new.self c.args.path c.now-moment.result c.in-Err-Refused.refusal moves tears
    (subst (λ f. MakesTold old new c.args.filer.now c.make_dir.new.self c.args.path c.now-moment.result (Err f)) c.in-Err-Refused.field-0-is c.in-Err-Refused.ensures.made)
    (subst (λ f. ImagesTold old c.args.filer.now c.args.path c.now-moment.result moves tears (Err f)) c.in-Err-Refused.field-0-is c.in-Err-Refused.ensures.images)
    (record { moment_is = c.now-moment.ensures.moment; later_is = c.now-moment.ensures.later }) files moments records told coming filed)

pub returns-in-Err-Refused-clause-gives : goal.returns-in-Err-Refused-clause-gives
returns-in-Err-Refused-clause-gives g c =
    let old = g.D.Disk.files c.args.disk.now in
    let new = g.D.Disk.files c.make_dir.new.disk in
    let moves = Settling g.D.Disk.tick g.D.Disk.images g.D.Disk.image_since c.args.disk.now c.make_dir.new.disk in
    let tears = Tearing g.D.Disk.tick g.D.Disk.images g.D.Disk.image_since c.args.disk.now c.make_dir.new.disk in
    gives_refused old new (g.C.Clock.moments c.args.clock.now) (g.C.Clock.moments c.now-moment.new.self)
    c.args.filer.now c.make_dir.new.self c.args.path c.now-moment.result c.in-Err-Refused.refusal c.in_ok-refusal_reply-in-Err-Refused.field-0 moves tears
    (subst (λ f. MakesTold old new c.args.filer.now c.make_dir.new.self c.args.path c.now-moment.result (Err f)) c.in-Err-Refused.field-0-is c.in-Err-Refused.ensures.made)
    (subst (λ f. ImagesTold old c.args.filer.now c.args.path c.now-moment.result moves tears (Err f)) c.in-Err-Refused.field-0-is c.in-Err-Refused.ensures.images)
    (record { moment_is = c.now-moment.ensures.moment; later_is = c.now-moment.ensures.later })
    c.in_ok-refusal_reply-in-Err-Refused.ensures.answer c.in_ok-refusal_reply-in-Err-Refused.ensures.closes

pub returns-in-Err-DiskFault-clause-gives : goal.returns-in-Err-DiskFault-clause-gives
returns-in-Err-DiskFault-clause-gives g c =
    let old = g.D.Disk.files c.args.disk.now in
    let new = g.D.Disk.files c.make_dir.new.disk in
    let moves = Settling g.D.Disk.tick g.D.Disk.images g.D.Disk.image_since c.args.disk.now c.make_dir.new.disk in
    let tears = Tearing g.D.Disk.tick g.D.Disk.images g.D.Disk.image_since c.args.disk.now c.make_dir.new.disk in
    gives_disk_fault old new (g.C.Clock.moments c.args.clock.now) (g.C.Clock.moments c.now-moment.new.self)
    c.args.filer.now c.make_dir.new.self c.args.path c.now-moment.result moves tears
    (subst (λ f. MakesTold old new c.args.filer.now c.make_dir.new.self c.args.path c.now-moment.result (Err f)) c.in-Err-DiskFault.field-0-is c.in-Err-DiskFault.ensures.made)
    (subst (λ f. ImagesTold old c.args.filer.now c.args.path c.now-moment.result moves tears (Err f)) c.in-Err-DiskFault.field-0-is c.in-Err-DiskFault.ensures.images)
    (record { moment_is = c.now-moment.ensures.moment; later_is = c.now-moment.ensures.later })

pub returns-clause-gives : goal.returns-clause-gives
returns-clause-gives g c =
    let old = g.D.Disk.files c.args.disk.now in
    let new = g.D.Disk.files c.make_dir.new.disk in
    let moves = Settling g.D.Disk.tick g.D.Disk.images g.D.Disk.image_since c.args.disk.now c.make_dir.new.disk in
    let tears = Tearing g.D.Disk.tick g.D.Disk.images g.D.Disk.image_since c.args.disk.now c.make_dir.new.disk in
    gives_no_memory old new (g.C.Clock.moments c.args.clock.now) (g.C.Clock.moments c.now-moment.new.self)
    c.args.filer.now c.make_dir.new.self c.args.path c.now-moment.result moves tears
    (subst (λ f. MakesTold old new c.args.filer.now c.make_dir.new.self c.args.path c.now-moment.result (Err f)) c.in-Err-Memory.field-0-is c.in-Err-Memory.ensures.made)
    (subst (λ f. ImagesTold old c.args.filer.now c.args.path c.now-moment.result moves tears (Err f)) c.in-Err-Memory.field-0-is c.in-Err-Memory.ensures.images)
    (record { moment_is = c.now-moment.ensures.moment; later_is = c.now-moment.ensures.later })
