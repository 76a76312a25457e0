use Rattle.std.proofs.Common.{ℕ, List, Err, Ok, refl, ap, ◌∙◌, subst}
use Rattle.std.specs.Prelude.{OnErr}
use Rattle.weed_base.specs.Told.{Rose}
use Rattle.weed_base.specs.Sent.{bytes_sent}
use Rattle.weed_command.specs.Settling.{Settling, Tearing}
use Rattle.weed_command.proofs.HandedLemmas.{sends_behind}
use Rattle.weed_command.proofs.WrittenLemmas.{failed_in, hidden_cause}
use Rattle.weed_command.proofs.SettlingLemmas.{settles_sent, tears_sent}
use Rattle.weed_command.specs.declared.reply.ReplyFault.{ReplyFault}
use Rattle.weed_command.specs.declared.reply.ReplyFault.TheVariants.{DiskFault, Memory}
use Rattle.weed_command.proofs.SessionLemmas.{GivesTold, replied_leads, lacked_leads, faulted_leads}
use Rattle.weed_command.proofs.session.answer_request.Goals as goal

pub returns-in-Ok-clause-leads : goal.returns-in-Ok-clause-leads
returns-in-Ok-clause-leads g c old rest asking =
    let disk = g.H.Disk in
    let host = c.args.world.now.host in
    let moves = Settling disk.tick disk.images disk.image_since host c.reply_to_target.new.disk in
    let tears = Tearing disk.tick disk.images disk.image_since host c.reply_to_target.new.disk in
    let sent = Settling disk.tick disk.images disk.image_since host c.send_answer.new.host in
    let torn = Tearing disk.tick disk.images disk.image_since host c.send_answer.new.host in
    replied_leads (Rose (g.H.Host.send_faults host) (g.H.Host.send_faults c.send_answer.new.host)) moves tears sent torn old rest c.args.session.now.inbox.target (g.S.Source.left c.args.world.now.source)
    (bytes_sent (g.H.Host.sent c.args.world.now.host)) (bytes_sent (g.H.Host.sent c.reply_to_target.new.disk)) (bytes_sent (g.H.Host.sent c.send_answer.new.host))
    (g.H.Disk.files c.args.world.now.host) (g.H.Disk.files c.reply_to_target.new.disk) (g.H.Disk.files c.send_answer.new.host)
    (g.C.Clock.moments c.args.world.now.clock) (g.C.Clock.moments c.reply_to_target.new.clock)
    c.args.session.now (record { filer = c.reply_to_target.new.filer; inbox = c.args.session.now.inbox; ready = c.args.session.now.ready })
    c.in-Ok.reply c.as_slice.result.now c.send_answer.result
    asking.asked
    (subst (λ (target : List ℕ). GivesTold moves tears (g.H.Disk.files c.args.world.now.host) (g.C.Clock.moments c.args.world.now.clock) c.args.session.now.filer target (g.H.Disk.files c.reply_to_target.new.disk) (g.C.Clock.moments c.reply_to_target.new.clock) c.reply_to_target.new.filer (Ok c.in-Ok.reply)) c.target-target.ensures c.in-Ok.ensures.gives)
    (λ before after. settles_sent disk.tick disk.images disk.image_since host c.reply_to_target.new.disk c.send_answer.new.host before after c.send_answer.ensures.still)
    asking.filer asking.moments_are asking.sent_is (ap bytes_sent (g.met.H.Host.calls_keep_sent c.args.world.now.host c.reply_to_target.new.disk _ c.reply_to_target.ensures.beside refl)) c.send_answer.ensures.files c.as_slice.ensures
    c.send_answer.ensures.sends asking.left_is

pub returns-in-Err-Memory-clause-leads : goal.returns-in-Err-Memory-clause-leads
returns-in-Err-Memory-clause-leads g c old rest asking =
    let disk = g.H.Disk in
    let host = c.args.world.now.host in
    let moves = Settling disk.tick disk.images disk.image_since host c.reply_to_target.new.disk in
    let tears = Tearing disk.tick disk.images disk.image_since host c.reply_to_target.new.disk in
    let sent = Settling disk.tick disk.images disk.image_since host c.send_answer-in-Err-Memory.new.host in
    let torn = Tearing disk.tick disk.images disk.image_since host c.send_answer-in-Err-Memory.new.host in
    let given = subst (λ (fault : ReplyFault). GivesTold moves tears (g.H.Disk.files c.args.world.now.host) (g.C.Clock.moments c.args.world.now.clock) c.args.session.now.filer c.target-target.result.now (g.H.Disk.files c.reply_to_target.new.disk) (g.C.Clock.moments c.reply_to_target.new.clock) c.reply_to_target.new.filer (Err fault)) c.in-Err-Memory.field-0-is c.in-Err-Memory.ensures.gives in
    lacked_leads (Rose (g.H.Host.send_faults host) (g.H.Host.send_faults c.send_answer-in-Err-Memory.new.host)) moves tears sent torn old rest c.args.session.now.inbox.target (g.S.Source.left c.args.world.now.source)
    (bytes_sent (g.H.Host.sent c.args.world.now.host)) (bytes_sent (g.H.Host.sent c.reply_to_target.new.disk)) (bytes_sent (g.H.Host.sent c.send_answer-in-Err-Memory.new.host))
    (g.H.Disk.files c.args.world.now.host) (g.H.Disk.files c.reply_to_target.new.disk) (g.H.Disk.files c.send_answer-in-Err-Memory.new.host)
    (g.C.Clock.moments c.args.world.now.clock) (g.C.Clock.moments c.reply_to_target.new.clock)
    c.args.session.now (record { filer = c.reply_to_target.new.filer; inbox = c.args.session.now.inbox; ready = c.args.session.now.ready })
    c.as_slice-in-Err-Memory.result.now c.send_answer-in-Err-Memory.result
    asking.asked
    (subst (λ (target : List ℕ). GivesTold moves tears (g.H.Disk.files c.args.world.now.host) (g.C.Clock.moments c.args.world.now.clock) c.args.session.now.filer target (g.H.Disk.files c.reply_to_target.new.disk) (g.C.Clock.moments c.reply_to_target.new.clock) c.reply_to_target.new.filer (Err Memory)) c.target-target.ensures given)
    (λ before after. settles_sent disk.tick disk.images disk.image_since host c.reply_to_target.new.disk c.send_answer-in-Err-Memory.new.host before after c.send_answer-in-Err-Memory.ensures.still)
    asking.filer asking.moments_are asking.sent_is (ap bytes_sent (g.met.H.Host.calls_keep_sent c.args.world.now.host c.reply_to_target.new.disk _ c.reply_to_target.ensures.beside refl)) c.send_answer-in-Err-Memory.ensures.files
    (c.as_slice-in-Err-Memory.ensures ∙ c.args.session.now.ready.memory_is)
    c.send_answer-in-Err-Memory.ensures.sends asking.left_is

pub returns-in-Err-DiskFault-clause-leads : goal.returns-in-Err-DiskFault-clause-leads
returns-in-Err-DiskFault-clause-leads g c old rest asking =
    let disk = g.H.Disk in
    let host = c.args.world.now.host in
    let moves = Settling disk.tick disk.images disk.image_since host c.reply_to_target.new.disk in
    let tears = Tearing disk.tick disk.images disk.image_since host c.reply_to_target.new.disk in
    let sent = Settling disk.tick disk.images disk.image_since host c.send_all.new.host in
    let torn = Tearing disk.tick disk.images disk.image_since host c.send_all.new.host in
    let given = subst (λ (fault : ReplyFault). GivesTold moves tears (g.H.Disk.files c.args.world.now.host) (g.C.Clock.moments c.args.world.now.clock) c.args.session.now.filer c.target-target.result.now (g.H.Disk.files c.reply_to_target.new.disk) (g.C.Clock.moments c.reply_to_target.new.clock) c.reply_to_target.new.filer (Err fault)) c.in-Err-DiskFault.field-0-is c.in-Err-DiskFault.ensures.gives in
    faulted_leads (Rose (g.H.Host.send_faults host) (g.H.Host.send_faults c.send_all.new.host)) moves tears sent torn old rest c.args.session.now.inbox.target (g.S.Source.left c.args.world.now.source)
    (bytes_sent (g.H.Host.sent c.args.world.now.host)) (bytes_sent (g.H.Host.sent c.reply_to_target.new.disk)) (bytes_sent (g.H.Host.sent c.send_all.new.host))
    (g.H.Disk.files c.args.world.now.host) (g.H.Disk.files c.reply_to_target.new.disk) (g.H.Disk.files c.send_all.new.host)
    (g.C.Clock.moments c.args.world.now.clock) (g.C.Clock.moments c.reply_to_target.new.clock)
    c.args.session.now (record { filer = c.reply_to_target.new.filer; inbox = c.args.session.now.inbox; ready = c.args.session.now.ready })
    c.as_slice-in-Err-DiskFault.result.now c.send_all.result
    asking.asked
    (subst (λ (target : List ℕ). GivesTold moves tears (g.H.Disk.files c.args.world.now.host) (g.C.Clock.moments c.args.world.now.clock) c.args.session.now.filer target (g.H.Disk.files c.reply_to_target.new.disk) (g.C.Clock.moments c.reply_to_target.new.clock) c.reply_to_target.new.filer (Err DiskFault)) c.target-target.ensures given)
    (λ before after. tears_sent disk.tick disk.images disk.image_since host c.reply_to_target.new.disk c.send_all.new.host before after c.send_all.ensures.still)
    asking.filer asking.moments_are asking.sent_is (ap bytes_sent (g.met.H.Host.calls_keep_sent c.args.world.now.host c.reply_to_target.new.disk _ c.reply_to_target.ensures.beside refl)) c.send_all.ensures.files
    (c.as_slice-in-Err-DiskFault.ensures ∙ c.args.session.now.ready.disk_fault_is)
    c.send_all.ensures.bytes (subst (λ faults. OnErr c.send_all.result (Rose faults (g.H.Host.send_faults c.send_all.new.host))) (g.met.H.Host.calls_keep_send_faults c.args.world.now.host c.reply_to_target.new.disk _ c.reply_to_target.ensures.beside refl) (failed_in _ _ c.send_all.result c.send_all.ensures.cause)) asking.left_is

pub returns-in-Ok-clause-pieces : goal.returns-in-Ok-clause-pieces
returns-in-Ok-clause-pieces g c =
    sends_behind (g.H.Disk.tick c.send_answer.new.host) (g.H.Host.sent c.args.world.now.host) (g.H.Host.sent c.reply_to_target.new.disk) (g.H.Host.sent c.send_answer.new.host)
    (g.met.H.Host.calls_keep_sent c.args.world.now.host c.reply_to_target.new.disk _ c.reply_to_target.ensures.beside refl) c.send_answer.ensures.pieces

pub returns-in-Err-Memory-clause-pieces : goal.returns-in-Err-Memory-clause-pieces
returns-in-Err-Memory-clause-pieces g c =
    sends_behind (g.H.Disk.tick c.send_answer-in-Err-Memory.new.host) (g.H.Host.sent c.args.world.now.host) (g.H.Host.sent c.reply_to_target.new.disk) (g.H.Host.sent c.send_answer-in-Err-Memory.new.host)
    (g.met.H.Host.calls_keep_sent c.args.world.now.host c.reply_to_target.new.disk _ c.reply_to_target.ensures.beside refl) c.send_answer-in-Err-Memory.ensures.pieces

pub returns-in-Err-DiskFault-clause-pieces : goal.returns-in-Err-DiskFault-clause-pieces
returns-in-Err-DiskFault-clause-pieces g c =
    sends_behind (g.H.Disk.tick c.send_all.new.host) (g.H.Host.sent c.args.world.now.host) (g.H.Host.sent c.reply_to_target.new.disk) (g.H.Host.sent c.send_all.new.host)
    (g.met.H.Host.calls_keep_sent c.args.world.now.host c.reply_to_target.new.disk _ c.reply_to_target.ensures.beside refl) c.send_all.ensures.pieces

pub returns-in-Err-DiskFault-clause-write : goal.returns-in-Err-DiskFault-clause-write
returns-in-Err-DiskFault-clause-write g c =
    let faults = g.H.Host.send_faults in
    hidden_cause (faults c.args.world.now.host) (faults c.reply_to_target.new.disk) (faults c.send_all.new.host) c.send_all.result _ _
    (g.met.H.Host.calls_keep_send_faults c.args.world.now.host c.reply_to_target.new.disk _ c.reply_to_target.ensures.beside refl) c.send_all.ensures.cause (λ ended. cc) refl
