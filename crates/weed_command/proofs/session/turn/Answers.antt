use Rattle.std.proofs.Common.{refl, sym, subst, ◌∙◌}
use Rattle.weed_base.specs.Told.{Rose}
use Rattle.weed_base.specs.Files.{BothTold}
use Rattle.weed_base.specs.Sent.{bytes_sent}
use Rattle.weed_command.specs.Growth.{GrowsByRecords}
use Rattle.weed_command.specs.Settling.{Settling, Tearing}
use Rattle.weed_command.proofs.GrowthLemmas.{grows_not}
use Rattle.weed_command.proofs.HandedLemmas.{sends_nothing}
use Rattle.weed_command.proofs.SettlingLemmas.{settles_nothing, settles_sent}
use Rattle.weed_command.proofs.SessionLemmas.{asking_found, refused_leads, ended_leads, unread_leads}
use Rattle.weed_command.proofs.session.turn.Goals as goal

pub returns-in-Ok-Request-clause-leads : goal.returns-in-Ok-Request-clause-leads
returns-in-Ok-Request-clause-leads g c old tells =
    let found = asking_found old (g.S.Source.left c.args.world.now.source) (g.S.Source.left c.next_head.new.from) (bytes_sent (g.H.Host.sent c.args.world.now.host)) (g.H.Disk.files c.args.world.now.host) (g.C.Clock.moments c.args.world.now.clock)
    c.args.session.now (record { filer = c.args.session.now.filer; inbox = c.next_head.new.inbox; ready = c.args.session.now.ready }) c.in-Ok-Request.field-0
    tells c.in-Ok-Request.field-0-is c.in-Ok-Request.ensures.head refl in
    c.answer_request.ensures.leads old found.0 found.1

pub returns-in-Ok-NotYet-clause-leads : goal.returns-in-Ok-NotYet-clause-leads
returns-in-Ok-NotYet-clause-leads g c old tells =
    let disk = g.H.Disk in
    let host = c.args.world.now.host in
    refused_leads (Rose (g.H.Host.send_faults host) (g.H.Host.send_faults c.send_answer.new.host)) (Settling disk.tick disk.images disk.image_since host c.send_answer.new.host old.log) (Tearing disk.tick disk.images disk.image_since host c.send_answer.new.host old.log) old (g.S.Source.left c.args.world.now.source) (g.S.Source.left c.next_head.new.from) (bytes_sent (g.H.Host.sent c.args.world.now.host)) (bytes_sent (g.H.Host.sent c.send_answer.new.host)) (g.H.Disk.files c.args.world.now.host) (g.H.Disk.files c.send_answer.new.host) (g.C.Clock.moments c.args.world.now.clock)
    c.args.session.now (record { filer = c.args.session.now.filer; inbox = c.next_head.new.inbox; ready = c.args.session.now.ready }) c.in-Ok-NotYet.field-0 c.as_slice.result.now c.send_answer.result
    tells c.in-Ok-NotYet.field-0-is c.in-Ok-NotYet.ensures.head refl c.send_answer.ensures.files (c.as_slice.ensures ∙ c.args.session.now.ready.not_yet_is) c.send_answer.ensures.sends
    (settles_sent disk.tick disk.images disk.image_since host host c.send_answer.new.host old.log old.log c.send_answer.ensures.still (settles_nothing disk.tick disk.images disk.image_since host old.log))

pub returns-in-Ok-End-clause-leads : goal.returns-in-Ok-End-clause-leads
returns-in-Ok-End-clause-leads g c old tells =
    let disk = g.H.Disk in
    let host = c.args.world.now.host in
    let left = g.S.Source.left c.next_head.new.from in
    ended_leads (Rose (g.H.Host.send_faults host) (g.H.Host.send_faults host)) (Settling disk.tick disk.images disk.image_since host host old.log) (Tearing disk.tick disk.images disk.image_since host host old.log) old (g.S.Source.left c.args.world.now.source) left
    (bytes_sent (g.H.Host.sent host)) (disk.files host) (g.C.Clock.moments c.args.world.now.clock)
    c.args.session.now (record { filer = c.args.session.now.filer; inbox = c.next_head.new.inbox; ready = c.args.session.now.ready }) c.in-Ok-End.field-0
    tells c.in-Ok-End.field-0-is c.in-Ok-End.ensures.head (settles_nothing disk.tick disk.images disk.image_since host old.log)

pub returns-in-Ok-End-clause-pieces : goal.returns-in-Ok-End-clause-pieces
returns-in-Ok-End-clause-pieces g c = sends_nothing (g.H.Disk.tick c.args.world.now.host) (g.H.Host.sent c.args.world.now.host)

pub returns-in-Err-clause-leads : goal.returns-in-Err-clause-leads
returns-in-Err-clause-leads g c old tells =
    let disk = g.H.Disk in
    let host = c.args.world.now.host in
    unread_leads (Rose (g.H.Host.send_faults host) (g.H.Host.send_faults host)) (Settling disk.tick disk.images disk.image_since host host old.log) (Tearing disk.tick disk.images disk.image_since host host old.log) old (g.S.Source.left c.args.world.now.source) (g.S.Source.left c.next_head.new.from)
    (bytes_sent (g.H.Host.sent host)) (disk.files host) (g.C.Clock.moments c.args.world.now.clock)
    c.args.session.now (record { filer = c.args.session.now.filer; inbox = c.next_head.new.inbox; ready = c.args.session.now.ready })
    tells c.in-Err.ensures.head (settles_nothing disk.tick disk.images disk.image_since host old.log)

pub returns-in-Err-clause-pieces : goal.returns-in-Err-clause-pieces
returns-in-Err-clause-pieces g c = sends_nothing (g.H.Disk.tick c.args.world.now.host) (g.H.Host.sent c.args.world.now.host)

pub returns-in-Ok-NotYet-clause-grows : goal.returns-in-Ok-NotYet-clause-grows
returns-in-Ok-NotYet-clause-grows g c =
    let files = g.H.Disk.files c.args.world.now.host in
    subst (BothTold GrowsByRecords files) (sym c.send_answer.ensures.files) (grows_not files)
