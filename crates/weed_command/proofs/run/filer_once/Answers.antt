use Rattle.std.proofs.Common.{◌≡◌, inl, inr, [], refl, ap, subst}
use Rattle.weed_base.specs.Told.{Rose}
use Rattle.weed_base.specs.Sent.{bytes_sent}
use Rattle.meta_log.specs.Making.{LeavesOthers}
use Rattle.meta_log.specs.declared.stem.Stem.TheVariants.{Log}
use Rattle.weed_command.specs.Causes.{IsCauseBeside}
use Rattle.weed_command.specs.Tells.{Ends}
use Rattle.weed_command.proofs.RunLemmas.{found_log, no_log_stays, begun_tells, early_stands, session_is_sound, session_has_words}
use Rattle.weed_command.proofs.GrowthLemmas.{grows_opened, grows_twice}
use Rattle.weed_command.proofs.SessionLemmas.{same_rests}
use Rattle.weed_command.proofs.SurvivalLemmas.{log_told, own_is_sound, survives_early, survives_session}
use Rattle.weed_command.specs.declared.exit.Exit.TheVariants.{DiskFault, WriteFault}
use Rattle.weed_command.proofs.run.filer_once.Goals as goal

pub returns-in-Ok-clause-good_words : goal.returns-in-Ok-clause-good_words
returns-in-Ok-clause-good_words g c place = session_has_words c.run.result place c.run.ensures.kind

pub returns-in-Ok-clause-damaged : goal.returns-in-Ok-clause-damaged
returns-in-Ok-clause-damaged g c = session_is_sound _ c.run.result c.run.ensures.kind

pub returns-in-Ok-clause-answers : goal.returns-in-Ok-clause-answers
returns-in-Ok-clause-answers g c first starts =
    let disk = g.H.Disk in
    let old = c.args.world.now.host in
    let mid = c.begin.new.host in
    let tells = begun_tells (g.S.Source.left c.args.world.now.source) (bytes_sent (g.H.Host.sent old)) (bytes_sent (g.H.Host.sent mid)) (disk.files old) (disk.files mid) (g.C.Clock.moments c.args.world.now.clock) c.in-Ok.session first
    starts c.in-Ok.ensures.began (ap bytes_sent (g.met.H.Host.calls_keep_sent c.args.world.now.host c.begin.new.host _ c.in-Ok.ensures.beside refl)) in
    let ran = c.run.ensures.ends first tells in
    let ends : Ends (Rose (g.H.Host.send_faults old) (g.H.Host.send_faults c.run.new.world.host)) c.run.result first ran.0 ran.1 =
    subst (λ faults. Ends (Rose faults (g.H.Host.send_faults c.run.new.world.host)) c.run.result first ran.0 ran.1) (g.met.H.Host.calls_keep_send_faults c.args.world.now.host c.begin.new.host _ c.in-Ok.ensures.beside refl) ran.3 in
    let log = log_told (disk.files old) first.log starts.stands.log_is in (
      ran.0,
      ran.1,
      ran.2,
      inl (
        ends,
        λ own.
            survives_session disk.tick disk.images disk.image_since g.H.Host.sent g.met.H.Disk.only_now g.met.H.Disk.counts_now old mid own (c.in-Ok.ensures.atomic log.0 log.1) _ c.run.result first ran.0 ran.1
            (own_is_sound (disk.images old) log.0 first.log own (g.met.H.Disk.reads_now old log.0 log.1) log.2)
            (ran.4 (c.in-Ok.ensures.settled log.0 first.log log.1 log.2)) _ ends,
      ),
    )

pub returns-in-Err-clause-answers : goal.returns-in-Err-clause-answers
returns-in-Err-clause-answers g c first starts =
    let disk = g.H.Disk in
    let old = c.args.world.now.host in
    let new = c.begin.new.host in
    let stands = early_stands (LeavesOthers Log) (g.S.Source.left c.args.world.now.source) (bytes_sent (g.H.Host.sent old)) (bytes_sent (g.H.Host.sent new)) (disk.files old) (disk.files new) (g.C.Clock.moments c.args.world.now.clock)
    first starts c.in-Err.ensures.others c.in-Err.ensures.kept (ap bytes_sent (g.met.H.Host.calls_keep_sent c.args.world.now.host c.begin.new.host _ c.in-Err.ensures.beside refl)) in
    let log = log_told (disk.files old) first.log starts.stands.log_is in (
      [],
      first,
      stands,
      inr (
        c.in-Err.ensures.early,
        refl,
        same_rests first,
        refl {a = c.args.world.now.source},
        λ own.
            survives_early disk.tick disk.images disk.image_since g.H.Host.sent g.met.H.Disk.only_now g.met.H.Disk.counts_now old new own (c.in-Err.ensures.atomic log.0 log.1) c.in-Err.exit first first
            stands.sent_is,
      ),
    )

pub returns-in-Ok-clause-unreadable : goal.returns-in-Ok-clause-unreadable
returns-in-Ok-clause-unreadable g c files told none =
    let found = found_log (g.H.Disk.files c.args.world.now.host) (g.H.Disk.files c.begin.new.host) c.in-Ok.session files told c.in-Ok.ensures.began in absurd (none found.0 found.1)

pub returns-in-Err-clause-unreadable : goal.returns-in-Err-clause-unreadable
returns-in-Err-clause-unreadable g c files told none =
    let disk = g.H.Disk in (
      record { early = c.in-Err.ensures.early; unsent = (g.met.H.Host.calls_keep_sent c.args.world.now.host c.begin.new.host _ c.in-Err.ensures.beside refl); unread = refl; unasked = refl },
      no_log_stays (disk.files c.args.world.now.host) (disk.files c.begin.new.host) files told none c.in-Err.ensures.made,
    )

pub returns-in-Ok-clause-own : goal.returns-in-Ok-clause-own
returns-in-Ok-clause-own g c files told own = session_is_sound _ c.run.result c.run.ensures.kind

pub returns-in-Ok-clause-unserved : goal.returns-in-Ok-clause-unserved
returns-in-Ok-clause-unserved g c unserved = absurd (unserved c.run.ensures.kind)

pub returns-in-Err-clause-unserved : goal.returns-in-Err-clause-unserved
returns-in-Err-clause-unserved g c unserved = record { early = c.in-Err.ensures.early; unsent = (g.met.H.Host.calls_keep_sent c.args.world.now.host c.begin.new.host _ c.in-Err.ensures.beside refl); unread = refl {a = c.args.world.now.source}; unasked = refl {a = c.args.world.now.clock} }

pub returns-in-Ok-clause-grows : goal.returns-in-Ok-clause-grows
returns-in-Ok-clause-grows g c =
    let files = g.H.Disk.files in
    let opened = grows_opened (files c.args.world.now.host) (files c.begin.new.host) c.begin.ensures.others c.begin.ensures.made in
    grows_twice (files c.args.world.now.host) (files c.begin.new.host) (files c.run.new.world.host) opened c.run.ensures.grows

pub returns-in-Err-clause-grows : goal.returns-in-Err-clause-grows
returns-in-Err-clause-grows g c = grows_opened (g.H.Disk.files c.args.world.now.host) (g.H.Disk.files c.begin.new.host) c.begin.ensures.others c.begin.ensures.made

pub returns-in-Ok-clause-write : goal.returns-in-Ok-clause-write
returns-in-Ok-clause-write g c =
    let faults = g.H.Host.send_faults in
    subst (λ before. IsCauseBeside before (faults c.run.new.world.host) (c.run.result ≡ WriteFault) (c.run.result ≡ DiskFault))
    (g.met.H.Host.calls_keep_send_faults c.args.world.now.host c.begin.new.host _ c.in-Ok.ensures.beside refl) c.run.ensures.write
