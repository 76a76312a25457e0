use Rattle.std.proofs.Common.{◌≡◌, ◌<◌, ◌+◌, ◌∙◌, ◌++◌, ◌∷◌, [], length, refl, sym, ap, subst, arith}
use Rattle.std.proofs.lemmas.List.{length_push}
use Rattle.weed_base.specs.Told.{Rose}
use Rattle.weed_base.specs.Sent.{bytes_sent}
use Rattle.weed_command.specs.Session.{State, Turn, last_of, most_turns}
use Rattle.weed_command.specs.declared.exit.Exit.TheVariants.{DiskFault, ReadFault, WriteFault}
use Rattle.weed_command.proofs.SessionLemmas.{rests, open_is_no_end}
use Rattle.weed_command.specs.Tells.{Tells}
use Rattle.weed_command.proofs.GrowthLemmas.{grows_not, grows_twice}
use Rattle.weed_command.proofs.CrashLemmas.{keeping_begins, keeping_more, last_of-push, steps-push, ends_after, spent_ends}
use Rattle.weed_command.proofs.session.run.Goals as goal

pub loop-turn-init : goal.loop-turn-init
loop-turn-init g c =
    let disk = g.H.Disk in
    record {
      held = c.requires;
      led = λ first tells. ([], tells, tt, refl, λ keep. keeping_begins disk.tick disk.images disk.image_since g.H.Host.sent g.met.H.Disk.only_now c.args.world.now.host first keep);
      faults = refl;
      read_faults = refl;
      send_faults = refl;
      grows = grows_not (disk.files c.args.world.now.host);
    }

pub loop-turn-preserved : goal.loop-turn-preserved
loop-turn-preserved g c =
    let disk = g.H.Disk in
    let start = c.args.world.now.host in
    let mid = c.loop-turn.world.host in
    let now = c.turn.new.world.host in
    record {
      held = c.in-Open.ensures.held refl;
      led = λ first tells.
          let before = c.loop-turn.invariant.led first tells in
          let turn = c.in-Open.ensures.leads (last_of first before.0) before.1 in (
            before.0 ++ turn.0 ∷ [],
            subst (λ (state : State). Tells (g.S.Source.left c.turn.new.world.source) (bytes_sent (g.H.Host.sent now)) (disk.files now) (g.C.Clock.moments c.turn.new.world.clock) c.turn.new.session state) (sym (last_of-push first before.0 turn.0)) turn.1,
            steps-push Turn first before.0 turn.0 before.2 turn.2,
            length_push before.0 turn.0 ∙ ap (λ n. n + 1) before.3,
            λ keep. keeping_more disk.tick disk.images disk.image_since g.H.Host.sent g.met.H.Disk.only_now start mid now first before.0 (before.4 keep) turn.0 turn.2 turn.3 c.in-Open.ensures.pieces before.1.sent_is,
          );
      faults = c.in-Open.ensures.disk.quiet (open_is_no_end DiskFault) ∙ c.loop-turn.invariant.faults;
      read_faults = c.in-Open.ensures.read.quiet (open_is_no_end ReadFault) ∙ c.loop-turn.invariant.read_faults;
      send_faults = c.in-Open.ensures.write.quiet (open_is_no_end WriteFault) (open_is_no_end DiskFault) ∙ c.loop-turn.invariant.send_faults;
      grows = grows_twice (disk.files start) (disk.files mid) (disk.files now) c.loop-turn.invariant.grows c.in-Open.ensures.grows;
    }

pub returns-in-Ended-clause-ends : goal.returns-in-Ended-clause-ends
returns-in-Ended-clause-ends g c first tells =
    let disk = g.H.Disk in
    let before = c.loop-turn.invariant.led first tells in
    let few : length before.0 < most_turns = omega (arith, before.3) in
    let start = g.H.Host.send_faults c.args.world.now.host in
    let mid = g.H.Host.send_faults c.loop-turn.world.host in
    let now = g.H.Host.send_faults c.turn.new.world.host in
    let ended =
    ends_after (Rose mid now) (Rose start now) (λ rose. omega (arith, rose, c.loop-turn.invariant.send_faults)) disk.tick disk.images disk.image_since g.H.Host.sent g.met.H.Disk.only_now g.met.H.Disk.counts_now c.args.world.now.host c.loop-turn.world.host c.turn.new.world.host c.in-Ended.exit first before.0
    (g.S.Source.left c.turn.new.world.source) (bytes_sent (g.H.Host.sent c.turn.new.world.host)) (disk.files c.turn.new.world.host) (g.C.Clock.moments c.turn.new.world.clock) c.turn.new.session
    before.2 few before.4 before.1.sent_is c.in-Ended.ensures.pieces (c.in-Ended.ensures.leads (last_of first before.0) before.1) in (
      before.0,
      ended.0,
      ended.1,
      ended.2,
      ended.3,
    )

pub returns-clause-ends : goal.returns-clause-ends
returns-clause-ends g c first tells =
    let disk = g.H.Disk in
    let before = c.loop-turn.invariant.led first tells in
    let now = c.loop-turn.world.host in
    let all : length before.0 ≡ most_turns = omega (arith, before.3) in (
      before.0,
      last_of first before.0,
      rests (last_of first before.0) (g.S.Source.left c.loop-turn.world.source) (g.S.Source.left c.loop-turn.world.source) (bytes_sent (g.H.Host.sent now)) (disk.files now) (g.C.Clock.moments c.loop-turn.world.clock) c.loop-turn.session before.1
          (c.loop-turn.session.inbox.pending, before.1.left_is),
      (before.2, all, refl),
      λ keep. spent_ends disk.tick disk.images disk.image_since g.H.Host.sent g.met.H.Disk.only_now c.args.world.now.host now first before.0 (before.4 keep) before.1.sent_is,
    )

pub returns-in-Ended-clause-grows : goal.returns-in-Ended-clause-grows
returns-in-Ended-clause-grows g c =
    let files = g.H.Disk.files in
    grows_twice (files c.args.world.now.host) (files c.loop-turn.world.host) (files c.turn.new.world.host) c.loop-turn.invariant.grows c.in-Ended.ensures.grows
