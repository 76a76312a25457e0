use Rattle.std.proofs.Common.{[], ◌∷◌, ◌++◌, refl, subst, sym}
use Rattle.std.proofs.lemmas.Result.{err_from_is_err_and}
use Rattle.std.specs.Prelude.{IfSome}
use Rattle.weed_base.specs.Files.{IsWithin, BothTold}
use Rattle.meta_log.specs.LogText.{ChangesOnly}
use Rattle.meta_log.specs.Held.{TellsPayloads}
use Rattle.meta_log.proofs.Appends.{first_failed, first_done, last_failed, last_done, ready_within, others_twice}
use Rattle.meta_log.proofs.Crashes.{first_leaves, both_leave, settled_holds}
use Rattle.meta_log.proofs.gate_log.GateLog.append.Goals as goal

-- the first write failed
pub returns-in_err-write_settled-clause-failed : goal.returns-in_err-write_settled-clause-failed
returns-in_err-write_settled-clause-failed g c =
    let p = err_from_is_err_and c.from_residual.result c.from_residual.ensures.1 in
    rw p.1 (first_failed _ _ (g.D.Disk.files c.args.disk.now) c.args.self.now _ _ c.ready-behind.result.now c.first_segment-segment.ensures c.ready-behind.ensures.bytes c.in_err-write_settled.ensures.files)

pub returns-in_err-write_settled-clause-others : goal.returns-in_err-write_settled-clause-others
returns-in_err-write_settled-clause-others g c =
    subst (λ name. BothTold (ChangesOnly name) (g.D.Disk.files c.args.disk.now) (g.D.Disk.files c.write_settled.new.disk)) c.first_segment-segment.ensures c.in_err-write_settled.ensures.others

pub write_settled-requires-2 : goal.write_settled-requires-2
write_settled-requires-2 g c =
    let held = c.requires.held in
    let prepared = first_done (g.D.Disk.files c.args.disk.now) (g.D.Disk.files c.write_settled.new.disk) (g.D.Disk.files c.args.disk.now) c.args.self.now c.args.text.now _ _ c.first_segment-segment.ensures c.ready-behind.ensures.bytes c.in_ok-write_settled.ensures.files held.0 held.1 in
    subst (λ name. IfSome (g.D.Disk.files c.write_settled.new.disk) (IsWithin name c.args.self.now.gate)) (sym c.first_segment-segment.ensures)
    (ready_within _ c.args.self.now held.0 c.args.text.now prepared)

-- the second write failed
pub returns-in_err-write_settled-2-clause-failed : goal.returns-in_err-write_settled-2-clause-failed
returns-in_err-write_settled-2-clause-failed g c =
    let p = err_from_is_err_and c.from_residual-in_err-write_settled-2.result c.from_residual-in_err-write_settled-2.ensures.1 in
    rw p.1 (last_failed (g.D.Disk.files c.args.disk.now) (g.D.Disk.files c.write_settled.new.disk) (g.D.Disk.files c.write_settled-2.new.disk) c.args.self.now c.args.text.now _ _ c.first_segment-segment.ensures c.ready-behind.ensures.bytes
    c.ready-behind.ensures.short c.requires.suits c.in_ok-write_settled.ensures.files c.in_err-write_settled-2.ensures.files)

pub returns-in_err-write_settled-2-clause-others : goal.returns-in_err-write_settled-2-clause-others
returns-in_err-write_settled-2-clause-others g c =
    subst (λ name. BothTold (ChangesOnly name) (g.D.Disk.files c.args.disk.now) (g.D.Disk.files c.write_settled-2.new.disk)) c.first_segment-segment.ensures
    (others_twice _ _ _ _ c.in_ok-write_settled.ensures.others c.in_err-write_settled-2.ensures.others)

pub returns-clause-appended : goal.returns-clause-appended
returns-clause-appended g c =
    last_done (g.D.Disk.files c.args.disk.now) (g.D.Disk.files c.write_settled.new.disk) (g.D.Disk.files c.write_settled-2.new.disk) c.args.self.now c.args.text.now _ _ c.first_segment-segment.ensures c.ready-behind.ensures.bytes
    c.ready-behind.ensures.short c.requires.suits c.in_ok-write_settled.ensures.files _ refl refl c.in_ok-write_settled-2.ensures.files

pub returns-clause-others : goal.returns-clause-others
returns-clause-others g c =
    subst (λ name. BothTold (ChangesOnly name) (g.D.Disk.files c.args.disk.now) (g.D.Disk.files c.write_settled-2.new.disk)) c.first_segment-segment.ensures
    (others_twice _ _ _ _ c.in_ok-write_settled.ensures.others c.in_ok-write_settled-2.ensures.others)

pub returns-clause-held : goal.returns-clause-held
returns-clause-held g c =
    let held = c.requires.held in (
      held.0 ++ c.args.text.now ∷ [],
      last_done (g.D.Disk.files c.args.disk.now) (g.D.Disk.files c.write_settled.new.disk) (g.D.Disk.files c.write_settled-2.new.disk) c.args.self.now c.args.text.now _ _ c.first_segment-segment.ensures c.ready-behind.ensures.bytes
          c.ready-behind.ensures.short c.requires.suits c.in_ok-write_settled.ensures.files _ refl refl c.in_ok-write_settled-2.ensures.files held.0 held.1,
    )

-- what a crash leaves
pub returns-in_err-write_settled-clause-atomic : goal.returns-in_err-write_settled-clause-atomic
returns-in_err-write_settled-clause-atomic g c files payloads is held hold =
    first_leaves g.D.Disk.tick g.D.Disk.image_since g.D.Disk.images c.args.self.now payloads c.args.text.now _ _ c.first_segment-segment.ensures held.gate
    c.args.disk.now c.write_settled.new.disk hold c.write_settled.ensures.atomic

pub returns-in_err-write_settled-2-clause-atomic : goal.returns-in_err-write_settled-2-clause-atomic
returns-in_err-write_settled-2-clause-atomic g c files payloads is held hold =
    let log = c.args.self.now in
    let text = c.args.text.now in
    let prepared = first_done (g.D.Disk.files c.args.disk.now) (g.D.Disk.files c.write_settled.new.disk) (g.D.Disk.files c.args.disk.now) log text _ _ c.first_segment-segment.ensures c.ready-behind.ensures.bytes
    c.in_ok-write_settled.ensures.files payloads (subst (λ o. TellsPayloads o log payloads) (sym is) held) in
    both_leave g.D.Disk.tick g.D.Disk.image_since g.D.Disk.images log payloads text _ _ c.first_segment-segment.ensures held.gate
    (g.D.Disk.files c.write_settled.new.disk) c.args.disk.now c.write_settled.new.disk c.write_settled-2.new.disk c.ready-behind.ensures.short c.requires.suits hold
    c.write_settled.ensures.atomic prepared c.in_ok-write_settled.ensures.settled c.write_settled-2.ensures.atomic

pub returns-clause-atomic : goal.returns-clause-atomic
returns-clause-atomic g c files payloads is held hold =
    let log = c.args.self.now in
    let text = c.args.text.now in
    let prepared = first_done (g.D.Disk.files c.args.disk.now) (g.D.Disk.files c.write_settled.new.disk) (g.D.Disk.files c.args.disk.now) log text _ _ c.first_segment-segment.ensures c.ready-behind.ensures.bytes
    c.in_ok-write_settled.ensures.files payloads (subst (λ o. TellsPayloads o log payloads) (sym is) held) in
    both_leave g.D.Disk.tick g.D.Disk.image_since g.D.Disk.images log payloads text _ _ c.first_segment-segment.ensures held.gate
    (g.D.Disk.files c.write_settled.new.disk) c.args.disk.now c.write_settled.new.disk c.write_settled-2.new.disk c.ready-behind.ensures.short c.requires.suits hold
    c.write_settled.ensures.atomic prepared c.in_ok-write_settled.ensures.settled c.write_settled-2.ensures.atomic

pub returns-clause-settled : goal.returns-clause-settled
returns-clause-settled g c files payloads is held =
    let holds = returns-clause-appended g c payloads (subst (λ o. TellsPayloads o c.args.self.now payloads) (sym is) held) in
    settled_holds (g.D.Disk.files c.write_settled-2.new.disk) (g.D.Disk.images c.write_settled-2.new.disk) c.args.self.now _ (payloads ++ c.args.text.now ∷ []) refl c.in_ok-write_settled-2.ensures.settled holds
