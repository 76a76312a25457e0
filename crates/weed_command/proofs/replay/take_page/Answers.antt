use Rattle.std.proofs.Common.{◌≡◌, ◌-◌, List, ℕ, length, sym, ap, ◌∙◌, subst, arith}
use Rattle.std.proofs.lemmas.Bool.Decides.{nat_tests}
use Rattle.std.proofs.lemmas.Result.{err_from_is_err_and}
use Rattle.meta_log.proofs.Faulted.{damaged_on}
use Rattle.meta_log.specs.LogText.{segment_name}
use Rattle.meta_log.specs.Held.{gate_of}
use Rattle.meta_log.specs.declared.stem.Stem.TheVariants.{Log}
use Rattle.weed_command.specs.NameTable.{names_of}
use Rattle.weed_command.specs.Replay.{Takes, AreUnreadable, HoldsTaken}
use Rattle.weed_command.proofs.ReplayLemmas.{taken_keeps, more_taken, untold_empty, untold_unread, told_page, told_page_empty, told_page_unread}
use Rattle.weed_command.proofs.replay.take_page.Goals.{then-is_empty-via-then-is_empty, then-is_empty-via-else-is_empty+in_ok-take_texts+then-not-branch}
use Rattle.weed_command.proofs.replay.take_page.Goals as goal

pub returns-in_err-page-clause-damaged : goal.returns-in_err-page-clause-damaged
returns-in_err-page-clause-damaged g c =
    let p = err_from_is_err_and c.from_residual.result c.from_residual.ensures.1 in
    damaged_on _ _ c.from_residual.result p.0 c.in_err-page.field-0.0 p.1 p.2
    (λ file at undamaged taken. undamaged (taken_keeps (g.D.Disk.files c.args.disk.now) c.args.log.now c.args.names.now c.args.rest.place c.args.rest.count taken))
    c.in_err-page.ensures.damaged

pub returns-then-is_empty-clause-damaged : goal.returns-then-is_empty-clause-damaged
returns-then-is_empty-clause-damaged g c =
    let told = g.D.Disk.files c.args.disk.now in
    let texts_are = c.as_slice-texts.ensures in
    rw c.unreadable.ensures (λ taken. elim c.then-is_empty.branch [
      | then-is_empty-via-then-is_empty w ↦
          let none : length c.as_slice-texts.result.now ≡ 0 = grind (arith, nat_tests, w.if-is_empty.ensures) in
          untold_empty told c.args.log.now c.args.names.now c.args.rest.place c.in_ok-page.place c.args.rest.count 4096 c.in_ok-page.page
          c.requires (omega arith) taken c.in_ok-page.ensures.next (ap (λ (l : List (List ℕ)). length l) (sym texts_are) ∙ none)
      | then-is_empty-via-else-is_empty+in_ok-take_texts+then-not-branch w ↦
          let unread : AreUnreadable c.as_slice-texts.result.now = rw w.if-not-branch.true at w.in_ok-take_texts.ensures in
          untold_unread told c.args.log.now c.args.names.now c.args.rest.place c.in_ok-page.place c.args.rest.count 4096 c.in_ok-page.page
          taken c.in_ok-page.ensures.next (subst AreUnreadable texts_are unread)
    ])

pub returns-clause-page : goal.returns-clause-page
returns-clause-page g c =
    let takes : Takes c.as_slice-texts.result.now (names_of c.args.names.now) (names_of c.take_texts.new.names) = rw c.if-not-branch.false at c.in_ok-take_texts.ensures in
    (c.as_slice-texts.result.now, takes, omega (arith, c.saturating_sub.ensures))

pub returns-clause-taken : goal.returns-clause-taken
returns-clause-taken g c taken =
    let told = g.D.Disk.files c.args.disk.now in
    let old = names_of c.args.names.now in
    let new = names_of c.take_texts.new.names in
    let takes : Takes c.as_slice-texts.result.now old new = rw c.if-not-branch.false at c.in_ok-take_texts.ensures in
    let more = more_taken told c.args.log.now c.args.names.now c.take_texts.new.names c.args.rest.place c.in_ok-page.place c.args.rest.count 4096 c.in_ok-page.page
    taken c.in_ok-page.ensures.next (subst (λ (l : List (List ℕ)). Takes l old new) c.as_slice-texts.ensures takes) in
    let count : c.args.rest.count - length c.in_ok-page.page ≡ c.saturating_sub.result = omega (arith, c.saturating_sub.ensures, ap (λ (l : List (List ℕ)). length l) c.as_slice-texts.ensures) in
    subst (HoldsTaken told c.args.log.now c.take_texts.new.names c.in_ok-page.place) count more

pub returns-clause-takes : goal.returns-clause-takes
returns-clause-takes g c =
    let takes : Takes c.as_slice-texts.result.now (names_of c.args.names.now) (names_of c.take_texts.new.names) = rw c.if-not-branch.false at c.in_ok-take_texts.ensures in
    told_page (g.D.Disk.files c.args.disk.now) (segment_name Log 1) (gate_of c.args.log.now.log) c.args.rest.place c.in_ok-page.place 4096 c.args.rest.count c.saturating_sub.result c.in_ok-page.page c.as_slice-texts.result.now
    (names_of c.args.names.now) (names_of c.take_texts.new.names) c.as_slice-texts.ensures (omega (arith, c.saturating_sub.ensures)) c.in_ok-page.ensures.reads takes

pub returns-then-is_empty-clause-breaks : goal.returns-then-is_empty-clause-breaks
returns-then-is_empty-clause-breaks g c =
    let told = g.D.Disk.files c.args.disk.now in
    let gate = gate_of c.args.log.now.log in
    let texts_are = c.as_slice-texts.ensures in
    rw c.unreadable.ensures (elim c.then-is_empty.branch [
      | then-is_empty-via-then-is_empty w ↦
          let none : length c.as_slice-texts.result.now ≡ 0 = grind (arith, nat_tests, w.if-is_empty.ensures) in
          told_page_empty told (segment_name Log 1) gate 4096 c.args.rest.count c.args.rest.place c.in_ok-page.place c.in_ok-page.page
          c.requires (omega arith) (ap (λ (l : List (List ℕ)). length l) (sym texts_are) ∙ none) c.in_ok-page.ensures.whole c.in_ok-page.ensures.reads
      | then-is_empty-via-else-is_empty+in_ok-take_texts+then-not-branch w ↦
          let unread : AreUnreadable c.as_slice-texts.result.now = rw w.if-not-branch.true at w.in_ok-take_texts.ensures in
          told_page_unread told (segment_name Log 1) gate 4096 c.args.rest.count c.args.rest.place c.in_ok-page.place c.in_ok-page.page (subst AreUnreadable texts_are unread) c.in_ok-page.ensures.reads
    ])
