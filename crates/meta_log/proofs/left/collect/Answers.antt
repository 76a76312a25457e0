use Rattle.std.proofs.Common.{◌≡◌, ◌+◌, ◌^◌, ◌<◌, ℕ, List, length, inl, inr, subst, sym, ap, ◌∙◌, arith}
use Rattle.std.specs.Prelude.{IfSome, MatchOption, sum_by}
use Rattle.meta_log.specs.Left.{batch_from}
use Rattle.std.proofs.lemmas.Result.{err_from_is_err_and}
use Rattle.std.proofs.lemmas.List.{length_push}
use Rattle.std.proofs.lemmas.List.Sums.{sum_by_push}
use Rattle.weed_base.specs.Files.{content}
use Rattle.weed_base.proofs.ImageLemmas.{reads_both}
use Rattle.meta_log.specs.Segment.{items}
use Rattle.meta_log.specs.Stretch.{Stretch, IsOf}
use Rattle.meta_log.proofs.Frames.{length-items-push, length-ready}
use Rattle.meta_log.proofs.Faulted.{damaged_on, damaged_both, ok_is_no_fault}
use Rattle.meta_log.proofs.Collected.{told_goes_on, told_ends_full, told_ends_empty, told_refutes}
use Rattle.meta_log.proofs.Stands.{told_stand_more, told_breaks, batch_push}
use Rattle.meta_log.proofs.left.collect.Goals as goal
use Rattle.meta_log.proofs.left.collect.Goals.{then-taking-test+else-bytes-most, else-taking-test, then-taking-test+then-bytes-most+in_ok-text+in_default}

pub returns-in_err-text-clause-damaged : goal.returns-in_err-text-clause-damaged
returns-in_err-text-clause-damaged g c =
    let p = err_from_is_err_and c.from_residual.result c.from_residual.ensures.1 in
    damaged_on _ _ c.from_residual.result p.0 c.in_err-text.field-0.0 p.1 p.2
    (λ file at. told_refutes (g.D.Disk.files c.args.disk.now) (g.D.Disk.files c.taking.disk) c.args.name.now c.args.gate c.args.reading.now.at c.args.most c.args.room c.taking.reading.at c.taking.bytes c.taking.texts.items c.taking.invariant.3 c.taking.invariant.5)
    c.in_err-text.ensures.damaged

pub returns-in_err-text-clause-blamed : goal.returns-in_err-text-clause-blamed
returns-in_err-text-clause-blamed g c =
    let p = err_from_is_err_and c.from_residual.result c.from_residual.ensures.1 in
    damaged_on _ _ c.from_residual.result p.0 c.in_err-text.field-0.0 p.1 p.2 (λ file at blamed. blamed) c.in_err-text.ensures.blamed

pub returns-in_err-text-clause-breaks : goal.returns-in_err-text-clause-breaks
returns-in_err-text-clause-breaks g c =
    let p = err_from_is_err_and c.from_residual.result c.from_residual.ensures.1 in
    damaged_on _ _ c.from_residual.result p.0 c.in_err-text.field-0.0 p.1 p.2
    (λ file at found. told_breaks (g.D.Disk.files c.args.disk.now) (g.D.Disk.files c.taking.disk) c.args.name.now c.args.gate c.args.room c.args.most c.args.reading.now.at c.taking.reading.at at c.taking.texts.items
    c.taking.invariant.3 c.taking.invariant.2 (omega (arith, c.taking-test.true, c.len.ensures)) (omega (arith, c.if-bytes-most.true, c.taking.invariant.9)) found.1.2 c.taking.invariant.10 found.0)
    (damaged_both _ _ c.in_err-text.field-0.0 c.in_err-text.ensures.breaks c.in_err-text.ensures.blamed)

pub returns-clause-whole : goal.returns-clause-whole
returns-clause-whole g c =
    elim c.taking-test.branch [
      | then-taking-test+else-bytes-most w ↦ inr (inl (omega (arith, w.if-bytes-most.false, c.taking.invariant.9)))
      | else-taking-test w ↦ inl (omega (arith, w.taking-test.false, c.len.ensures, c.taking.invariant.0))
      | then-taking-test+then-bytes-most+in_ok-text+in_default w ↦ inr (inr (omega (arith, ap (λ (r : Stretch). r.at) w.reading-is, w.in_ok-text.ensures.ended w.in_default.is)))
    ]

pub returns-clause-texts : goal.returns-clause-texts
returns-clause-texts g c =
    let told = g.D.Disk.files c.args.disk.now in
    let ends = told_ends_full told c.args.name.now c.args.gate c.args.reading.now.at c.args.most c.args.room c.taking.reading.at c.taking.bytes c.taking.texts.items c.taking.invariant.5 in
    elim c.taking-test.branch [
      | then-taking-test+else-bytes-most w ↦ ends (inr w.if-bytes-most.false)
      | else-taking-test w ↦ ends (inl (omega (arith, w.taking-test.false, c.len.ensures)))
      | then-taking-test+then-bytes-most+in_ok-text+in_default w ↦
          told_ends_empty told (g.D.Disk.files c.taking.disk) c.args.name.now c.args.gate c.args.reading.now.at c.args.most c.args.room c.taking.reading.at w.take_text.new.reading.at c.taking.bytes c.taking.texts.items w.in_ok-text.field-0
          c.taking.invariant.3 w.in_default.is c.taking.invariant.5 w.in_ok-text.ensures.takes
    ]

pub taking-preserved : goal.taking-preserved
taking-preserved g c =
    let told = g.D.Disk.files c.args.disk.now in
    let text = c.in-Some.text in
    let texts = c.taking.texts.items in
    let pushed = c.in_ok-push.ensures.items in
    let place = subst (λ taken. MatchOption taken (c.take_text.new.reading.at ≡ c.taking.reading.at) (λ t. (c.take_text.new.reading.at ≡ c.taking.reading.at + (5 + length t)) × (c.take_text.new.reading.at < 2 ^ 64))) c.in-Some.is c.in_ok-text.ensures.place in
    let longer : length (items c.push.new.self.items) ≡ length (items texts) + (5 + length text) =
    omega (arith, ap (λ (l : List (List ℕ)). length (items l)) pushed, length-items-push texts text, length-ready text) in (
      omega (arith, ap length pushed, length_push texts text, c.taking-test.true, c.len.ensures),
      omega (arith, c.taking.invariant.1, place.0, ap length c.as_slice.ensures),
      omega (arith, c.taking.invariant.2, place.0, longer),
      c.take_text.ensures.looks.files ∙ c.taking.invariant.3,
      subst (λ o. IfSome o (λ files. IsOf (content files c.args.name.now) c.take_text.new.reading)) c.taking.invariant.3 c.in_ok-text.ensures.of,
      told_goes_on told (g.D.Disk.files c.taking.disk) c.args.name.now c.args.gate c.args.reading.now.at c.args.most c.args.room c.taking.reading.at c.take_text.new.reading.at c.taking.bytes _ texts c.push.new.self.items text c.in_ok-text.field-0
          c.taking.invariant.3 c.in-Some.is (ap (λ (l : List ℕ). c.taking.bytes + length l) c.as_slice.ensures) pushed (omega (arith, c.taking-test.true, c.len.ensures)) c.if-bytes-most.true c.taking.invariant.5 c.in_ok-text.ensures.takes,
      c.take_text.ensures.cause.quiet (ok_is_no_fault c.take_text.result _ _ c.in_ok-text.was) ∙ c.taking.invariant.6,
      c.take_text.ensures.beside ∙ c.taking.invariant.7,
      reads_both g.D.Disk.tick g.D.Disk.images g.D.Disk.image_since c.args.disk.now c.taking.disk c.take_text.new.disk c.taking.invariant.8 c.take_text.ensures.looks.still,
      ap (λ (n : ℕ). c.taking.bytes + n) (ap length c.as_slice.ensures) ∙ omega (arith, c.taking.invariant.9, sum_by_push length texts text, ap (λ (l : List (List ℕ)). sum_by length l) pushed),
      told_stand_more told (g.D.Disk.files c.taking.disk) c.args.name.now c.args.gate c.args.reading.now.at c.taking.reading.at texts c.push.new.self.items text c.in_ok-text.field-0
          c.taking.invariant.3 c.in-Some.is pushed c.taking.invariant.2 c.taking.invariant.10 c.in_ok-text.ensures.stands,
      subst (λ (l : List (List ℕ)). batch_from c.args.most c.args.room 0 l ≡ l) (sym pushed) (batch_push c.args.most c.args.room 0 texts text (omega (arith, c.taking-test.true, c.len.ensures)) (omega (arith, c.if-bytes-most.true, c.taking.invariant.9))),
    )
