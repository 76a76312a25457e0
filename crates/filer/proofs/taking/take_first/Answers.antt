use Rattle.std.proofs.Common.{rules, ◌≤◌, ◌-◌, None, refl, sym, ap, ◌∙◌, subst, arith}
use Rattle.std.proofs.lemmas.Result.{err_from_is_err_and}
use Rattle.weed_base.proofs.ImageLemmas.{reads_nothing}
use Rattle.meta_log.specs.Kept.{front_of}
use Rattle.meta_log.specs.RecordPlaces.{AreNext}
use Rattle.meta_log.specs.declared.front.Front.{Front}
use Rattle.filer.specs.Taken.{HoldsTaken}
use Rattle.filer.proofs.Takings.{damaged_on, none_taken, takes_none_many, takes_both, more_taken, takes_untold}
use Rattle.filer.proofs.taking.take_first.Goals as goal

pub loop-rest-init : goal.loop-rest-init
loop-rest-init g c =
    let count = ap (λ (f : Front). f.count) c.front.ensures.front in
    record {
      files = refl;
      count = omega (arith, count);
      all = takes_none_many (g.K.Names.map c.args.keeper.now) ((front_of c.args.log.now).count - c.front.result.count) (omega (arith, count));
      taken = λ held none. none_taken (g.D.Disk.files c.args.disk.now) c.args.log.now (g.K.Names.map c.args.keeper.now) c.start.result c.front.result.count held none c.start.ensures count;
      left = λ held. none_taken (g.D.Disk.files c.args.disk.now) c.args.log.now None c.start.result c.front.result.count held tt c.start.ensures count;
      still = reads_nothing g.D.Disk.tick g.D.Disk.images g.D.Disk.image_since c.args.disk.now;
      faults = refl;
      beside = refl;
      keeper_faults = refl;
      keeper_beside = refl;
    }

pub loop-rest-preserved : goal.loop-rest-preserved
loop-rest-preserved g c =
    let was = c.loop-rest.rest in
    let room : c.min-room.result ≤ was.count = omega (arith, c.min-room.ensures) in
    record {
      files = search rules;
      count = omega (arith, c.loop-rest.invariant.count);
      all = takes_both ((front_of c.args.log.now).count - was.count) c.min-room.result _ c.in_ok-page.page.texts (g.K.Names.map c.args.keeper.now) (g.K.Names.map c.loop-rest.keeper) (g.K.Names.map c.take_page.new.keeper)
          c.loop-rest.invariant.all c.in_ok-page.ensures.taken c.in_ok-page.ensures.full (omega (arith, room, c.loop-rest.invariant.count));
      taken = λ held none.
          let told = g.D.Disk.files c.args.disk.now in
          let same = c.loop-rest.invariant.files in
          more_taken told c.args.log.now (g.K.Names.map c.loop-rest.keeper) (g.K.Names.map c.take_page.new.keeper) was.place c.in_ok-page.page.behind was.count c.min-room.result _ c.in_ok-page.page.texts refl
          (c.loop-rest.invariant.taken held none)
          (subst (λ o. AreNext o c.args.log.now was.place c.min-room.result c.in_ok-page.page.texts c.in_ok-page.page.behind) same c.in_ok-page.ensures.next) c.in_ok-page.ensures.taken;
      left = λ held.
          let told = g.D.Disk.files c.args.disk.now in
          let same = c.loop-rest.invariant.files in
          more_taken told c.args.log.now None None was.place c.in_ok-page.page.behind was.count c.min-room.result _ c.in_ok-page.page.texts refl
          (c.loop-rest.invariant.left held)
          (subst (λ o. AreNext o c.args.log.now was.place c.min-room.result c.in_ok-page.page.texts c.in_ok-page.page.behind) same c.in_ok-page.ensures.next)
          (takes_untold c.in_ok-page.page.texts _ _ c.in_ok-page.ensures.taken);
      still = search rules;
      faults = search rules;
      beside = search rules;
      keeper_faults = search rules;
      keeper_beside = search rules;
    }

pub returns-in_err-page-clause-damaged : goal.returns-in_err-page-clause-damaged
returns-in_err-page-clause-damaged g c =
    let p = err_from_is_err_and c.from_residual.result c.from_residual.ensures.1 in
    let same = c.loop-rest.invariant.files in
    let was = c.loop-rest.rest in
    damaged_on _ _ c.from_residual.result p.0 c.in_err-page.field-0.0 p.1 p.2
    (λ file at undamaged held. sym same ∙ undamaged None was.count (subst (λ o. HoldsTaken o c.args.log.now None was.place was.count) (sym same) (c.loop-rest.invariant.left held)) (omega (arith, c.min-room.ensures)))
    c.in_err-page.ensures.damaged
