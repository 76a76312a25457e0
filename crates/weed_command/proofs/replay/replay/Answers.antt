use Rattle.std.proofs.Common.{rules, ◌≡◌, refl, sym, ap, subst, arith}
use Rattle.std.proofs.lemmas.Result.{err_from_is_err_and}
use Rattle.meta_log.proofs.Faulted.{damaged_on}
use Rattle.meta_log.specs.declared.front.Front.{Front}
use Rattle.weed_base.proofs.ImageLemmas.{reads_nothing}
use Rattle.std.specs.FinMap.{empty}
use Rattle.meta_log.specs.Held.{gate_of}
use Rattle.meta_log.specs.Kept.{front_of}
use Rattle.meta_log.specs.LogText.{segment_name}
use Rattle.meta_log.specs.declared.stem.Stem.TheVariants.{Log}
use Rattle.meta_log.specs.declared.place.Place.{Place}
use Rattle.weed_command.specs.NameTable.{names_of}
use Rattle.weed_command.specs.Replay.{HoldsTaken, HoldsNames}
use Rattle.weed_command.proofs.ReplayLemmas.{none_taken, all_names, takes_none, takes_both, told_takes_none, told_takes_more, told_all_taken, told_blames}
use Rattle.weed_command.proofs.replay.replay.Goals as goal

pub loop-rest-init : goal.loop-rest-init
loop-rest-init g c = record {
  files = refl;
  taken = λ keeps. none_taken (g.D.Disk.files c.args.disk.now) c.args.log.now c.new-names.result c.start.result c.front.result.count keeps
      c.new-names.ensures c.start.ensures (ap (λ (f : Front). f.count) c.front.ensures.front);
  takes = told_takes_none (g.D.Disk.files c.args.disk.now) (segment_name Log 1) (gate_of c.args.log.now.log) c.start.result.at (front_of c.args.log.now).count c.front.result.count (names_of c.new-names.result)
      (ap (λ (p : Place). p.at) c.start.ensures) (ap (λ (f : Front). f.count) c.front.ensures.front) c.new-names.ensures;
  all = takes_none (names_of c.new-names.result) (front_of c.args.log.now).count c.front.result.count c.new-names.ensures (ap (λ (f : Front). f.count) c.front.ensures.front);
  still = reads_nothing g.D.Disk.tick g.D.Disk.images g.D.Disk.image_since c.args.disk.now;
  faults = refl;
  beside = refl;
}

pub loop-rest-preserved : goal.loop-rest-preserved
loop-rest-preserved g c = record {
  files = search rules;
  taken = λ keeps.
      let log = c.args.log.now in
      let was = c.loop-rest.rest in
      let rest = c.in_ok-rest.rest in
      let same = c.loop-rest.invariant.files in
      subst (λ o. HoldsTaken o log c.take_page.new.names rest.place rest.count) same
      (c.in_ok-rest.ensures.taken (subst (λ o. HoldsTaken o log c.loop-rest.names was.place was.count) (sym same) (c.loop-rest.invariant.taken keeps)));
  takes = told_takes_more (g.D.Disk.files c.args.disk.now) (g.D.Disk.files c.loop-rest.disk) (segment_name Log 1) (gate_of c.args.log.now.log) c.loop-rest.rest.place c.in_ok-rest.rest.place.at (front_of c.args.log.now).count c.loop-rest.rest.count c.in_ok-rest.rest.count
      empty (names_of c.loop-rest.names) (names_of c.take_page.new.names) c.loop-rest.invariant.files c.loop-rest.invariant.takes c.in_ok-rest.ensures.takes;
  all =
      takes_both (front_of c.args.log.now).count c.loop-rest.rest.count c.in_ok-rest.rest.count empty (names_of c.loop-rest.names) (names_of c.take_page.new.names)
      c.in_ok-rest.ensures.less c.loop-rest.invariant.all c.in_ok-rest.ensures.page;
  still = search rules;
  faults = search rules;
  beside = search rules;
}

pub returns-clause-all : goal.returns-clause-all
returns-clause-all g c =
    let none : c.loop-rest.rest.count ≡ 0 = omega (arith, c.loop-rest-test.false) in
    let (texts, takes, count) = c.loop-rest.invariant.all in
    (texts, takes, omega (arith, none, count))

pub returns-clause-names : goal.returns-clause-names
returns-clause-names g c =
    let none : c.loop-rest.rest.count ≡ 0 = omega (arith, c.loop-rest-test.false) in
    subst (λ told. HoldsNames told c.args.log.now c.loop-rest.names) (sym c.loop-rest.invariant.files)
    (all_names (g.D.Disk.files c.args.disk.now) c.args.log.now c.loop-rest.names c.loop-rest.rest.place c.loop-rest.rest.count none c.loop-rest.invariant.taken)

pub returns-clause-takes : goal.returns-clause-takes
returns-clause-takes g c =
    told_all_taken (g.D.Disk.files c.args.disk.now) (segment_name Log 1) (gate_of c.args.log.now.log) c.loop-rest.rest.place.at (front_of c.args.log.now).count c.loop-rest.rest.count
    empty (names_of c.loop-rest.names) (omega (arith, c.loop-rest-test.false)) c.loop-rest.invariant.takes

pub returns-in_err-rest-clause-breaks : goal.returns-in_err-rest-clause-breaks
returns-in_err-rest-clause-breaks g c =
    let p = err_from_is_err_and c.from_residual.result c.from_residual.ensures.1 in
    damaged_on _ _ c.from_residual.result p.0 c.in_err-rest.field-0.0 p.1 p.2
    (λ file at blame. told_blames (g.D.Disk.files c.args.disk.now) (g.D.Disk.files c.loop-rest.disk) (segment_name Log 1) (gate_of c.args.log.now.log) c.loop-rest.rest.place at (front_of c.args.log.now).count c.loop-rest.rest.count
    empty (names_of c.loop-rest.names) c.loop-rest.invariant.files c.loop-rest.invariant.takes blame)
    c.in_err-rest.ensures.breaks
