use Rattle.std.proofs.Common.{refl, subst, Option, Ok}
use Rattle.std.specs.Prelude.{IfSome}
use Rattle.name_core.specs.declared.change.Record.{Record}
use Rattle.name_plans.specs.Planning.{plan_of}
use Rattle.name_plans.specs.Refusing.{Comes}
use Rattle.std.proofs.lemmas.Result.{err_from_is_err_and}
use Rattle.filer.proofs.Applying.{added, plan_failed, plan_nothing, rest_held}
use Rattle.filer.proofs.state.FilerState.make.Goals as goal

pub returns-in_err-made-clause-applied : goal.returns-in_err-made-clause-applied
returns-in_err-made-clause-applied g c =
    let p = err_from_is_err_and c.from_residual.result c.from_residual.ensures.1 in
    rw (p.1, p.2) (plan_failed g.D.Disk g.K.Names.map (g.K.Names.map c.args.self.now.keeper) c.args.command.now c.args.clock c.args.self.now.published.time c.args.self.now _ c.args.disk.now c.args.disk.now
    c.in_err-made.field-0.0 c.in_err-made.ensures.planned (record { disk_is = refl; log = refl; names = c.plan.ensures.map; published = record { list = λ list stands. stands; front = refl } }))

pub returns-in_err-made-clause-held : goal.returns-in_err-made-clause-held
returns-in_err-made-clause-held g c = λ _. rest_held g.K.Names.map c.args.self.now _ (g.D.Disk.files c.args.disk.now) refl c.plan.ensures.map (record { list = λ list stands. stands; front = refl }) c.requires.held

pub add-requires-clause-held : goal.add-requires-clause-held
add-requires-clause-held g c = rest_held g.K.Names.map c.args.self.now _ (g.D.Disk.files c.args.disk.now) refl c.plan.ensures.map (record { list = λ list stands. stands; front = refl }) c.requires.held

pub returns-in-None-clause-held : goal.returns-in-None-clause-held
returns-in-None-clause-held g c = λ _. rest_held g.K.Names.map c.args.self.now _ (g.D.Disk.files c.args.disk.now) refl c.plan.ensures.map (record { list = λ list stands. stands; front = refl }) c.requires.held

pub returns-in-Some-clause-applied : goal.returns-in-Some-clause-applied
returns-in-Some-clause-applied g c =
    let names = g.K.Names.map c.args.self.now.keeper in
    let last = c.args.self.now.published.time in
    let planned = subst (λ (found : Option Record). IfSome names (λ told. Comes (plan_of told c.args.command.now c.args.clock last) (Ok found))) c.in-Some.is c.in_ok-made.ensures.planned in
    added g.D.Disk g.K.Names.map c.args.self.now _ c.add.new.self c.args.disk.now c.add.new.disk refl c.plan.ensures.map refl refl
    names c.args.command.now c.args.clock last c.in-Some.made c.add.result planned c.add.ensures.added

pub returns-in-None-clause-applied : goal.returns-in-None-clause-applied
returns-in-None-clause-applied g c =
    let names = g.K.Names.map c.args.self.now.keeper in
    let last = c.args.self.now.published.time in
    let planned = subst (λ (found : Option Record). IfSome names (λ told. Comes (plan_of told c.args.command.now c.args.clock last) (Ok found))) c.in-None.is c.in_ok-made.ensures.planned in
    plan_nothing g.D.Disk g.K.Names.map names c.args.command.now c.args.clock last c.args.self.now _ c.args.disk.now c.args.disk.now _ planned refl
    (record { disk_is = refl; log = refl; names = c.plan.ensures.map; published = record { list = λ list stands. stands; front = refl } })
