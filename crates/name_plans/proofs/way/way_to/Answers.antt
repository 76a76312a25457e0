use Rattle.std.proofs.Common.{◌≡◌, ℕ, ◌+◌, List, ◌∷◌, ◌++◌, take, drop, Option, None, Some, sym, ap, ◌∙◌, subst, arith}
use Rattle.std.specs.Prelude.{IfSome}
use Rattle.std.specs.FinMap.{get}
use Rattle.entry.specs.declared.entry.Entry.{Entry}
use Rattle.name_core.specs.declared.change.Change.TheVariants.{Drop}
use Rattle.name_core.specs.Plan.{prefixes_from, puts}
use Rattle.name_core.proofs.PlanLoop.{found_at}
use Rattle.name_plans.proofs.Ways.{MakesFront, front_pushed, front_directory, front_blocked, told_changes, told_clears}
use Rattle.name_plans.proofs.way.way_to.Goals as goal
use Rattle.name_plans.proofs.way.way_to.Goals.{in-None+in_ok-push-in-None, in-Some+else-is_file}

pub loop-depth-preserved : goal.loop-depth-preserved
loop-depth-preserved g c =
    let told = g.V.Names.map c.args.view.now in
    let path : List (List ℕ) = take (c.loop-depth.depth + 1) c.args.directory.now in
    let found : (is : Option Entry) → c.in_ok-find.field-0 ≡ is → IfSome told (λ names. is ≡ get names path) =
    λ is e. found_at told _ _ _ _ _ c.loop-depth.invariant.map c.in_ok-front.ensures e c.in_ok-find.ensures.found in
    record {
      map = c.find.ensures.map ∙ c.loop-depth.invariant.map;
      faults = c.in_ok-find.ensures.cause.quiet (λ failed. cc) ∙ c.loop-depth.invariant.faults;
      beside = c.find.ensures.beside ∙ c.loop-depth.invariant.beside;
      front = elim c.match-branch-3.branch [
        | in-None+in_ok-push-in-None w ↦
            front_pushed told _ _ _ _ _ _ _ _ (omega arith) c.loop-depth.invariant.front (found None w.in-None.is)
            (ap (λ changes. changes.items) w.changes-is) w.in_ok-push-in-None.ensures.items c.in_ok-front.ensures w.directory_made_at.ensures
        | in-Some+else-is_file w ↦
            let same : c.match-branch-3.changes.items ≡ c.loop-depth.changes.items = ap (λ changes. changes.items) w.changes-is in
            subst (λ items. MakesFront told c.args.time c.args.directory.now (c.loop-depth.depth + 1) items) (sym same)
            (front_directory told _ _ _ _ w.in-Some.entry (omega arith) c.loop-depth.invariant.front (found (Some w.in-Some.entry) w.in-Some.is) (sym w.if-is_file.ensures))
      ];
    }

pub returns-in-Some-clause-changes : goal.returns-in-Some-clause-changes
returns-in-Some-clause-changes g c =
    let told = g.V.Names.map c.args.view.now in
    let path : List (List ℕ) = take (c.loop-depth.depth + 1) c.args.directory.now in
    let found : IfSome told (λ names. Some c.in-Some.entry ≡ get names path) =
    found_at told _ _ _ _ _ c.loop-depth.invariant.map c.in_ok-front.ensures c.in-Some.is c.in_ok-find.ensures.found in
    told_changes told c.args.time c.args.directory.now _ _
    (c.in_ok-way_past-in-Some.ensures.changes ∙ ap (λ p. Drop p ∷ c.loop-depth.changes.items ++ puts c.args.time (prefixes_from (take c.loop-depth.depth c.args.directory.now) (drop c.loop-depth.depth c.args.directory.now))) c.in_ok-front.ensures)
    (front_blocked told c.args.time c.args.directory.now c.loop-depth.depth c.loop-depth.changes.items c.in-Some.entry (omega arith) c.loop-depth.invariant.front found (sym c.if-is_file.ensures))

pub returns-in-Some-clause-clears : goal.returns-in-Some-clause-clears
returns-in-Some-clause-clears g c =
    let told = g.V.Names.map c.args.view.now in
    let path : List (List ℕ) = take (c.loop-depth.depth + 1) c.args.directory.now in
    let found : IfSome told (λ names. Some c.in-Some.entry ≡ get names path) =
    found_at told _ _ _ _ _ c.loop-depth.invariant.map c.in_ok-front.ensures c.in-Some.is c.in_ok-find.ensures.found in
    told_clears told c.args.time c.args.directory.now _ _ c.in_ok-way_past-in-Some.ensures.clears
    (front_blocked told c.args.time c.args.directory.now c.loop-depth.depth c.loop-depth.changes.items c.in-Some.entry (omega arith) c.loop-depth.invariant.front found (sym c.if-is_file.ensures))
