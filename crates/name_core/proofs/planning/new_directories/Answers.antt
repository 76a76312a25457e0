use Rattle.std.proofs.Common.{◌≡◌, ℕ, ◌+◌, List, take, Option, None, Some, Err, sym, ap, ◌∙◌, subst, arith}
use Rattle.std.specs.Prelude.{IfSome}
use Rattle.name_core.specs.declared.command.Refusal.TheVariants.{IsFile}
use Rattle.std.specs.FinMap.{get}
use Rattle.entry.specs.declared.entry.Entry.{Entry}
use Rattle.name_core.specs.Plan.{directories_at, prefixes}
use Rattle.name_core.proofs.PlanLoop.{PlansFront, found_at, front_file, front_pushed, front_directory}
use Rattle.name_core.proofs.planning.new_directories.Goals as goal
use Rattle.name_core.proofs.planning.new_directories.Goals.{in-None+in_ok-push-in-None, in-Some+else-is_file}

pub returns-in-Some-clause-changes : goal.returns-in-Some-clause-changes
returns-in-Some-clause-changes g c =
    let told = g.V.Names.map c.args.view.now in
    subst (λ prefix. IfSome told (λ names. directories_at names c.args.time (prefixes c.args.path.now) ≡ Err (IsFile prefix))) (sym c.in_ok-prefix.ensures)
    (front_file told _ _ _ _ c.in-Some.entry c.loop-depth.invariant.front (omega arith)
    (found_at told _ _ _ _ _ c.loop-depth.invariant.map c.in_ok-prefix.ensures c.in-Some.is c.in_ok-find.ensures.found)
    (sym c.if-is_file.ensures))

pub loop-depth-preserved : goal.loop-depth-preserved
loop-depth-preserved g c =
    let told = g.V.Names.map c.args.view.now in
    let path : List (List ℕ) = take (c.loop-depth.depth + 1) c.args.path.now in
    let found : (is : Option Entry) → c.in_ok-find.field-0 ≡ is → IfSome told (λ names. is ≡ get names path) =
    λ is e. found_at told _ _ _ _ _ c.loop-depth.invariant.map c.in_ok-prefix.ensures e c.in_ok-find.ensures.found in
    record {
      map = c.find.ensures.map ∙ c.loop-depth.invariant.map;
      faults = c.in_ok-find.ensures.cause.quiet (λ failed. cc) ∙ c.loop-depth.invariant.faults;
      beside = c.find.ensures.beside ∙ c.loop-depth.invariant.beside;
      front = elim c.match-branch-3.branch [
        | in-None+in_ok-push-in-None w ↦
            front_pushed told _ _ _ _ _ _ _ _ c.loop-depth.invariant.front c.depth-depth-end.ensures.valid (omega arith) (found None w.in-None.is)
            (ap (λ changes. changes.items) w.changes-is) w.in_ok-push-in-None.ensures.items c.in_ok-prefix.ensures w.directory_made_at.ensures
        | in-Some+else-is_file w ↦
            let same : c.match-branch-3.changes.items ≡ c.loop-depth.changes.items = ap (λ changes. changes.items) w.changes-is in
            subst (λ items. PlansFront told c.args.time c.args.path.now (c.loop-depth.depth + 1) items) (sym same)
            (front_directory told _ _ _ _ w.in-Some.entry c.loop-depth.invariant.front (omega arith) (found (Some w.in-Some.entry) w.in-Some.is) (sym w.if-is_file.ensures))
      ];
    }
