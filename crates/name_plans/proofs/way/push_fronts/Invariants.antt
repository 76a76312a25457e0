use Rattle.std.proofs.Common.{◌≡◌, ◌++◌, take, drop}
use Rattle.name_core.specs.Plan.{prefixes_from, puts}
use Rattle.name_plans.proofs.way.push_fronts.Given as goal

-- What is put so far, and what is to be put, are all of it.
abbrev pub invariant-loop-depth : goal.invariant-loop-depth
invariant-loop-depth l =
    l.fn.changes.items ++ puts l.time (prefixes_from (take l.parts l.directory) (drop l.parts l.directory))
    ≡ l.changes.items ++ puts l.time (prefixes_from (take l.depth l.directory) (drop l.depth l.directory))
