-- What a page of entries to be moved comes to.
use Rattle.std.specs.Prelude.{◌≡◌, ℕ, true, List, ◌++◌, map, false, Option, None, Result, Ok, Err}
use Rattle.std.specs.List.{last_or}
use Rattle.name_core.specs.declared.change.Change.{Change}
use Rattle.name_core.specs.declared.command.PlanFault.{PlanFault}
use Rattle.name_core.specs.declared.command.PlanFault.TheVariants as faults
use Rattle.name_core.specs.declared.command.Refusal.TheVariants.{PathLimit}
use Rattle.name_core.specs.Pages.{Named}
use Rattle.name_plans.specs.Moving.{moved_put, outgrows}

-- The last path of a page.
abbrev pub last_path : List Named → Option (List (List ℕ))
last_path page = last_or None (map (λ item. item.0) page)

-- The puts of a page's items stand behind the changes, and its last path is answered; or one of its paths would be
-- past a limit; or memory is wanting.
abbrev pub PushesPage : List (List ℕ) → List (List ℕ) → List Named → List Change → List Change → Result (Option (List (List ℕ))) PlanFault → Type 0
PushesPage from to page before now (Ok last) =
    (now ≡ before ++ map (moved_put from to) page) × (outgrows from to page ≡ false) × (last ≡ last_path page)
PushesPage from to page before now (Err (faults.Refused refusal)) = (refusal ≡ PathLimit) × (outgrows from to page ≡ true)
PushesPage from to page before now (Err faults.KeeperFault) = Unit {0}
PushesPage from to page before now (Err faults.Memory) = Unit {0}
