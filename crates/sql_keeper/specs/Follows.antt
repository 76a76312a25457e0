-- What may stand behind the items of a page.
use Rattle.std.specs.Prelude.{◌≡◌, ℕ, List, [], ◌∷◌}
use Rattle.std.specs.declared.cmp.Ordering.TheVariants.{Less}
use Rattle.weed_base.specs.PathOrder.{path_cmp}
use Rattle.name_core.specs.Pages.{Named}

-- The path comes behind that of the last item, if there is one.
abbrev pub Follows : List Named → List (List ℕ) → Type 0
Follows [] path = Unit {0}
Follows (item ∷ []) path = path_cmp item.0 path ≡ Less
Follows (item ∷ next ∷ items) path = Follows (next ∷ items) path
