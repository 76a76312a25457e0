-- What a search tree of paths holds.
use Rattle.std.specs.Prelude.{◌≡◌, ℕ, true, not, Bool, List, [], ◌∷◌, ◌++◌, map, filter, Option, None, Some}
use Rattle.std.specs.Borrow.{Bor}
use Rattle.std.specs.FinMap.{is_sorted}
use Rattle.weed_base.specs.PathOrder.{path_cmp}
use Rattle.name_core.specs.Namespace.{is_within}
use Rattle.name_core.specs.Pages.{Named}
use Rattle.mem_keeper.specs.declared.tree.Node.{Node}
use Rattle.mem_keeper.specs.declared.tree.Tree.{Tree}
use Rattle.mem_keeper.specs.declared.tree.Tree.TheVariants.{Empty, Fork'}

-- The paths with their entries, from the left to the right.
abbrev pub items : Tree → List Named
items Empty = []
items (Fork' p left height path entry right) = items left ++ (path, entry) ∷ items right

-- The paths strictly rise.
abbrev pub Rises : List Named → Type 0
Rises named = is_sorted path_cmp named ≡ true

-- The same of a tree's.
abbrev pub IsSearchTree : Tree → Type 0
IsSearchTree tree = Rises (items tree)

-- What stands at a node.
abbrev pub named : Node → Named
named node = (node.path, node.entry)

-- What it holds, with what is below it.
abbrev pub node_items : Node → List Named
node_items node = items node.left ++ named node ∷ items node.right

-- What stands at nodes that are lent.
abbrev pub listed : List (Bor Node) → List Named
listed nodes = map (λ node. named node.now) nodes

-- What stands at a node that bounds others, if there is one.
abbrev pub bound : Option Node → List Named
bound None = []
bound (Some node) = named node ∷ []

-- The paths strictly rise, from a first node's through a tree's to a last node's.
abbrev pub RisesBetween : Option Node → Tree → Option Node → Type 0
RisesBetween least tree most = Rises (bound least ++ (items tree ++ bound most))

-- Those whose paths are wanted.
abbrev pub wanted_of : (List (List ℕ) → Bool) → List Named → List Named
wanted_of wanted items = filter (λ item. wanted item.0) items

-- Without what stands at the top and below it.
abbrev pub without : List (List ℕ) → List Named → List Named
without top named = wanted_of (λ path. not (is_within top path)) named
