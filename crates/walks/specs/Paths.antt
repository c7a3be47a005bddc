-- The way from the root to the node whose children are opened, and the open nodes that it stands for.
use Rattle.std.specs.Prelude.{ℕ, suc, ◌+◌, ◌≤◌, List, [], ◌∷◌, ◌++◌, length, drop}
use Rattle.designs.specs.Grids.{Grid}
use Rattle.partials.specs.Nodes.{partial_of}
use Rattle.partials.specs.Partials.{Partial, PartialOf}
use Rattle.partials.specs.Tree.{children}
use Rattle.walks.specs.Walk.{Open, all_open}
use Rattle.walks.specs.declared.level.Level.{Level}

-- a partial drawing that has at least so many switches placed
abbrev pub Deep : Grid → ℕ → Partial → Type 0
Deep g l p = PartialOf g p × (l ≤ length p.placed + length p.prefix)

-- each level's node is a partial drawing of the design, with at least as many switches placed as there are levels above
abbrev pub OnPath : {A : Type 0} → Grid → ℕ → List (Level A) → Type 0
OnPath g l [] = Unit {0}
OnPath g l (x ∷ xs) = Deep g l (partial_of x.node) × OnPath g (suc l) xs

-- the children of a level's node that were not taken yet
abbrev pub open_at : {A : Type 0} → Grid → Level A → List (Open A)
open_at g x = all_open x.bound (drop x.tried (children g (partial_of x.node)))

-- the open nodes of a path, the deepest level's first
abbrev pub open_on : {A : Type 0} → Grid → List (Level A) → List (Open A)
open_on g [] = []
open_on g (x ∷ xs) = open_on g xs ++ open_at g x
