-- The open nodes that a path stands for.
use Rattle.std.specs.Prelude.{◌≡◌, ℕ, List, if◌then◌else◌, nat_lt}
use Rattle.measures.specs.Amounts.{Kind}
use Rattle.arrayvec.specs.ArrayVec.{array_vec_len}
use Rattle.designs.specs.Grids.{Grid, grid_of}
use Rattle.designs.specs.declared.design.Design.{Design}
use Rattle.partials.specs.Nodes.{partial_of}
use Rattle.partials.specs.declared.node.Node.{Node}
use Rattle.partials.specs.Rules.{lesser}
use Rattle.partials.specs.Tree.{child_count}
use Rattle.walks.specs.Paths.{Deep, open_on}
use Rattle.walks.specs.Walk.{Open}
use Rattle.walks.specs.declared.level.Level.{Level}
use Rattle.walks.specs.declared.path.Path.{Path}

module _ {A : Type 0} where
  abbrev pub frontier_of : Path A → List (Open A)
  frontier_of s = open_on (grid_of s.design) s.levels.items

  -- how many levels a path has
  abbrev pub depth_of : Path A → ℕ
  depth_of s = array_vec_len s.levels

  -- a node may go below the deepest level: it is a partial drawing of the design, with at least as many switches placed as there are levels
  abbrev pub MayFollow : Path A → Node → Type 0
  MayFollow s n = ∥ Deep (grid_of s.design) (depth_of s) (partial_of n) ∥₁

  -- s is a path of this design, and these are its open nodes
  pub record Leads (d : Design) (nodes : List (Open A)) (s : Path A) : Type 0 where
    pub design : s.design ≡ d
    pub frontier : frontier_of s ≡ nodes

  -- the lesser of an amount and a level's bound, or the amount if all the level's children are taken
  abbrev pub lesser_at : Kind A → Grid → A → Level A → A
  lesser_at K g least x = if nat_lt x.tried (child_count g (partial_of x.node)) then lesser K least x.bound else least
