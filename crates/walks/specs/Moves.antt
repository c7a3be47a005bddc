-- What starting, running and offering make of a walk.
use Rattle.std.specs.Prelude.{◌≡◌, ℕ, ◌+◌, not}
use Rattle.measures.specs.declared.measure.Measure.{Ghosts as MeasureGhosts}
use Rattle.measures.specs.declared.amount.Amount.{Ghosts as AmountGhosts}
use Rattle.designs.specs.Grids.{Grid}
use Rattle.designs.specs.Readings.{TwoRows, cost_of}
use Rattle.partials.specs.Partials.{Partial, DrawingOf, Completes}
use Rattle.walks.specs.Reached.{Steady}
use Rattle.walks.specs.Runs.{Exact}
use Rattle.walks.specs.Searches.{walk_of, grid_in, cost_in, Bounding, SearchBelow}
use Rattle.walks.specs.Walk.{start, run, offer}
use Rattle.walks.specs.declared.offered.Offered.{Offered}
use Rattle.walks.specs.declared.walk.Search.{Search}

module _ {M A : Type 0} {gm : MeasureGhosts M A} {ga : AmountGhosts A} where
  -- a new walk of a design by a rule with these answers, below a root and with a first drawing
  pub record Started (g : Grid) (answered : Grid → Partial → A) (root : Partial) (first : TwoRows) (s : Search M A gm ga) : Type 0 where
    pub design : grid_in s ≡ g
    pub walk : walk_of s ≡ start ga.kind g (cost_of ga.kind gm.priced g) (answered g) root first
    pub below : SearchBelow answered root s

  -- t is the walk s after a run for so many nodes by a rule with these answers, which opened n
  pub record Ran (answered : Grid → Partial → A) (nodes : ℕ) (s t : Search M A gm ga) (n : ℕ) : Type 0 where
    pub design : t.path.design ≡ s.path.design
    pub walk : walk_of t ≡ run ga.kind (grid_in s) (cost_in s) (answered (grid_in s)) nodes (walk_of s)
    pub opened : s.opened + n ≡ t.opened
    -- it opened that many nodes, or fewer, and then the walk is done
    pub exact : Exact ga.kind nodes (walk_of s) (walk_of t)
    -- it goes on below the same root, the best costs no more than before, and the lower bound is no lower
    pub below : (root : Partial) → SearchBelow answered root s → SearchBelow answered root t
    pub steady : (root : Partial) → SearchBelow answered root s → Steady ga.kind (walk_of s) (walk_of t)

  -- t is the walk s after a drawing was offered
  pub record Weighed (x : TwoRows) (s t : Search M A gm ga) (r : Offered A) : Type 0 where
    pub design : t.path.design ≡ s.path.design
    pub walk : walk_of t ≡ offer ga.kind (cost_in s) x (walk_of s)
    pub cost : r.cost ≡ cost_in s x
    pub taken : r.taken ≡ not (ga.kind.at_most s.best.cost r.cost)
    -- with a drawing of the design below the root it goes on below the same root, by whatever rule
    pub below : (answered : Grid → Partial → A) (root : Partial) → DrawingOf (grid_in s) x → Completes root x → SearchBelow answered root s → SearchBelow answered root t
    pub steady : (answered : Grid → Partial → A) (root : Partial) → Bounding ga.kind gm.priced answered → DrawingOf (grid_in s) x → Completes root x → SearchBelow answered root s → Steady ga.kind (walk_of s) (walk_of t)
