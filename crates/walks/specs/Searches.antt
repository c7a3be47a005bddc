-- A walk of the code as a walk of the definitions.
use Rattle.std.specs.Prelude.{◌≡◌}
use Rattle.measures.specs.Amounts.{Kind, AtMost}
use Rattle.measures.specs.declared.link.Link.{Link}
use Rattle.measures.specs.declared.measure.Measure.{Ghosts as MeasureGhosts}
use Rattle.measures.specs.declared.amount.Amount.{Ghosts as AmountGhosts}
use Rattle.designs.specs.Grids.{Grid, grid_of}
use Rattle.designs.specs.Readings.{TwoRows, rows_of, cost_of}
use Rattle.partials.specs.Partials.{Partial, DrawingOf, Completes}
use Rattle.walks.specs.Frontiers.{frontier_of}
use Rattle.walks.specs.Reached.{Reached}
use Rattle.walks.specs.Walk.{Walk}
use Rattle.walks.specs.declared.walk.Search.{Search}

-- the answers of a rule are at most the cost of every drawing that completes the partial one asked for
abbrev pub Bounding : {A : Type 0} → Kind A → (Link → Link → A) → (Grid → Partial → A) → Type 0
Bounding K priced answered = (g : Grid) (p : Partial) (x : TwoRows) → DrawingOf g x → Completes p x → AtMost K (answered g p) (cost_of K priced g x)

module _ {M A : Type 0} {gm : MeasureGhosts M A} {ga : AmountGhosts A} where
  abbrev pub walk_of : Search M A gm ga → Walk A
  walk_of s = record { incumbent = rows_of s.best.drawing; least = s.best.cost; opened = s.opened; frontier = frontier_of s.path }

  abbrev pub grid_in : Search M A gm ga → Grid
  grid_in s = grid_of s.path.design

  -- what a drawing of the design costs, by the search's measure
  abbrev pub cost_in : Search M A gm ga → TwoRows → A
  cost_in s = cost_of ga.kind gm.priced (grid_in s)

  -- t is the search s gone to the walk w, in the same design
  pub record GoesTo (s t : Search M A gm ga) (w : Walk A) : Type 0 where
    pub design : t.path.design ≡ s.path.design
    pub walk : walk_of t ≡ w

  -- s is a walk below a root by a rule with these answers
  abbrev pub SearchBelow : (Grid → Partial → A) → Partial → Search M A gm ga → Type 0
  SearchBelow answered root s = Reached ga.kind (grid_in s) (cost_in s) (answered (grid_in s)) root (walk_of s)
