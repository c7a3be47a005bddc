-- The report of a walk, and that it is true.
use Rattle.std.specs.Prelude.{◌≡◌, ℕ, ◌≤◌, Bool, true, Option}
use Rattle.measures.specs.Amounts.{Kind}
use Rattle.measures.specs.declared.link.Link.{Link}
use Rattle.measures.specs.declared.measure.Measure.{Ghosts as MeasureGhosts}
use Rattle.measures.specs.declared.amount.Amount.{Ghosts as AmountGhosts}
use Rattle.designs.specs.Grids.{Grid}
use Rattle.designs.specs.Readings.{TwoRows, rows_of, cost_of}
use Rattle.partials.specs.Partials.{Partial, DrawingOf, Completes}
use Rattle.partials.specs.Sizes.{tree_size, unless_above}
use Rattle.partials.specs.Tree.{nodes_below}
use Rattle.walks.specs.Reached.{NoneBelow}
use Rattle.walks.specs.Searches.{grid_in, Bounding, SearchBelow}
use Rattle.walks.specs.Walk.{Walk, lower_bound, is_done}
use Rattle.walks.specs.declared.report.Report.{Report}
use Rattle.walks.specs.declared.walk.Search.{Search}

-- the values of a report: the drawing's two rows are two of the seven
pub record Values (A : Type 0) : Type 0 where
  pub done : Bool
  pub opened : ℕ
  pub cost : A
  pub floor : A
  pub size : Option ℕ
  pub drawing : TwoRows

abbrev pub values_of : {A : Type 0} → Report A → Values A
values_of r = record { done = r.done; opened = r.opened; cost = r.cost; floor = r.floor; size = r.size; drawing = rows_of r.drawing }

-- what is reported of a walk of a design
abbrev pub reported : {A : Type 0} → Kind A → Grid → Walk A → Values A
reported K g w = record { done = is_done K w; opened = w.opened; cost = w.least; floor = lower_bound K w; size = unless_above (tree_size g.lefts g.rights); drawing = w.incumbent }

-- A report is true: it shows a drawing of the design below the root and that drawing's cost, no drawing below the root
-- costs less than the floor, if it says done none costs less than the one shown, and no more nodes were opened than there are.
pub record TrueReport {A : Type 0} (K : Kind A) (priced : Link → Link → A) (g : Grid) (root : Partial) (r : Values A) : Type 0 where
  pub drawing : DrawingOf g r.drawing
  pub within : Completes root r.drawing
  pub priced_so : r.cost ≡ cost_of K priced g r.drawing
  pub bounded : NoneBelow K g (cost_of K priced g) root r.floor
  pub least : r.done ≡ true → NoneBelow K g (cost_of K priced g) root r.cost
  pub counted : r.opened ≤ nodes_below g root

-- whatever lawful rule a walk goes by, and whatever its root is, its report is true
abbrev pub AlwaysTrue : {M A : Type 0} {gm : MeasureGhosts M A} {ga : AmountGhosts A} → Search M A gm ga → Values A → Type 0
AlwaysTrue {A = A} {gm = gm} {ga = ga} s r = (answered : Grid → Partial → A) (root : Partial) → Bounding ga.kind gm.priced answered → SearchBelow answered root s → TrueReport ga.kind gm.priced (grid_in s) root r
