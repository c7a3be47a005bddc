-- The depth-first branch and bound.
use Rattle.std.specs.Prelude.{ℕ, zero, suc, ◌+◌, Bool, List, [], ◌∷◌, ◌++◌, if◌then◌else◌}
use Rattle.measures.specs.Amounts.{Kind}
use Rattle.designs.specs.Grids.{Grid}
use Rattle.designs.specs.Readings.{TwoRows}
use Rattle.partials.specs.Partials.{Partial}
use Rattle.partials.specs.Rules.{lesser, greater}
use Rattle.partials.specs.Tree.{children, is_whole, drawn}

-- an open node: it waits, with its parent's bound
pub record Open (A : Type 0) : Type 0 where
  pub node : Partial
  pub inherited : A

-- a walk: the best drawing so far and its cost, the nodes opened, and the open nodes, foremost first
pub record Walk (A : Type 0) : Type 0 where
  pub incumbent : TwoRows
  pub least : A
  pub opened : ℕ
  pub frontier : List (Open A)

abbrev pub all_open : {A : Type 0} → A → List Partial → List (Open A)
all_open b [] = []
all_open b (p ∷ ps) = record { node = p; inherited = b } ∷ all_open b ps

-- the least of an amount and the bounds that the open nodes inherited, the foremost where they are level
abbrev pub least_of : {A : Type 0} → Kind A → A → List (Open A) → A
least_of K b [] = b
least_of K b (o ∷ rest) = least_of K (lesser K b o.inherited) rest

-- no drawing below the root costs less
abbrev pub lower_bound : {A : Type 0} → Kind A → Walk A → A
lower_bound K w = least_of K w.least w.frontier

abbrev pub is_done : {A : Type 0} → Kind A → Walk A → Bool
is_done K w = K.at_most w.least (lower_bound K w)

-- a drawing is taken if it costs less
abbrev pub take_better : {A : Type 0} → Kind A → (TwoRows → A) → TwoRows → A → ℕ → List (Open A) → TwoRows → Walk A
take_better K cost best least opened rest x =
    if K.at_most least (cost x)
    then record { incumbent = best; least = least; opened = opened; frontier = rest }
    else record { incumbent = x; least = cost x; opened = opened; frontier = rest }

-- an offered drawing
abbrev pub offer : {A : Type 0} → Kind A → (TwoRows → A) → TwoRows → Walk A → Walk A
offer K cost x w = take_better K cost w.incumbent w.least w.opened w.frontier x

-- a node that was taken off the frontier: pruned, compared if it is a whole drawing, else its children come first
abbrev pub visit : {A : Type 0} → Kind A → Grid → (TwoRows → A) → A → Partial → Walk A → Walk A
visit K g cost bound p w =
    if K.at_most w.least bound then w
    else (if is_whole g p then offer K cost (drawn p) w
    else record { incumbent = w.incumbent; least = w.least; opened = w.opened; frontier = all_open bound (children g p) ++ w.frontier })

-- a design, what its drawings cost, and what a rule answers of its partial drawings
module _ {A : Type 0} (K : Kind A) (g : Grid) (cost : TwoRows → A) (answer : Partial → A) where
  -- from a root and a first drawing: the root's children are open if its bound is less than the drawing's cost
  abbrev pub start : Partial → TwoRows → Walk A
  start root first = record {
    incumbent = first;
    least = cost first;
    opened = 0;
    frontier = if K.at_most (cost first) (answer root) then [] else all_open (answer root) (children g root);
  }

  -- the first open node: its bound is the greater of its parent's and the rule's answer
  abbrev pub open_first : TwoRows → A → ℕ → List (Open A) → Walk A
  open_first best least opened [] = record { incumbent = best; least = least; opened = opened; frontier = [] }
  open_first best least opened (o ∷ rest) =
      visit K g cost (greater K o.inherited (answer o.node)) o.node (record { incumbent = best; least = least; opened = opened + 1; frontier = rest })

  abbrev pub open_one : Walk A → Walk A
  open_one w = open_first w.incumbent w.least w.opened w.frontier

  -- up to so many nodes, until the walk is done
  abbrev pub run : ℕ → Walk A → Walk A
  run zero w = w
  run (suc b) w = if is_done K w then w else run b (open_one w)
