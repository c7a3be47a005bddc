use Rattle.std.proofs.Common.{◌≡◌, ℕ, refl, ◌∙◌}
use Rattle.designs.specs.Grids.{Grid}
use Rattle.designs.specs.declared.cell.Cells.{Cells}
use Rattle.partials.specs.Partials.{nothing_placed}
use Rattle.partials.specs.Sizes.{tree_size}
use Rattle.partials.specs.Tree.{nodes_below}
use Rattle.partials.specs.Children.{nothing_partial}
use Rattle.partials.proofs.Counted.{tree_counted}
use Rattle.partials.proofs.size.size_of.Goals as goal

nodes : (n m : ℕ) (c : Cells) → nodes_below (record { lefts = n; rights = m; cells = c }) nothing_placed ≡ tree_size n m
nodes n m c = let g : Grid = record { lefts = n; rights = m; cells = c } in tree_counted g nothing_placed (nothing_partial g) refl refl

pub returns-in_err-size : goal.returns-in_err-size
returns-in_err-size c = record { size = c.from_residual.ensures ∙ c.in_err-size.ensures; counted = nodes c.args.lefts c.args.rights }

pub returns : goal.returns
returns c = record { size = c.in_ok-size.ensures; counted = nodes c.args.lefts c.args.rights }
