use Rattle.std.proofs.Common.{sym, ap, ◌∙◌, subst}
use Rattle.designs.proofs.Orders.{number_order_order}
use Rattle.designs.specs.Grids.{grid_of}
use Rattle.designs.specs.Readings.{rows_of, cost_of}
use Rattle.partials.specs.Children.{nothing_partial, nothing_completed}
use Rattle.partials.specs.Partials.{PartialOf, DrawingOf, Completes}
use Rattle.walks.proofs.walk.starting.beginning.Goals as goal

pub returns : goal.returns
returns g c =
    let G = grid_of c.args.design.now in
    let x = rows_of c.first_best.result.drawing in
    let first = c.first_best.ensures in
    record {
      root = c.root.ensures;
      first = first.rows;
      partial = subst (PartialOf G) (sym c.root.ensures) (nothing_partial G);
      drawing = subst (DrawingOf G) (sym first.rows) (number_order_order G.lefts, number_order_order G.rights);
      within = subst (λ p. Completes p x) (sym c.root.ensures) (nothing_completed x);
      cost = first.cost ∙ ap (cost_of g.M.Amount.Amount.kind g.M.Measure.priced G) (sym first.rows);
    }
