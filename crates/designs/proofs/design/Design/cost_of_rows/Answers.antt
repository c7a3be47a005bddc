use Rattle.std.proofs.Common.{◌≡◌, rules, sym, ap, ◌∙◌}
use Rattle.designs.specs.Costs.{between, over_two}
use Rattle.designs.specs.Grids.{grid_of, cell_in}
use Rattle.designs.specs.Readings.{row_of}
use Rattle.designs.proofs.Crossed.{counted_once, sharers_never_cross}
use Rattle.designs.proofs.Drawn.{row_order}
use Rattle.designs.proofs.Joined.{cost_by_right_pairs}
use Rattle.designs.proofs.design.Design.cost_of_rows.Goals as goal

pub returns : goal.returns
returns g c =
    let K = g.M.Amount.Amount.kind in
    let priced = g.M.Measure.priced in
    let cells = cell_in (grid_of c.args.self.now) in
    let left = c.args.left.now in
    let right = c.args.right.now in
    let by_pairs = cost_by_right_pairs K g.met.M.Amount.Amount.lawful priced cells (row_of left) (row_of right) in
    let joined : c.over_two.result ≡ over_two K (between K priced cells c.switches-left.result.now) c.switches.result.now = search rules in
    record {
      value = joined ∙ (ap (λ xs. over_two K (between K priced cells xs) c.switches.result.now) c.switches-left.ensures.list
          ∙ (ap (over_two K (between K priced cells (row_of left))) c.switches.ensures.list ∙ sym by_pairs));
      counted = counted_once cells left.size.count right.size.count (row_of left) (row_of right) (row_order left) (row_order right);
      sharers = sharers_never_cross (row_of left) (row_of right);
      by_pairs = by_pairs;
    }
