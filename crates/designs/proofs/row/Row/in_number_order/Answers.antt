use Rattle.designs.specs.Rows.{RowBytes}
use Rattle.designs.proofs.Orders.{number_order_row, row_below}
use Rattle.designs.proofs.row.Row.in_number_order.Goals as goal

pub invariant_of-result : goal.invariant_of-result
invariant_of-result c =
    let n = c.args.size.count in
    let r : RowBytes n c.numbers.result = rw c.numbers.ensures (number_order_row n c.args.size.within.1) in
    record { whole = r.0; once = r.1.1; filled = r.2; below = row_below n c.numbers.result r }
