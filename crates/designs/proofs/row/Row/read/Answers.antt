use Rattle.std.proofs.Common.{◌≡◌, rules, true}
use Rattle.designs.specs.Rows.{RowBytes, is_row}
use Rattle.designs.proofs.Orders.{decides_row, row_below}
use Rattle.designs.proofs.row.Row.read.Goals as goal

pub returns-then-not-names_each_once-clause-meaning : goal.returns-then-not-names_each_once-clause-meaning
returns-then-not-names_each_once-clause-meaning c = decides_row c.args.size.count c.args.bytes.now c.args.size.within.1 c.requires

pub invariant_of-result : goal.invariant_of-result
invariant_of-result c =
    let n = c.args.size.count in
    let bs = c.args.bytes.now in
    let s = c.copy_from_slice.new.self in
    let yes : is_row n bs ≡ true = search rules in
    let r : RowBytes n s = rw c.copy_from_slice.ensures.after ((decides_row n bs c.args.size.within.1 c.requires).0 yes) in
    record { whole = r.0; once = r.1.1; filled = r.2; below = row_below n s r }
