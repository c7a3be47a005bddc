-- What the rows of a drawing keep.
use Rattle.std.proofs.Common.{◌≡◌, length, arith}
use Rattle.std.proofs.lemmas.List.{length-take-le}
use Rattle.designs.specs.Rows.{Order}
use Rattle.designs.specs.Readings.{row_of}
use Rattle.designs.specs.declared.row.Row.{Row}

pub row_length : (r : Row) → length (row_of r) ≡ r.size.count
row_length r = length-take-le r.size.count r.switches (omega (arith, r.whole, r.size.within.1))

pub row_order : (r : Row) → Order r.size.count (row_of r)
row_order r = (row_length r, r.once)
