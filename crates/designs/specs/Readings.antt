-- Drawings as values: two lists of switches, and how they are read from 48 bytes.
use Rattle.std.specs.Prelude.{ℕ, cond, ◌&&◌, List, take, drop, Some, None, Ok, Err, Option, Result}
use Rattle.measures.specs.Amounts.{Kind}
use Rattle.measures.specs.declared.link.Link.{Link}
use Rattle.designs.specs.Costs.{cost}
use Rattle.designs.specs.Grids.{Grid, cell_in}
use Rattle.designs.specs.Rows.{is_order, is_row, number_order}
use Rattle.designs.specs.declared.row.Row.{Row}
use Rattle.designs.specs.declared.drawing.Drawing.{Drawing}
use Rattle.designs.specs.declared.fault.RowFault.{RowFault}
use Rattle.designs.specs.declared.fault.RowFault.TheVariants.{LeftRow, RightRow}

pub record TwoRows : Type 0 where
  pub left : List ℕ
  pub right : List ℕ

abbrev pub row_of : Row → List ℕ
row_of r = take r.size.count r.switches

abbrev pub rows_of : Drawing → TwoRows
rows_of x = record { left = row_of x.left; right = row_of x.right }

-- both rows of a design in number order
abbrev pub first_rows : Grid → TwoRows
first_rows g = record { left = number_order g.lefts; right = number_order g.rights }

-- two rows of n and m switches in 48 bytes, 24 each
abbrev pub rows_in : ℕ → ℕ → List ℕ → Result TwoRows RowFault
rows_in n m bs =
    cond (is_row n (take 24 bs))
    (cond (is_row m (drop 24 bs))
    (Ok (record { left = take n (take 24 bs); right = take m (drop 24 bs) }))
    (Err RightRow))
    (Err LeftRow)

-- the drawing of a design in 48 bytes
abbrev pub read_rows : Grid → List ℕ → Result TwoRows RowFault
read_rows g bs = rows_in g.lefts g.rights bs

-- the drawing of a design with these rows, if both are orders of its side's switches
abbrev pub rows_named : Grid → List ℕ → List ℕ → Option TwoRows
rows_named g left right = cond (is_order g.lefts left && is_order g.rights right) (Some (record { left = left; right = right })) None

-- the cost of a drawing of a design
abbrev pub cost_of : {A : Type 0} → Kind A → (Link → Link → A) → Grid → TwoRows → A
cost_of K priced g x = cost K priced (cell_in g) x.left x.right
