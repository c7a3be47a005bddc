-- Cells, and what a crossing of two cells costs.
use Rattle.std.specs.Prelude.{ℕ, ◌+◌, ◌*◌, Bool, cond, not, ◌||◌, ◌==◌, slice_index, slice_index_or}
use Rattle.measures.specs.Amounts.{Kind}
use Rattle.measures.specs.declared.link.Class.TheVariants.{Ordinary}
use Rattle.measures.specs.declared.link.Link.{Link}
use Rattle.designs.specs.declared.cell.Cell.{Cell}
use Rattle.designs.specs.declared.cell.Cells.{Cells}

-- where the cell of a left and a right switch is kept
abbrev pub index : ℕ → ℕ → ℕ
index a b = a * 24 + b

abbrev pub cell_at : Cells → ℕ → ℕ → Cell
cell_at cs a b = record { strands = slice_index cs.strands (index a b); class = slice_index_or cs.classes (index a b) Ordinary }

abbrev pub has_link : Cell → Bool
has_link x = not (x.strands == 0)

abbrev pub link_in : Cell → Link
link_in x = record { strands = x.strands; class = x.class }

-- the price of a crossing of two cells: zero where one of them has no link
abbrev pub crossing : {A : Type 0} → Kind A → (Link → Link → A) → Cell → Cell → A
crossing K priced x y = cond (x.strands == 0 || y.strands == 0) K.zero (priced (link_in x) (link_in y))
