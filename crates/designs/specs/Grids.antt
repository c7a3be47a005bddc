-- Designs as values: two sizes and the cells, and what a link does.
use Rattle.std.specs.Prelude.{◌≡◌, ℕ, ◌+◌, ◌<◌, cond, ◌&&◌, ◌||◌, replicate, Ok, Err, Result, ◌==◌, nat_le, nat_lt, slice_set}
use Rattle.measures.specs.Classes.{class_numbered, either_class}
use Rattle.measures.specs.Prices.{is_trunk}
use Rattle.measures.specs.declared.link.Class.{Class}
use Rattle.measures.specs.declared.link.Class.TheVariants.{Ordinary}
use Rattle.designs.specs.Cells.{index, cell_at}
use Rattle.designs.specs.Sides.{is_size}
use Rattle.designs.specs.declared.cell.Cell.{Cell}
use Rattle.designs.specs.declared.cell.Cells.{Cells}
use Rattle.designs.specs.declared.design.Design.{Design}
use Rattle.designs.specs.declared.fault.LinkFault.{LinkFault}
use Rattle.designs.specs.declared.fault.LinkFault.TheVariants.{UnknownSwitch, NoStrands, UnknownClass, CellFull}
use Rattle.designs.specs.declared.fault.DesignFault.{DesignFault}
use Rattle.designs.specs.declared.fault.DesignFault.TheVariants.{Size, InLink}

pub record Grid : Type 0 where
  pub lefts : ℕ
  pub rights : ℕ
  pub cells : Cells

abbrev pub grid_of : Design → Grid
grid_of d = record { lefts = d.left.count; rights = d.right.count; cells = d.cells }

-- the cell of a left and a right switch
abbrev pub cell_in : Grid → ℕ → ℕ → Cell
cell_in g = cell_at g.cells

-- a design without links
unfoldable pub no_links : ℕ → ℕ → Grid
no_links n m = record { lefts = n; rights = m; cells = record { strands = replicate 576 0; classes = replicate 576 Ordinary } }

abbrev pub sized : ℕ → ℕ → Result Grid DesignFault
sized n m = cond (is_size n && is_size m) (Ok (no_links n m)) (Err Size)

-- whether a link may be put in: the first fault in the order of the checks, or its class
abbrev pub link_check : Grid → ℕ → ℕ → ℕ → ℕ → Result Class LinkFault
link_check g a b s c =
    cond (nat_le g.lefts a || nat_le g.rights b) (Err UnknownSwitch)
    (cond (s == 0) (Err NoStrands)
    (cond (nat_lt 1 c) (Err UnknownClass)
    (cond (nat_lt 255 ((cell_in g a b).strands + s)) (Err CellFull) (Ok (class_numbered c)))))

-- a link more: its cell's strands added up, trunk if either link is
abbrev pub with_link : Grid → ℕ → ℕ → ℕ → Class → Grid
with_link g a b s k = record {
  lefts = g.lefts;
  rights = g.rights;
  cells = record {
    strands = slice_set g.cells.strands (index a b) ((cell_in g a b).strands + s);
    classes = slice_set g.cells.classes (index a b) (either_class (cell_in g a b).class k);
  };
}

abbrev pub in_link : {X : Type 0} → Result X LinkFault → Result X DesignFault
in_link (Ok x) = Ok x
in_link (Err f) = Err (InLink f)

-- the design after a link: as it was where the link is refused
abbrev pub after_link : Grid → ℕ → ℕ → ℕ → Result Class LinkFault → Grid
after_link g a b s (Ok k) = with_link g a b s k
after_link g a b s (Err f) = g

-- What a link does: it adds its strands to its cell, which is trunk if either was, and no other cell changes.
pub record LinkAdded (g : Grid) (a b s : ℕ) (k : Class) (h : Grid) : Type 0 where
  pub sizes : (h.lefts ≡ g.lefts) × (h.rights ≡ g.rights)
  pub strands : (cell_in h a b).strands ≡ (cell_in g a b).strands + s
  pub trunk : is_trunk (cell_in h a b).class ≡ (is_trunk (cell_in g a b).class || is_trunk k)
  pub elsewhere : (x y : ℕ) → y < 24 → ((x ≡ a) × (y ≡ b) → ⊥) → cell_in h x y ≡ cell_in g x y
