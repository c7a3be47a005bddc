-- The number of each fault.
use Rattle.std.specs.Prelude.{ℕ, Ok, Err, Result}
use Rattle.designs.specs.declared.fault.LinkFault.{LinkFault}
use Rattle.designs.specs.declared.fault.LinkFault.TheVariants.{UnknownSwitch, NoStrands, UnknownClass, CellFull}
use Rattle.designs.specs.declared.fault.DesignFault.{DesignFault}
use Rattle.designs.specs.declared.fault.DesignFault.TheVariants.{Size, InLink}
use Rattle.designs.specs.declared.fault.RowFault.{RowFault}
use Rattle.designs.specs.declared.fault.RowFault.TheVariants.{LeftRow, RightRow}
use Rattle.designs.specs.declared.fault.Placed.{Placed}

abbrev pub link_number : LinkFault → ℕ
link_number UnknownSwitch = 9
link_number NoStrands = 10
link_number UnknownClass = 11
link_number CellFull = 12

abbrev pub design_number : DesignFault → ℕ
design_number Size = 8
design_number (InLink f) = link_number f

abbrev pub row_number : RowFault → ℕ
row_number LeftRow = 15
row_number RightRow = 16

-- a fault with its place
abbrev pub at_place : {X F : Type 0} → Result X F → ℕ → Result X (Placed F)
at_place (Ok x) p = Ok x
at_place (Err f) p = Err (record { cause = f; place = p })
