-- Choosing between two parts, and comparing two amounts.
use Rattle.std.specs.Prelude.{ℕ, cond, List, length, Ok, Err, Result, ◌==◌}
use Rattle.measures.specs.Amounts.{Kind}
use Rattle.designs.specs.Faults.{row_number}
use Rattle.designs.specs.Grids.{Grid}
use Rattle.designs.specs.Readings.{TwoRows, read_rows}
use Rattle.designs.specs.declared.fault.Layer.{Layer}
use Rattle.designs.specs.declared.fault.Layer.TheVariants.{Script, Search}
use Rattle.designs.specs.declared.fault.RowFault.{RowFault}
use Rattle.designs.specs.declared.choosing.PartFault.{PartFault}
use Rattle.designs.specs.declared.choosing.PartFault.TheVariants.{Length, InRow}
use Rattle.designs.specs.declared.fault.Placed.{Placed}
use Rattle.designs.specs.declared.comparing.Comparison.{Comparison}
use Rattle.designs.specs.declared.comparing.Comparison.TheVariants.{Fewer, Alike, More}

abbrev pub in_row : {X : Type 0} → Result X RowFault → Result X PartFault
in_row (Ok x) = Ok x
in_row (Err f) = Err (InRow f)

-- a part that has not 48 bytes is refused before its rows are looked at
abbrev pub read_part : Grid → List ℕ → Result TwoRows PartFault
read_part g bs = cond (length bs == 48) (in_row (read_rows g bs)) (Err Length)

-- the cheaper of two parts, the first on a tie; a fault of the first part comes before one of the second
abbrev pub choice : {A P : Type 0} → Kind A → (TwoRows → A) → Result TwoRows PartFault → Result TwoRows PartFault → P → P → Result P (Placed PartFault)
choice K cost (Err e) second p q = Err (record { cause = e; place = 0 })
choice K cost (Ok x) (Err e) p q = Err (record { cause = e; place = 1 })
choice K cost (Ok x) (Ok y) p q = Ok (cond (K.at_most (cost x) (cost y)) p q)

abbrev pub part_number : PartFault → ℕ
part_number Length = 4
part_number (InRow f) = row_number f

abbrev pub part_layer : PartFault → Layer
part_layer Length = Script
part_layer (InRow f) = Search

-- whether the first amount is the fewer, both are alike, or the first is the more
abbrev pub compared : {A : Type 0} → Kind A → A → A → Comparison
compared K x y = cond (K.at_most x y) (cond (K.at_most y x) Alike Fewer) More
