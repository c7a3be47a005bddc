-- The numbers by which a script names the classes of a link.
use Rattle.std.specs.Prelude.{ℕ, Result, Ok, Err, cond, ◌==◌, ◌||◌, nat_lt}
use Rattle.measures.specs.Prices.{is_trunk}
use Rattle.measures.specs.declared.link.Class.{Class}
use Rattle.measures.specs.declared.link.Class.TheVariants.{Ordinary, Trunk}
use Rattle.measures.specs.declared.link.UnknownClass.{UnknownClass}

abbrev pub class_numbered : ℕ → Class
class_numbered c = cond (c == 0) Ordinary Trunk

-- 0 is ordinary, 1 trunk, and no other number names a class
abbrev pub read_class : ℕ → Result Class UnknownClass
read_class c = cond (nat_lt 1 c) (Err (record {})) (Ok (class_numbered c))

-- the class of a cell that has links of these two classes
abbrev pub either_class : Class → Class → Class
either_class x y = cond (is_trunk x || is_trunk y) Trunk Ordinary
