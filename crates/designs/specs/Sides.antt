-- How many switches a side may have.
use Rattle.std.specs.Prelude.{ℕ, Bool, cond, ◌&&◌, Ok, Err, Result, nat_le}
use Rattle.designs.specs.declared.fault.DesignFault.{DesignFault}
use Rattle.designs.specs.declared.fault.DesignFault.TheVariants.{Size}

abbrev pub is_size : ℕ → Bool
is_size n = nat_le 1 n && nat_le n 24

abbrev pub read_size : ℕ → Result ℕ DesignFault
read_size n = cond (is_size n) (Ok n) (Err Size)
