-- How the delivered measures write their amounts.
use Rattle.std.specs.Prelude.{ℕ, List, ◌∷◌, ◌++◌, decimal}
use Rattle.measures.specs.declared.sum.Sum.{Sum}
use Rattle.measures.specs.declared.pair.Pair.{Pair}

-- in base ten
abbrev pub strand_written : Sum → List ℕ
strand_written x = decimal x.value

-- trunk, slash, rest
abbrev pub trunk_written : Pair → List ℕ
trunk_written x = decimal x.trunk ++ (47 ∷ decimal x.rest)
