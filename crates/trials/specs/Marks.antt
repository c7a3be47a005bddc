-- An amount that is written as one byte, 183, which is no UTF-8.
use Rattle.std.specs.Prelude.{ℕ, ◌<◌, ◌≤◌, List, [], ◌∷◌, length}
use Rattle.std.proofs.Common.{arith}
use Rattle.measures.specs.Unbroken.{NoSpace}
use Rattle.measures.specs.declared.sum.Sum.{Sum}

abbrev pub mark_written : Sum → List ℕ
mark_written x = 183 ∷ []

pub mark_short : (x : Sum) → (0 < length (mark_written x)) × (length (mark_written x) ≤ 41)
mark_short x = (omega arith, omega arith)

pub mark_unbroken : (x : Sum) → NoSpace (mark_written x)
mark_unbroken x = (λ e. omega (arith, e), tt)
