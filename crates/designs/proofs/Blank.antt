-- A design without links keeps the limits.
use Rattle.std.proofs.Common.{◌≡◌, ℕ, zero, suc, get_or, replicate, refl}
use Rattle.measures.specs.declared.link.Class.TheVariants.{Ordinary}
use Rattle.designs.specs.Grids.{Grid, no_links}
use Rattle.designs.specs.declared.cell.Cells.{Cells}

-- what a list of one value holds, past its end too
pub get_or_same : {X : Type 0} (x : X) (n k : ℕ) → get_or (replicate n x) k x ≡ x
get_or_same x zero k = refl
get_or_same x (suc n) zero = refl
get_or_same x (suc n) (suc k) = get_or_same x n k

pub is_blank : (n m : ℕ) (cs : Cells) → cs.strands ≡ replicate 576 0 → cs.classes ≡ replicate 576 Ordinary → ◌≡◌ {A = Grid} (record { lefts = n; rights = m; cells = cs }) (no_links n m)
unfolding no_links
is_blank n m cs s t = λ i. record { lefts = n; rights = m; cells = record { strands = s i; classes = t i } }
