-- Pairs (trunk, rest), compared by trunk and then by rest.
-- Join adds each part. The rest is held at the top; a trunk part at the top or above makes both parts the top.
use Rattle.std.specs.Prelude.{◌≡◌, ℕ, ◌^◌, ◌<◌, min, Bool, true, false, cond, ◌&&◌, ◌||◌, ◌==◌, nat_le, nat_lt}
use Rattle.std.proofs.Common.{ap, le-leb, arith}
use Rattle.measures.specs.Amounts.{Kind}
use Rattle.measures.specs.Sums.{most, plus}
use Rattle.measures.specs.declared.pair.Pair.{Pair}

-- the rest beside a trunk part
abbrev pub rest_held : ℕ → ℕ → ℕ
rest_held t r = cond (nat_le most t) most (min r most)

pub rest_fits : (t r : ℕ) → rest_held t r < 2 ^ 64
rest_fits t r = elim (nat_le most t) as (λ b. cond b most (min r most) < 2 ^ 64) [ true ↦ omega arith | false ↦ omega arith ]

pub rest_top : (t r : ℕ) → min t most ≡ most → rest_held t r ≡ most
rest_top t r e = ap (λ b. cond b most (min r most)) (le-leb most t (omega arith))

-- two numbers as an amount, held at the top
abbrev pub pair_held : ℕ → ℕ → Pair
pair_held t r = record { trunk = min t most; rest = rest_held t r; fits = (omega arith, rest_fits t r); top = rest_top t r }

abbrev pub pair_at_most : Pair → Pair → Bool
pair_at_most x y = nat_lt x.trunk y.trunk || (x.trunk == y.trunk && nat_le x.rest y.rest)

abbrev pub pairs : Kind Pair
pairs = record { zero = pair_held 0 0; join = λ x y. pair_held (plus x.trunk y.trunk) (plus x.rest y.rest); at_most = pair_at_most }
