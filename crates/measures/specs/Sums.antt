-- Whole numbers up to 2^64 - 1: join is the sum, held at the top.
use Rattle.std.specs.Prelude.{ℕ, ◌+◌, ◌-◌, ◌^◌, min, nat_le}
use Rattle.std.proofs.Common.{arith}
use Rattle.measures.specs.Amounts.{Kind}
use Rattle.measures.specs.declared.sum.Sum.{Sum}

abbrev pub most : ℕ
most = 2 ^ 64 - 1

-- the sum of two numbers, held at the top
abbrev pub plus : ℕ → ℕ → ℕ
plus m n = min (m + n) most

-- a number as an amount, held at the top
abbrev pub sum_held : ℕ → Sum
sum_held n = record { value = min n most; fits = omega arith }

abbrev pub sums : Kind Sum
sums = record { zero = sum_held 0; join = λ x y. sum_held (plus x.value y.value); at_most = λ x y. nat_le x.value y.value }
