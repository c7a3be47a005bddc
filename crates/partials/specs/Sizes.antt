-- The size of the tree by its formula.
use Rattle.std.specs.Prelude.{ℕ, zero, suc, ◌+◌, ◌*◌, cond, Some, None, Option, nat_le}

-- B(j): the nodes below a full left row with j right switches unplaced
abbrev pub right_size : ℕ → ℕ
right_size zero = 0
right_size (suc j) = suc j * (1 + right_size j)

-- A(k) with i = n - k left switches unplaced: the nodes below k placed left switches
abbrev pub left_size : ℕ → ℕ → ℕ → ℕ
left_size m k zero = right_size m
left_size m k (suc i) = (k + 1) * (1 + left_size m (k + 1) i)

abbrev pub tree_size : ℕ → ℕ → ℕ
tree_size n m = left_size m 0 n

-- absent above 1,000,000,000
abbrev pub unless_above : ℕ → Option ℕ
unless_above x = cond (nat_le x 1000000000) (Some x) None
