-- Rows: orders of the switches of one side.
use Rattle.std.specs.Prelude.{◌≡◌, ℕ, zero, suc, ◌+◌, ◌<◌, ◌≤◌, Bool, true, cond, ◌&&◌, List, [], ◌∷◌, ◌++◌, length, take, drop, ◌==◌, nat_lt, slice_index}
use Rattle.std.specs.List.{list_all}

-- how often x is named
abbrev pub times : ℕ → List ℕ → ℕ
times x [] = 0
times x (y ∷ ys) = cond (y == x) 1 0 + times x ys

-- an order of the switches 0 to n - 1: n names, each switch once
abbrev pub Order : ℕ → List ℕ → Type 0
Order n xs = (length xs ≡ n) × ((k : ℕ) → k < n → times k xs ≡ 1)

-- a row in 24 bytes: an order, filled up with 255
abbrev pub RowBytes : ℕ → List ℕ → Type 0
RowBytes n bs = (length bs ≡ 24) × Order n (take n bs) × ((k : ℕ) → n ≤ k → k < 24 → slice_index bs k ≡ 255)

-- the same as a test of 24 bytes
abbrev pub each_once : ℕ → List ℕ → Bool
each_once zero xs = true
each_once (suc k) xs = times k xs == 1 && each_once k xs

abbrev pub all_255 : List ℕ → Bool
all_255 bs = list_all (λ b. b == 255) bs

abbrev pub is_row : ℕ → List ℕ → Bool
is_row n bs = each_once n (take n bs) && all_255 (drop n bs)

-- the test of an order
abbrev pub is_order : ℕ → List ℕ → Bool
is_order n xs = length xs == n && each_once n xs

-- 0 to n - 1 in number order
abbrev pub number_order : ℕ → List ℕ
number_order zero = []
number_order (suc n) = number_order n ++ (n ∷ [])

-- the place of a switch in a row: how many stand before it
abbrev pub place : List ℕ → ℕ → ℕ
place [] x = 0
place (y ∷ ys) x = cond (y == x) 0 (1 + place ys x)

abbrev pub before : List ℕ → ℕ → ℕ → Bool
before row x y = nat_lt (place row x) (place row y)
