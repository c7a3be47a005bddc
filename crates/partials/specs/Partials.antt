-- Partial drawings, and the drawings that complete them.
use Rattle.std.specs.Prelude.{◌≡◌, ℕ, ◌<◌, ◌≤◌, Bool, not, List, [], length, take, filter, ◌==◌, nat_lt, All}
use Rattle.designs.specs.Grids.{Grid}
use Rattle.designs.specs.Readings.{TwoRows}
use Rattle.designs.specs.Rows.{Order, times, number_order}
use Rattle.std.specs.List.{list_any}

-- the first left switches, 0 to k - 1, placed in some order, and a beginning of the right row
pub record Partial : Type 0 where
  pub placed : List ℕ
  pub prefix : List ℕ

abbrev pub nothing_placed : Partial
nothing_placed = record { placed = []; prefix = [] }

-- a partial drawing of the design
pub record PartialOf (g : Grid) (p : Partial) : Type 0 where
  pub placed : Order (length p.placed) p.placed
  pub few : length p.placed ≤ g.lefts
  pub early : length p.placed < g.lefts → p.prefix ≡ []
  pub named : All (λ v. v < g.rights) p.prefix
  pub once : (v : ℕ) → times v p.prefix ≤ 1

-- x is a drawing of the design
abbrev pub DrawingOf : Grid → TwoRows → Type 0
DrawingOf g x = Order g.lefts x.left × Order g.rights x.right

-- the switches of a row that are below k, in the row's order
abbrev pub below : ℕ → List ℕ → List ℕ
below k row = filter (λ a. nat_lt a k) row

-- x keeps the order of the placed switches, and its right row starts with the prefix
abbrev pub Completes : Partial → TwoRows → Type 0
Completes p x = (below (length p.placed) x.left ≡ p.placed) × (take (length p.prefix) x.right ≡ p.prefix)

abbrev pub has : List ℕ → ℕ → Bool
has xs x = list_any (λ y. y == x) xs

-- the right switches that are not in the prefix, lowest number first
abbrev pub unplaced : Grid → Partial → List ℕ
unplaced g p = filter (λ v. not (has p.prefix v)) (number_order g.rights)
