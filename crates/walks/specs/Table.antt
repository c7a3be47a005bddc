-- The worked designs, evaluated.
use Rattle.std.specs.Prelude.{◌≡◌, ℕ, Bool, true, List, [], ◌∷◌, replicate, Some, None}
use Rattle.measures.specs.Amounts.{Kind}
use Rattle.measures.specs.Sums.{sums}
use Rattle.measures.specs.Pairs.{pairs}
use Rattle.measures.specs.Prices.{strand_price, trunk_price}
use Rattle.measures.specs.declared.link.Class.TheVariants.{Ordinary, Trunk}
use Rattle.measures.specs.declared.link.Link.{Link}
use Rattle.measures.specs.declared.sum.Sum.{Sum}
use Rattle.measures.specs.declared.pair.Pair.{Pair}
use Rattle.designs.specs.Grids.{Grid, with_link}
use Rattle.designs.specs.Readings.{cost_of, first_rows}
use Rattle.partials.specs.Partials.{Partial, nothing_placed}
use Rattle.partials.specs.Rules.{settled_price, lesser_price}
use Rattle.partials.specs.Sizes.{tree_size, unless_above}
use Rattle.partials.specs.Tree.{nodes_below}
use Rattle.walks.specs.Walk.{Walk, start, run, is_done}

-- nodes opened, the best cost, and whether the walk is done, after at most 100 nodes
abbrev pub outcome : {A B : Type 0} → Kind A → (Link → Link → A) → (A → B) → (Kind A → (Link → Link → A) → Grid → Partial → A) → Grid → ℕ × B × Bool
outcome K priced read rule g =
    let w : Walk _ = run K g (cost_of K priced g) (rule K priced g) 100 (start K g (cost_of K priced g) (rule K priced g) nothing_placed (first_rows g)) in
    (w.opened, read w.least, is_done K w)

-- a design without links
abbrev pub blank : ℕ → ℕ → Grid
blank n m = record { lefts = n; rights = m; cells = record { strands = replicate 576 0; classes = replicate 576 Ordinary } }

-- cells 0-1 with 2 strands and 1-0 with 3
abbrev pub crossed : Grid
crossed = with_link (with_link (blank 2 2) 0 1 2 Ordinary) 1 0 3 Ordinary

-- all four cells with one strand
abbrev pub square : Grid
square = with_link (with_link (with_link (with_link (blank 2 2) 0 0 1 Ordinary) 0 1 1 Ordinary) 1 0 1 Ordinary) 1 1 1 Ordinary

-- cells 0-0 with 3 strands, 1-0 with 1, 0-1 with 1 and a trunk, 1-1 with 2
abbrev pub mixed : Grid
mixed = with_link (with_link (with_link (with_link (blank 2 2) 0 0 3 Ordinary) 1 0 1 Ordinary) 0 1 1 Trunk) 1 1 2 Ordinary

abbrev pub by_strands : (Kind Sum → (Link → Link → Sum) → Grid → Partial → Sum) → Grid → ℕ × ℕ × Bool
by_strands rule g = outcome sums strand_price (λ x. x.value) rule g

abbrev pub by_trunks : (Kind Pair → (Link → Link → Pair) → Grid → Partial → Pair) → Grid → ℕ × (ℕ × ℕ) × Bool
by_trunks rule g = outcome pairs trunk_price (λ x. (x.trunk, x.rest)) rule g

-- what the four drawings of a design of two and two switches cost under measure 1
abbrev pub strand_costs : Grid → ℕ × ℕ × ℕ × ℕ
strand_costs g =
    let cost : List ℕ → List ℕ → ℕ = λ left right. (cost_of sums strand_price g (record { left = left; right = right })).value in
    let up : List ℕ = 0 ∷ (1 ∷ []) in
    let down : List ℕ = 1 ∷ (0 ∷ []) in
    (cost up up, cost up down, cost down up, cost down down)

abbrev pub Rows : Type 0
Rows =
    (unless_above (tree_size 2 2) ≡ Some 11) ×
    (unless_above (tree_size 3 3) ≡ Some 99) ×
    (unless_above (tree_size 11 1) ≡ Some 83871513) ×
    (unless_above (tree_size 12 1) ≡ None) ×
    ((cost_of sums strand_price crossed (first_rows crossed)).value ≡ 6) ×
    (by_strands settled_price crossed ≡ (5, 0, true)) ×
    (by_strands lesser_price crossed ≡ (5, 0, true)) ×
    (strand_costs square ≡ (1, 1, 1, 1)) ×
    (by_strands lesser_price square ≡ (3, 1, true)) ×
    (by_strands settled_price square ≡ (7, 1, true)) ×
    (by_strands lesser_price mixed ≡ (3, 1, true)) ×
    (by_trunks lesser_price mixed ≡ (6, (0, 6), true)) ×
    (by_strands settled_price (with_link (blank 1 3) 0 2 5 Trunk) ≡ (0, 0, true)) ×
    (by_strands settled_price (blank 3 3) ≡ (0, 0, true)) ×
    (nodes_below (blank 2 2) nothing_placed ≡ 11) ×
    (nodes_below (blank 3 3) nothing_placed ≡ 99)
