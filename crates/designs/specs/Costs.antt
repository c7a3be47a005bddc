-- The cost of a drawing.
use Rattle.std.specs.Prelude.{◌≡◌, ℕ, List, [], ◌∷◌, map}
use Rattle.measures.specs.Amounts.{Kind}
use Rattle.measures.specs.declared.link.Link.{Link}
use Rattle.designs.specs.Cells.{link_in, crossing}
use Rattle.designs.specs.Crossings.{Ends, crossings}
use Rattle.designs.specs.declared.cell.Cell.{Cell}

-- the join of a list of amounts; of none it is zero
abbrev pub total : {A : Type 0} → Kind A → List A → A
total K [] = K.zero
total K (x ∷ xs) = K.join x (total K xs)

-- the join over the members of a list, and over each two members, the earlier first
abbrev pub over_each : {A : Type 0} → Kind A → (ℕ → A) → List ℕ → A
over_each K f [] = K.zero
over_each K f (x ∷ xs) = K.join (f x) (over_each K f xs)

abbrev pub over_two : {A : Type 0} → Kind A → (ℕ → ℕ → A) → List ℕ → A
over_two K f [] = K.zero
over_two K f (x ∷ xs) = K.join (over_each K (f x) xs) (over_two K f xs)

module _ {A : Type 0} (K : Kind A) (priced : Link → Link → A) (cell : ℕ → ℕ → Cell) where
  -- the price of one crossing
  abbrev pub pair_price : Ends × Ends → A
  pair_price pq = priced (link_in (cell pq.0.left pq.0.right)) (link_in (cell pq.1.left pq.1.right))

  -- the cost of the drawing with these two rows: the join of the prices of its crossings
  abbrev pub cost : List ℕ → List ℕ → A
  cost left right = total K (map pair_price (crossings cell left right))

  -- the join of the prices between links of u and links of v, u before v
  abbrev pub between : List ℕ → ℕ → ℕ → A
  between left u v = over_two K (λ a c. crossing K priced (cell a v) (cell c u)) left

  -- The cost is the join over right switches u before v of the prices between links of u and links of v.
  abbrev pub CostByRightPairs : List ℕ → List ℕ → Type 0
  CostByRightPairs left right = cost left right ≡ over_two K (between left) right
