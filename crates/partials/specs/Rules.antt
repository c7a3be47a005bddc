-- The delivered bounding rules.
use Rattle.std.specs.Prelude.{ℕ, cond, List, [], ◌∷◌, ◌++◌}
use Rattle.measures.specs.Amounts.{Kind}
use Rattle.measures.specs.declared.link.Link.{Link}
use Rattle.designs.specs.Costs.{over_each, over_two, between}
use Rattle.designs.specs.Grids.{Grid, cell_in}
use Rattle.partials.specs.Partials.{Partial, unplaced}

-- the lesser of two amounts, the first where they are level
abbrev pub lesser : {A : Type 0} → Kind A → A → A → A
lesser K x y = cond (K.at_most x y) x y

-- the greater of two amounts, the first where they are level
abbrev pub greater : {A : Type 0} → Kind A → A → A → A
greater K x y = cond (K.at_most y x) x y

-- the join over each member of the first list with every member behind it, in that list or in the second
abbrev pub over_settled : {A : Type 0} → Kind A → (ℕ → ℕ → A) → List ℕ → List ℕ → A
over_settled K f [] rest = K.zero
over_settled K f (u ∷ us) rest = K.join (over_each K (f u) (us ++ rest)) (over_settled K f us rest)

module _ {A : Type 0} (K : Kind A) (priced : Link → Link → A) (g : Grid) (p : Partial) where
  -- the known price of right switches u before v: over the placed left switches
  abbrev pub known : ℕ → ℕ → A
  known u v = between K priced (cell_in g) p.placed u v

  -- rule 1: the known price of every settled pair, one of which is in the prefix
  abbrev pub settled_price : A
  settled_price = over_settled K known p.prefix (unplaced g p)

  -- rule 2: that, and the lesser price of every other pair
  abbrev pub lesser_price : A
  lesser_price = K.join settled_price (over_two K (λ u v. lesser K (known u v) (known v u)) (unplaced g p))
