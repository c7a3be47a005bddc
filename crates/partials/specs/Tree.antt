-- The tree of orders: the children of a partial drawing, and how many nodes are below one.
use Rattle.std.specs.Prelude.{ℕ, zero, suc, ◌+◌, ◌-◌, Bool, cond, ◌&&◌, List, [], ◌∷◌, ◌++◌, length, take, drop, Some, None, Option, ◌==◌, nat_lt}
use Rattle.designs.specs.Grids.{Grid}
use Rattle.designs.specs.Readings.{TwoRows}
use Rattle.partials.specs.Partials.{Partial, unplaced}

-- x put in at place i
abbrev pub put_at : ℕ → ℕ → List ℕ → List ℕ
put_at i x xs = take i xs ++ (x ∷ drop i xs)

-- switch x put in at place i, then at each earlier place, back to the first
abbrev pub placings : ℕ → ℕ → List ℕ → List Partial
placings zero x xs = record { placed = put_at 0 x xs; prefix = [] } ∷ []
placings (suc i) x xs = record { placed = put_at (suc i) x xs; prefix = [] } ∷ placings i x xs

-- each of these switches added to the prefix
abbrev pub addings : Partial → List ℕ → List Partial
addings p [] = []
addings p (v ∷ vs) = record { placed = p.placed; prefix = p.prefix ++ (v ∷ []) } ∷ addings p vs

abbrev pub children : Grid → Partial → List Partial
children g p =
    cond (nat_lt (length p.placed) g.lefts)
    (placings (length p.placed) (length p.placed) p.placed)
    (addings p (unplaced g p))

-- how many they are
abbrev pub child_count : Grid → Partial → ℕ
child_count g p = cond (nat_lt (length p.placed) g.lefts) (length p.placed + 1) (g.rights - length p.prefix)

-- the member of a list behind so many others, if there is one
abbrev pub nth : {X : Type 0} → List X → ℕ → Option X
nth [] i = None
nth (x ∷ xs) zero = Some x
nth (x ∷ xs) (suc i) = nth xs i

-- a whole drawing
abbrev pub is_whole : Grid → Partial → Bool
is_whole g p = length p.placed == g.lefts && length p.prefix == g.rights

abbrev pub drawn : Partial → TwoRows
drawn p = record { left = p.placed; right = p.prefix }

-- how many switches are to be placed yet
abbrev pub height : Grid → Partial → ℕ
height g p = (g.lefts - length p.placed) + (g.rights - length p.prefix)

-- the nodes below those of a list, and themselves, to so many levels
abbrev pub nodes_under : (Partial → ℕ) → List Partial → ℕ
nodes_under f [] = 0
nodes_under f (p ∷ ps) = 1 + f p + nodes_under f ps

abbrev pub nodes_to : ℕ → Grid → Partial → ℕ
nodes_to zero g p = 0
nodes_to (suc n) g p = nodes_under (nodes_to n g) (children g p)

-- the nodes of the tree below p
abbrev pub nodes_below : Grid → Partial → ℕ
nodes_below g p = nodes_to (height g p) g p
