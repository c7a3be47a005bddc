-- The crossings of a drawing, and when two links cross.
use Rattle.std.specs.Prelude.{◌≡◌, ℕ, ◌+◌, ◌<◌, Bool, true, false, cond, ◌&&◌, ◌||◌, List, [], ◌∷◌, ◌++◌, map, length, filter, ◌==◌}
use Rattle.std.specs.List.{flat_map}
use Rattle.designs.specs.Cells.{has_link}
use Rattle.designs.specs.Rows.{before}
use Rattle.designs.specs.declared.cell.Cell.{Cell}

-- a link by its ends
pub record Ends : Type 0 where
  pub left : ℕ
  pub right : ℕ

-- each two members of a list, the earlier first
abbrev pub pairs : List ℕ → List (ℕ × ℕ)
pairs [] = []
pairs (x ∷ xs) = map (λ y. (x, y)) xs ++ pairs xs

-- where right switch u stands before v: v to the earlier of two left switches, with u to the later
abbrev pub meetings : List ℕ → ℕ × ℕ → List (Ends × Ends)
meetings left uv = map (λ ac. (record { left = ac.0; right = uv.1 }, record { left = ac.1; right = uv.0 })) (pairs left)

abbrev pub linked_both : (ℕ → ℕ → Cell) → Ends × Ends → Bool
linked_both cell pq = has_link (cell pq.0.left pq.0.right) && has_link (cell pq.1.left pq.1.right)

-- the crossings of the drawing with these two rows: pairs of links
abbrev pub crossings : (ℕ → ℕ → Cell) → List ℕ → List ℕ → List (Ends × Ends)
crossings cell left right = filter (linked_both cell) (flat_map (meetings left) (pairs right))

-- two links cross: one's end is before the other's on one side, and behind it on the other
abbrev pub crosses : List ℕ → List ℕ → Ends → Ends → Bool
crosses left right p q =
    (before left p.left q.left && before right q.right p.right) ||
    (before left q.left p.left && before right p.right q.right)

-- how often a list has the pair p, q in this order
abbrev pub same_ends : Ends → Ends → Bool
same_ends p q = p.left == q.left && p.right == q.right

abbrev pub listed : Ends → Ends → List (Ends × Ends) → ℕ
listed p q [] = 0
listed p q (x ∷ xs) = cond (same_ends x.0 p && same_ends x.1 q) 1 0 + listed p q xs

-- p is a link of the drawing
abbrev pub LinkOf : (ℕ → ℕ → Cell) → List ℕ → List ℕ → Ends → Type 0
LinkOf cell left right p = (p.left < length left) × (p.right < length right) × (has_link (cell p.left p.right) ≡ true)

-- Two links that cross are counted once, and two that do not cross are not counted, whichever way round they are named.
abbrev pub CountedOnce : (ℕ → ℕ → Cell) → List ℕ → List ℕ → Type 0
CountedOnce cell left right = (p q : Ends) → LinkOf cell left right p → LinkOf cell left right q
    → listed p q (crossings cell left right) + listed q p (crossings cell left right) ≡ cond (crosses left right p q) 1 0

-- Links that share a switch do not cross.
abbrev pub SharersNeverCross : List ℕ → List ℕ → Type 0
SharersNeverCross left right = (p q : Ends) → (p.left ≡ q.left → crosses left right p q ≡ false) × (p.right ≡ q.right → crosses left right p q ≡ false)
