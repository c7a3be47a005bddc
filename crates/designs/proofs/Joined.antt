-- The cost of a drawing as a join over right switches, two by two.
use Rattle.std.proofs.Common.{◌≡◌, ℕ, Bool, true, false, cond, not, ◌&&◌, ◌||◌, eqb, List, [], ◌∷◌, ◌++◌, map, filter, sym, refl, ap, ◌∙◌}
use mathlib.Core.Path.{fun_ext}
use mathlib.Core.List.{map-map}
use Rattle.std.specs.List.{flat_map}
use Rattle.measures.specs.Amounts.{Kind, Lawful}
use Rattle.measures.specs.declared.link.Link.{Link}
use Rattle.designs.specs.Cells.{link_in}
use Rattle.designs.specs.Crossings.{Ends, pairs, meetings, linked_both}
use Rattle.designs.specs.Costs.{total, over_each, over_two, pair_price, between, CostByRightPairs}
use Rattle.designs.specs.declared.cell.Cell.{Cell}

-- a price that stands where both have links is one that is left out where one has none
cond_both_not : {A : Type 0} (x y : Bool) (a z : A) → cond (not x && not y) a z ≡ cond (x || y) z a
cond_both_not true y a z = refl
cond_both_not false true a z = refl
cond_both_not false false a z = refl

-- a function of two numbers, of a pair
abbrev of_pair : {A : Type 0} → (ℕ → ℕ → A) → ℕ × ℕ → A
of_pair f p = f p.0 p.1

module _ {A : Type 0} (K : Kind A) (laws : Lawful K) where
  total_append : {X : Type 0} (f : X → A) (xs ys : List X) → total K (map f (xs ++ ys)) ≡ K.join (total K (map f xs)) (total K (map f ys))
  total_append f [] ys = sym (laws.unit (total K (map f ys)))
  total_append f (x ∷ xs) ys = ap (K.join (f x)) (total_append f xs ys) ∙ sym (laws.assoc (f x) (total K (map f xs)) (total K (map f ys)))

  -- what a filter leaves out may stay in at zero
  total_kept : {X : Type 0} (t : X → Bool) (f : X → A) (xs : List X) → total K (map f (filter t xs)) ≡ total K (map (λ x. cond (t x) (f x) K.zero) xs)
  total_kept t f [] = refl
  total_kept t f (x ∷ xs) =
      let rest : A = total K (map (λ y. cond (t y) (f y) K.zero) xs) in
      elim (t x) as (λ b. total K (map f (cond b (x ∷ filter t xs) (filter t xs))) ≡ K.join (cond b (f x) K.zero) rest)
      [ true ↦ ap (K.join (f x)) (total_kept t f xs) | false ↦ total_kept t f xs ∙ sym (laws.unit rest) ]

  total_joined : {X Y : Type 0} (f : Y → A) (g : X → List Y) (xs : List X) → total K (map f (flat_map g xs)) ≡ total K (map (λ x. total K (map f (g x))) xs)
  total_joined f g [] = refl
  total_joined f g (x ∷ xs) = total_append f (g x) (flat_map g xs) ∙ ap (K.join (total K (map f (g x)))) (total_joined f g xs)

  total_each : (f : ℕ → ℕ → A) (x : ℕ) (ys : List ℕ) → total K (map (of_pair f) (map (λ y. (x, y)) ys)) ≡ over_each K (f x) ys
  total_each f x [] = refl
  total_each f x (y ∷ ys) = ap (K.join (f x y)) (total_each f x ys)

  total_pairs : (f : ℕ → ℕ → A) (xs : List ℕ) → total K (map (of_pair f) (pairs xs)) ≡ over_two K f xs
  total_pairs f [] = refl
  total_pairs f (x ∷ xs) =
      total_append (of_pair f) (map (λ y. (x, y)) xs) (pairs xs)
      ∙ ap (λ a. K.join a (total K (map (of_pair f) (pairs xs)))) (total_each f x xs) ∙ ap (K.join (over_each K (f x) xs)) (total_pairs f xs)

  module _ (priced : Link → Link → A) (cell : ℕ → ℕ → Cell) (left : List ℕ) where
    -- the price of a meeting: zero where it is no crossing
    abbrev met : Ends × Ends → A
    met pq = cond (linked_both cell pq) (pair_price K priced cell pq) K.zero

    met_between : (u v : ℕ) → total K (map met (meetings left (u, v))) ≡ between K priced cell left u v
    met_between u v =
        let at : ℕ × ℕ → Ends × Ends = λ ac. (record { left = ac.0; right = v }, record { left = ac.1; right = u }) in
        ap (total K) (map-map met at (pairs left)) ∙ total_pairs (λ a c. met (at (a, c))) left
        ∙ ap (λ f. over_two K f left) (fun_ext (λ a. fun_ext (λ c. cond_both_not (eqb (cell a v).strands 0) (eqb (cell c u).strands 0) (priced (link_in (cell a v)) (link_in (cell c u))) K.zero)))

pub cost_by_right_pairs : {A : Type 0} (K : Kind A) → Lawful K → (priced : Link → Link → A) (cell : ℕ → ℕ → Cell) (left right : List ℕ) → CostByRightPairs K priced cell left right
cost_by_right_pairs K laws priced cell left right =
    total_kept K laws (linked_both cell) (pair_price K priced cell) (flat_map (meetings left) (pairs right))
    ∙ total_joined K laws (met K laws priced cell left) (meetings left) (pairs right)
    ∙ total_pairs K laws (λ u v. total K (map (met K laws priced cell left) (meetings left (u, v)))) right
    ∙ ap (λ f. over_two K f right) (fun_ext (λ u. fun_ext (λ v. met_between K laws priced cell left u v)))
