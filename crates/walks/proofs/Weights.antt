-- A search opens no more nodes than the tree has.
use Rattle.std.proofs.Common.{◌≡◌, ℕ, ◌+◌, ◌≤◌, List, [], ◌∷◌, ◌++◌, refl, arith, All}
use Rattle.std.proofs.lemmas.Bool.{cond_both}
use Rattle.std.proofs.lemmas.List.Elements.{All-head}
use Rattle.measures.specs.Amounts.{Kind}
use Rattle.designs.specs.Grids.{Grid}
use Rattle.designs.specs.Readings.{TwoRows}
use Rattle.partials.specs.Partials.{Partial, PartialOf}
use Rattle.partials.specs.Rules.{greater}
use Rattle.partials.specs.Tree.{children, is_whole, drawn, nodes_under, nodes_below}
use Rattle.partials.proofs.Counted.{nodes_step}
use Rattle.walks.specs.Walk.{Open, Walk, all_open, start, take_better, offer, visit, open_first, open_one}

-- the open nodes, and all nodes below them
abbrev pub weight : {A : Type 0} → Grid → List (Open A) → ℕ
weight g [] = 0
weight g (o ∷ os) = 1 + nodes_below g o.node + weight g os

weight-append : {A : Type 0} (g : Grid) (xs ys : List (Open A)) → weight g (xs ++ ys) ≡ weight g xs + weight g ys
weight-append g [] ys = omega arith
weight-append g (o ∷ xs) ys = omega (arith, weight-append g xs ys)

weight_open : {A : Type 0} (g : Grid) (b : A) (ps : List Partial) → weight g (all_open b ps) ≡ nodes_under (nodes_below g) ps
weight_open g b [] = refl
weight_open g b (p ∷ ps) = omega (arith, weight_open g b ps)

-- opening a node takes it off what may still be opened
module _ {A : Type 0} (K : Kind A) (g : Grid) (cost : TwoRows → A) (answer : Partial → A) where
  abbrev pub reach : Walk A → ℕ
  reach w = w.opened + weight g w.frontier

  better_counted : (best : TwoRows) (least : A) (n : ℕ) (rest : List (Open A)) (x : TwoRows) → reach (take_better K cost best least n rest x) ≡ n + weight g rest
  better_counted best least n rest x = cond_both {A = Walk A} (K.at_most least (cost x)) (record { incumbent = best; least = least; opened = n; frontier = rest }) (record { incumbent = x; least = cost x; opened = n; frontier = rest }) (λ w. reach w ≡ n + weight g rest) (λ _. refl) (λ _. refl)

  visit_counted : (best : TwoRows) (least : A) (n : ℕ) (b : A) (p : Partial) → PartialOf g p → (rest : List (Open A)) → reach (visit K g cost b p (record { incumbent = best; least = least; opened = n; frontier = rest })) ≤ n + (nodes_below g p + weight g rest)
  visit_counted best least n b p v rest =
      let up = weight-append g (all_open b (children g p)) rest in
      let kids = weight_open g b (children g p) in
      let step = nodes_step g p v in
      let taken = better_counted best least n rest (drawn p) in
      cond_both {A = Walk A} (K.at_most least b) (record { incumbent = best; least = least; opened = n; frontier = rest }) _ (λ w. reach w ≤ n + (nodes_below g p + weight g rest)) (λ _. omega arith)
      (λ _. cond_both {A = Walk A} (is_whole g p) (take_better K cost best least n rest (drawn p)) (record { incumbent = best; least = least; opened = n; frontier = all_open b (children g p) ++ rest })
      (λ w. reach w ≤ n + (nodes_below g p + weight g rest)) (λ _. omega arith) (λ _. omega arith))

  first_counted : (best : TwoRows) (least : A) (n : ℕ) (os : List (Open A)) → All (λ o. PartialOf g o.node) os → reach (open_first K g cost answer best least n os) ≤ n + weight g os
  first_counted best least n [] h = omega arith
  first_counted best least n (o ∷ os) h = omega (arith, visit_counted best least (n + 1) (greater K o.inherited (answer o.node)) o.node (All-head (λ n. PartialOf g n.node) o os h) os)

  pub open_one_counted : (w : Walk A) → All (λ o. PartialOf g o.node) w.frontier → reach (open_one K g cost answer w) ≤ reach w
  open_one_counted w h = first_counted w.incumbent w.least w.opened w.frontier h

  pub start_counted : (root : Partial) → PartialOf g root → (first : TwoRows) → reach (start K g cost answer root first) ≤ nodes_below g root
  start_counted root v first =
      let kids = weight_open g (answer root) (children g root) in
      let step = nodes_step g root v in
      cond_both (K.at_most (cost first) (answer root)) [] (all_open (answer root) (children g root)) (λ os. 0 + weight g os ≤ nodes_below g root) (λ _. omega arith) (λ _. omega arith)

  pub offer_counted : (w : Walk A) (x : TwoRows) → reach (offer K cost x w) ≡ reach w
  offer_counted w x = better_counted w.incumbent w.least w.opened w.frontier x
