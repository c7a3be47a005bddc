-- Why both rules bound every drawing that completes a partial one.
use Rattle.std.specs.Prelude.{◌≡◌, ℕ, ◌+◌, List, ◌++◌, length, drop, nat_lt}
use Rattle.std.proofs.Common.{sym, ap, subst, ◌∙◌, ⊎_elim, arith}
use Rattle.std.proofs.lemmas.List.{take-append-drop}
use Rattle.std.proofs.lemmas.Bool.{cases_lt, cases_eq}
use Rattle.measures.specs.Amounts.{Kind, Lawful, AtMost}
use Rattle.measures.specs.declared.link.Link.{Link}
use Rattle.designs.specs.Cells.{crossing}
use Rattle.designs.specs.Costs.{over_two, between}
use Rattle.designs.specs.Grids.{Grid, cell_in}
use Rattle.designs.specs.Readings.{TwoRows, cost_of}
use Rattle.designs.specs.Rows.{times}
use Rattle.designs.proofs.Joined.{cost_by_right_pairs}
use Rattle.partials.specs.Partials.{Partial, DrawingOf, Completes, unplaced}
use Rattle.partials.specs.Rules.{lesser, over_settled, known, settled_price, lesser_price}
use Rattle.partials.specs.Children.{free_named, none_below, order_small, free_below, none_unplaced}
use Rattle.designs.proofs.Orders.{times-append}
use Rattle.partials.specs.Joins.{Alike, join_both, join_left, settled_under, settled_alike, two_append, two_fewer, two_alike_under}
use Rattle.partials.specs.Levels.{lesser_left, lesser_right}

module _ (g : Grid) (p : Partial) (x : TwoRows) (d : DrawingOf g x) (c : Completes p x) where
  -- the right row behind the prefix
  abbrev rest : List ℕ
  rest = drop (length p.prefix) x.right

  split : x.right ≡ p.prefix ++ rest
  split = sym (take-append-drop (length p.prefix) x.right) ∙ ap (λ ys. ys ++ rest) c.1

  -- it names the unplaced switches
  pub rest_unplaced : Alike rest (unplaced g p)
  rest_unplaced v =
      let all : times v x.right ≡ times v p.prefix + times v rest = ap (times v) split ∙ times-append v p.prefix rest in
      ⊎_elim
      (λ l.
      let one = d.1.1 v l in
      ⊎_elim
      (λ e. let u = free_named g p v l e in omega arith)
      (λ ne. let u = none_unplaced g p v ne in omega arith)
      (cases_eq (times v p.prefix) 0))
      (λ l.
      let none = none_below g.rights v x.right (order_small g.rights x.right d.1) l in
      let u = none_below g.rights v (unplaced g p) (free_below g p) l in
      omega arith)
      (cases_lt v g.rights)

  module _ {A : Type 0} (K : Kind A) (laws : Lawful K) (priced : Link → Link → A) where
    -- the price over the whole left row
    abbrev full : ℕ → ℕ → A
    full u v = between K priced (cell_in g) x.left u v

    known_under : (u v : ℕ) → AtMost K (known K priced g p u v) (full u v)
    known_under u v =
        let f : ℕ → ℕ → A = λ a b. crossing K priced (cell_in g a v) (cell_in g b u) in
        subst (λ row. AtMost K (over_two K f row) (over_two K f x.left)) c.0 (two_fewer K laws f (λ a. nat_lt a (length p.placed)) x.left)

    whole_cost : cost_of K priced g x ≡ K.join (over_settled K full p.prefix rest) (over_two K full rest)
    whole_cost = cost_by_right_pairs K laws priced (cell_in g) x.left x.right ∙ (ap (over_two K full) split ∙ two_append K laws full p.prefix rest)

    settled_part : AtMost K (settled_price K priced g p) (over_settled K full p.prefix rest)
    settled_part = subst (λ z. AtMost K z (over_settled K full p.prefix rest)) (settled_alike K laws (known K priced g p) p.prefix rest (unplaced g p) rest_unplaced)
        (settled_under K laws (known K priced g p) full known_under p.prefix rest)

    pub settled_bounds : AtMost K (settled_price K priced g p) (cost_of K priced g x)
    settled_bounds = subst (AtMost K (settled_price K priced g p)) (sym whole_cost) (laws.trans _ _ _ settled_part (join_left K laws _ _))

    lesser_part : AtMost K (over_two K (λ u v. lesser K (known K priced g p u v) (known K priced g p v u)) (unplaced g p)) (over_two K full rest)
    lesser_part = two_alike_under K laws (λ u v. lesser K (known K priced g p u v) (known K priced g p v u)) full
        (λ u v. laws.trans _ _ _ (lesser_left K laws (known K priced g p u v) (known K priced g p v u)) (known_under u v))
        (λ u v. laws.trans _ _ _ (lesser_right K laws (known K priced g p u v) (known K priced g p v u)) (known_under v u))
        rest (unplaced g p) rest_unplaced

    pub lesser_bounds : AtMost K (lesser_price K priced g p) (cost_of K priced g x)
    lesser_bounds = subst (AtMost K (lesser_price K priced g p)) (sym whole_cost) (join_both K laws _ _ _ _ settled_part lesser_part)
