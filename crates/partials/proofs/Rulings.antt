-- The settled pairs, as the rules take them: those within the prefix, and those with one outside.
use Rattle.std.proofs.Common.{◌≡◌, ℕ, List, [], ◌∷◌, ◌++◌, sym, ap, ◌∙◌}
use Rattle.measures.specs.Amounts.{Kind, Lawful}
use Rattle.designs.specs.Costs.{over_each, over_two}
use Rattle.partials.specs.Joins.{join_cross, each_append}
use Rattle.partials.specs.Rules.{over_settled}

module _ {A : Type 0} (K : Kind A) (laws : Lawful K) (f : ℕ → ℕ → A) (rest : List ℕ) where
  pub settled_split : (us : List ℕ) → K.join (over_two K f us) (over_each K (λ u. over_each K (f u) rest) us) ≡ over_settled K f us rest
  settled_split [] = laws.unit K.zero
  settled_split (u ∷ us) =
      join_cross K laws (over_each K (f u) us) (over_two K f us) (over_each K (f u) rest) (over_each K (λ v. over_each K (f v) rest) us)
      ∙ (ap (λ a. K.join a (K.join (over_two K f us) (over_each K (λ v. over_each K (f v) rest) us))) (sym (each_append K laws (f u) us rest))
      ∙ ap (K.join (over_each K (f u) (us ++ rest))) (settled_split us))
