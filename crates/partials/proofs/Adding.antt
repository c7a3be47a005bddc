-- What a node keeps when a right switch is added.
use Rattle.std.proofs.Common.{◌≡◌, ℕ, ◌<◌, ◌≤◌, List, [], ◌∷◌, ◌++◌, subst, ⊎_elim, arith, All}
use Rattle.std.proofs.lemmas.Bool.{cases_eq}
use Rattle.designs.specs.Rows.{times}
use Rattle.partials.specs.Belows.{times_here, times_else}
use Rattle.designs.proofs.Orders.{times-append}
use Rattle.partials.specs.Nodes.{partial_of}
use Rattle.partials.specs.declared.node.Node.{Node}
use Rattle.std.proofs.lemmas.List.Elements.{All-from_get_or, All-take}

-- a switch that is not named yet may be named
pub once_more : (xs : List ℕ) (v : ℕ) → times v xs ≡ 0 → ((u : ℕ) → times u xs ≤ 1) → (u : ℕ) → times u (xs ++ (v ∷ [])) ≤ 1
once_more xs v none once u =
    let sum = times-append u xs (v ∷ []) in
    ⊎_elim
    (λ e. let z : times u xs ≡ 0 = subst (λ y. times y xs ≡ 0) e none in omega (arith, times_here u v [] e))
    (λ ne. omega (arith, times_else u v [] ne, once u))
    (cases_eq v u)

-- the switches of a prefix are below 24
pub prefix_named : (n : Node) → All (λ v. v < 24) (partial_of n).prefix
prefix_named n = All-take (λ v. v < 24) n.right.count n.right.names (All-from_get_or (λ v. v < 24) n.right.names 0 (λ i _. n.right.below i))
