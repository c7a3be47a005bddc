use Rattle.std.proofs.Common.{◌≡◌, ℕ, All, length}
use Rattle.designs.specs.Costs.{over_two}
use Rattle.designs.specs.Joins.{GivesTwo}
use Rattle.designs.proofs.joining.over_two.Given as goal

abbrev pub invariant-loop-first : goal.invariant-loop-first
invariant-loop-first g l =
    All (λ x. All (λ y. goal.F-pre g l.amount x y) l.rest) l.rest
    × ((f : ℕ → ℕ → _) → GivesTwo (goal.F-post g l.amount) f l.row → GivesTwo (goal.F-post g l.amount) f l.rest × (g.A.Amount.kind.join l.sum (over_two g.A.Amount.kind f l.rest) ≡ over_two g.A.Amount.kind f l.row))

abbrev pub decreases-loop-first : goal.decreases-loop-first
decreases-loop-first g l = length l.rest
