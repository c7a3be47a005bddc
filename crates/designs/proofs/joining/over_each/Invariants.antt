use Rattle.std.proofs.Common.{ℕ}
use Rattle.designs.specs.Costs.{over_each}
use Rattle.designs.specs.Joins.{Gives}
use Rattle.designs.proofs.Loops.{Stays}
use Rattle.designs.proofs.joining.over_each.Given as goal

abbrev pub invariant-loop-x : goal.invariant-loop-x
invariant-loop-x g l = (f : ℕ → _) → Gives (goal.F-post g l.amount) f l.row → Stays g.A.Amount.kind (over_each g.A.Amount.kind f) l.row l.x-index l.sum
