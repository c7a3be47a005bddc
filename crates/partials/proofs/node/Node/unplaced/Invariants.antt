use Rattle.std.proofs.Common.{◌≡◌, not, filter}
use Rattle.designs.specs.Rows.{number_order}
use Rattle.partials.specs.Names.{names_of}
use Rattle.partials.specs.Partials.{has}
use Rattle.partials.specs.Nodes.{partial_of}
use Rattle.partials.proofs.node.Node.unplaced.Given as goal

abbrev pub invariant-loop-v : goal.invariant-loop-v
invariant-loop-v l = names_of l.free ≡ filter (λ u. not (has (partial_of l.self).prefix u)) (number_order l.v)
