use Rattle.std.proofs.Common.{rules, sym, subst, ◌≤◌}
use Rattle.designs.specs.Rows.{times}
use Rattle.partials.specs.Nodes.{partial_of}
use Rattle.partials.proofs.Adding.{once_more, prefix_named}
use Rattle.partials.proofs.Nth.{room}
use Rattle.partials.proofs.node.Node.add.Goals as goal

pub push-requires : goal.push-requires
push-requires c =
    let n = c.args.self.now in
    (search rules, (room (partial_of n) (prefix_named n) n.once c.args.v c.requires.below c.requires.apart, c.requires.below))

pub invariant_of-result : goal.invariant_of-result
invariant_of-result c =
    let n = c.args.self.now in
    record { once = λ u. subst (λ ys. times u ys ≤ 1) (sym c.push.ensures) (once_more (partial_of n).prefix c.args.v c.requires.apart n.once u) }
