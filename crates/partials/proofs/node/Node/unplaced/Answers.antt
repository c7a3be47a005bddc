use Rattle.std.proofs.Common.{not, length, rules, ap, arith}
use Rattle.partials.specs.Nodes.{partial_of}
use Rattle.partials.specs.Partials.{has}
use Rattle.partials.proofs.Nth.{few_named}
use Rattle.partials.proofs.node.Node.unplaced.Goals as goal

pub push-requires : goal.push-requires
push-requires c =
    let few = few_named (λ u. not (has (partial_of c.args.self.now).prefix u)) c.loop-v.v in
    let same = ap length c.loop-v.invariant in
    (search rules, (omega (arith, c.loop-v-test.true, c.right_size-v-end.ensures.bound), omega (arith, c.loop-v-test.true, c.right_size-v-end.ensures.bound)))
