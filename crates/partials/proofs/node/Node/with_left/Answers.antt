use Rattle.std.proofs.Common.{rules, ap, length, ◌<◌, ◌≤◌, arith}
use Rattle.partials.specs.Nodes.{partial_of}
use Rattle.partials.proofs.Nth.{nth_placing, no_placing}
use Rattle.partials.proofs.node.Node.with_left.Goals as goal

pub returns-in_err-place-clause-child : goal.returns-in_err-place-clause-child
returns-in_err-place-clause-child c =
    let xs = (partial_of c.args.self.now).placed in
    let same = ap length c.left.ensures.list in
    let late : length xs < c.args.at = omega arith in
    let none = no_placing (length xs) c.args.at (length xs) xs late in
    search rules

pub returns-clause-child : goal.returns-clause-child
returns-clause-child c =
    let xs = (partial_of c.args.self.now).placed in
    let same = ap length c.left.ensures.list in
    let early : c.args.at ≤ length xs = omega arith in
    let some = nth_placing (length xs) c.args.at (length xs) xs early in
    search rules
