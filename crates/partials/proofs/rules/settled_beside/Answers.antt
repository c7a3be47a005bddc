use Rattle.std.proofs.Common.{◌≡◌, rules, ap, ◌∙◌}
use Rattle.designs.specs.Costs.{over_each, over_two}
use Rattle.designs.specs.Grids.{grid_of}
use Rattle.partials.specs.Names.{names_of}
use Rattle.partials.specs.Nodes.{partial_of}
use Rattle.partials.specs.Rules.{known}
use Rattle.partials.proofs.Rulings.{settled_split}
use Rattle.partials.proofs.rules.settled_beside.Goals as goal

pub returns : goal.returns
returns g c =
    let K = g.M.Amount.Amount.kind in
    let f = known K g.M.Measure.priced (grid_of c.args.design.now) (partial_of c.args.node.now) in
    let us = (partial_of c.args.node.now).prefix in
    let free = names_of c.args.free.now in
    let within : c.over_two-within.result ≡ over_two K f us = search rules in
    let beside : c.over_each-beside.result ≡ over_each K (λ u. over_each K (f u) free) us = search rules in
    c.joined.ensures ∙ (ap (λ a. K.join a c.over_each-beside.result) within ∙ (ap (K.join (over_two K f us)) beside ∙ settled_split K g.met.M.Amount.Amount.lawful f free us))
