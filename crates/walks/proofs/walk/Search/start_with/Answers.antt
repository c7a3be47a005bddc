use Rattle.std.proofs.Common.{rules, cond, [], refl, ap}
use Rattle.designs.specs.Grids.{grid_of}
use Rattle.designs.specs.Readings.{rows_of, cost_of}
use Rattle.partials.specs.Nodes.{partial_of}
use Rattle.partials.specs.Tree.{children}
use Rattle.walks.specs.Frontiers.{Leads}
use Rattle.walks.specs.Walk.{all_open}
use Rattle.walks.proofs.Moving.{started}
use Rattle.walks.proofs.Starts.{root_pushed, start_same}
use Rattle.walks.proofs.walk.Search.start_with.Goals as goal
use Rattle.walks.proofs.walk.Search.start_with.Goals.{then-not-is_at_most, else-not-is_at_most}

pub returns : goal.returns
returns g c =
    let d = c.args.design in
    let G = grid_of d in
    let K = g.M.Amount.Amount.kind in
    let answered = g.R.BoundingRule.answered c.args.rule.now in
    let p = partial_of c.args.root in
    let x = rows_of c.args.best.drawing in
    let path : Leads d (cond c.is_at_most.result [] (all_open c.answer-bound.result (children G p))) c.if-not-is_at_most.path = elim c.if-not-is_at_most.branch [
      | then-not-is_at_most w ↦ root_pushed d c.new-path.result w.push.new.self _ _ _ _ c.new-path.ensures.open w.push.ensures w.path-is w.if-not-is_at_most.true
      | else-not-is_at_most w ↦ search rules
    ] in
    started G answered p x _ c.requires.root c.requires.drawing c.requires.within (ap grid_of path.design)
    (start_same K G (cost_of K g.M.Measure.priced G) (answered G) p x x p _ c.answer-bound.result c.is_at_most.result _ refl refl c.requires.cost (search rules) (search rules) path.frontier)
