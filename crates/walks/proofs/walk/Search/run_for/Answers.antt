use Rattle.std.proofs.Common.{◌≡◌, ◌+◌, ◌-◌, sym, ap, ◌∙◌, arith}
use Rattle.designs.specs.Grids.{grid_of}
use Rattle.designs.specs.Readings.{cost_of}
use Rattle.walks.specs.Searches.{walk_of, grid_in, cost_in}
use Rattle.walks.specs.Walk.{open_one, run}
use Rattle.walks.proofs.Steps.{run_done, run_on, opens_one}
use Rattle.walks.proofs.walk.Search.run_for.Goals as goal

pub stepping-preserved : goal.stepping-preserved
stepping-preserved g c =
    let K = g.M.Amount.Amount.kind in
    let s = c.args.self.now in
    let cost = cost_of K g.M.Measure.priced in
    let answer = g.R.BoundingRule.answered c.args.rule.now in
    let w = walk_of c.stepping.self in
    let i = c.stepping.invariant in
    let more = sym c.if-is_done.ensures in
    let step = c.open_one.ensures.walk ∙ ap (λ d. open_one K (grid_of d) (cost (grid_of d)) (answer (grid_of d)) w) i.design in
    record {
      walk = ap (run K (grid_in s) (cost_in s) (answer (grid_in s)) (c.args.nodes - (c.stepping.opened + 1))) step
          ∙ (sym (run_on K (grid_in s) (cost_in s) (answer (grid_in s)) c.args.nodes c.stepping.opened w (omega (arith, i.most, c.if-opened-nodes.false)) more) ∙ i.walk);
      most = omega (arith, i.most, c.if-opened-nodes.false);
      opened = omega (arith, i.opened, ap (λ v. v.opened) step, opens_one K g.met.M.Amount.Amount.lawful (grid_in s) (cost_in s) (answer (grid_in s)) w.incumbent w.least w.opened w.frontier more);
      design = c.open_one.ensures.design ∙ i.design;
    }

pub returns-then-opened-nodes-clause-goes : goal.returns-then-opened-nodes-clause-goes
returns-then-opened-nodes-clause-goes g c =
    let s = c.args.self.now in
    let all : c.args.nodes - c.stepping.opened ≡ 0 = omega (arith, c.if-opened-nodes.true) in
    record {
      design = c.stepping.invariant.design;
      walk = ap (λ n. run g.M.Amount.Amount.kind (grid_in s) (cost_in s) (g.R.BoundingRule.answered c.args.rule.now (grid_in s)) n (walk_of c.stepping.self)) (sym all) ∙ c.stepping.invariant.walk;
    }

pub returns-then-is_done-clause-goes : goal.returns-then-is_done-clause-goes
returns-then-is_done-clause-goes g c =
    let s = c.args.self.now in
    record {
      design = c.stepping.invariant.design;
      walk = sym (run_done g.M.Amount.Amount.kind (grid_in s) (cost_in s) (g.R.BoundingRule.answered c.args.rule.now (grid_in s)) (c.args.nodes - c.stepping.opened) (walk_of c.stepping.self) (sym c.if-is_done.ensures)) ∙ c.stepping.invariant.walk;
    }
