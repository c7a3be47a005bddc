use Rattle.std.proofs.Common.{◌≡◌, ◌+◌, ◌-◌, ◌≤◌}
use Rattle.walks.specs.Searches.{walk_of, grid_in, cost_in}
use Rattle.walks.specs.Walk.{run}
use Rattle.walks.proofs.walk.Search.run_for.Given as goal

abbrev pub invariant-stepping : goal.invariant-stepping
invariant-stepping g l =
    let s = l.initial.self in
    let go = run g.M.Amount.Amount.kind (grid_in s) (cost_in s) (g.R.BoundingRule.answered l.rule (grid_in s)) in
    record {
      walk : go (l.nodes - l.opened) (walk_of l.self) ≡ go l.nodes (walk_of s);
      most : l.opened ≤ l.nodes;
      opened : s.opened + l.opened ≡ l.self.opened;
      design : l.self.path.design ≡ s.path.design;
    }

abbrev pub decreases-stepping : goal.decreases-stepping
decreases-stepping g l = l.nodes - l.opened
