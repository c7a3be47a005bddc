use Rattle.std.proofs.Common.{rules, ◌∙◌}
use Rattle.std.proofs.lemmas.Iterator.Adapters.{YieldsList-from_rev_slice}
use Rattle.std.proofs.lemmas.Iterator.Consumers.{fold_from_yields_List}
use Rattle.designs.specs.Grids.{grid_of}
use Rattle.walks.specs.Frontiers.{lesser_at}
use Rattle.walks.proofs.Leasts.{least_of_path}
use Rattle.walks.proofs.path.Path.least_bound.Goals as goal

pub returns : goal.returns
returns g c =
    let K = g.A.Amount.kind in
    let s = c.args.self.now in
    fold_from_yields_List _ (lesser_at K (grid_of s.design)) c.args.best c.fold.result c.fold.ensures.ran (YieldsList-from_rev_slice s.levels.items (search rules)) (λ a x r q k. search rules)
    ∙ least_of_path K s c.args.best
