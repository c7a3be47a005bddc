use Rattle.std.proofs.Common.{refl}
use Rattle.designs.specs.Grids.{grid_of}
use Rattle.walks.proofs.OnPaths.{frontier_more, lawful_more}
use Rattle.walks.proofs.path.Path.push.Goals as goal

pub invariant_of-self : goal.invariant_of-self
invariant_of-self g c =
    let s = c.args.self.now in record { lawful = lawful_more (grid_of s.design) c.push.new.self.items s.levels.items _ c.push.ensures.items c.requires.deep s.lawful }

pub returns : goal.returns
returns g c =
    let s = c.args.self.now in
    record { design = refl; frontier = frontier_more (grid_of s.design) c.push.new.self.items s.levels.items _ c.push.ensures.items }
