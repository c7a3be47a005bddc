use Rattle.std.proofs.Common.{◌≡◌}
use Rattle.arrayvec.specs.ArrayVec.{array_vec_len}
use Rattle.designs.specs.Grids.{grid_of}
use Rattle.walks.specs.Frontiers.{frontier_of}
use Rattle.walks.specs.Paths.{OnPath, open_on}
use Rattle.walks.proofs.path.Path.next.Given as goal

abbrev pub invariant-loop-level : goal.invariant-loop-level
invariant-loop-level g l = record {
  lawful : ∥ OnPath (grid_of l.fn.self.design) 0 l.levels.items ∥₁;
  same : open_on (grid_of l.fn.self.design) l.levels.items ≡ frontier_of l.fn.self;
}

abbrev pub decreases-loop-level : goal.decreases-loop-level
decreases-loop-level g l = array_vec_len l.levels
