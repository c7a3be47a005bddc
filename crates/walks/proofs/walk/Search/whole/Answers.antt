use Rattle.std.proofs.Common.{◌≡◌, true, ◌∙◌}
use Rattle.designs.specs.Readings.{rows_of}
use Rattle.partials.specs.Nodes.{partial_of}
use Rattle.partials.specs.Tree.{is_whole, drawn}
use Rattle.walks.specs.Frontiers.{depth_of}
use Rattle.walks.specs.Searches.{grid_in}
use Rattle.walks.proofs.Wholes.{whole_named, found, room, found_room}
use Rattle.walks.proofs.walk.Search.whole.Goals as goal

pub returns : goal.returns
returns g c =
    let s = c.args.self.now in
    let d = s.path.design in
    let p = partial_of c.args.node.now in
    let w = is_whole (grid_in s) p in
    let is = found c.drawing.result w (drawn p) (c.drawing.ensures ∙ whole_named (grid_in s) (depth_of s.path) p c.requires) in
    record { drawing = is; room = found_room c.drawing.result w (λ y. (w ≡ true) × (rows_of y ≡ drawn p)) (depth_of s.path) is (room (grid_in s) (depth_of s.path) p d.left.within.1 d.right.within.1 c.requires) }
