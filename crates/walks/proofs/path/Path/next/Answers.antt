use Rattle.std.proofs.Common.{◌-◌, [], ◌∷◌, ◌++◌, length, take, sym, ap, ◌∙◌}
use Rattle.arrayvec.specs.ArrayVec.{array_vec_len}
use Rattle.designs.specs.Grids.{grid_of}
use Rattle.partials.specs.Nodes.{partial_of}
use Rattle.walks.proofs.OnPaths.{with_last, written_last, taken_more, lawful_above, back_frontier, taken_lawful, taken_deep, taken_frontier}
use Rattle.walks.proofs.path.Path.next.Goals as goal

pub loop-level-preserved : goal.loop-level-preserved
loop-level-preserved g c =
    let v = c.loop-level.levels in
    let xs = c.deref_mut.result.now in
    let x = c.in-Some.level.now in
    let is = c.deref_mut.ensures.value in
    let item = c.in-Some.ensures.item in
    let d = c.args.self.now.design in
    let last = with_last v xs is item.3.0 x item.1 in
    let above = c.pop.ensures.rest ∙ ap (λ ys. take (length ys - 1) ys) (written_last v xs is item.3.0 x ∙ sym last) in
    let e = last ∙ ap (λ up. up ++ (x ∷ [])) (sym above) in
    record {
      lawful = lawful_above (grid_of d) v.items c.pop.new.self.items x e c.loop-level.invariant.lawful;
      same = back_frontier (grid_of d) v.items c.pop.new.self.items x e c.in_default-child.ensures.child ∙ c.loop-level.invariant.same;
    }

pub invariant_of-self : goal.invariant_of-self
invariant_of-self g c =
    let v = c.loop-level.levels in
    let xs = c.deref_mut.result.now in
    let x = c.in-Some.level.now in
    let is = c.deref_mut.ensures.value in
    let item = c.in-Some.ensures.item in
    record { lawful = taken_lawful (grid_of c.args.self.now.design) v.items _ (take (array_vec_len v - 1) v.items) x (with_last v xs is item.3.0 x item.1) (written_last v xs is item.3.0 (taken_more x)) c.loop-level.invariant.lawful }

pub returns-in-Some-clause-taken : goal.returns-in-Some-clause-taken
returns-in-Some-clause-taken g c =
    let v = c.loop-level.levels in
    let xs = c.deref_mut.result.now in
    let x = c.in-Some.level.now in
    let is = c.deref_mut.ensures.value in
    let item = c.in-Some.ensures.item in
    sym c.loop-level.invariant.same
    ∙ taken_frontier (grid_of c.args.self.now.design) v.items _ (take (array_vec_len v - 1) v.items) x (with_last v xs is item.3.0 x item.1) (written_last v xs is item.3.0 (taken_more x)) (partial_of c.in-Some-child.node) c.in-Some-child.ensures.child

pub returns-in-Some-clause-deep : goal.returns-in-Some-clause-deep
returns-in-Some-clause-deep g c =
    let v = c.loop-level.levels in
    let xs = c.deref_mut.result.now in
    let x = c.in-Some.level.now in
    let is = c.deref_mut.ensures.value in
    let item = c.in-Some.ensures.item in
    taken_deep (grid_of c.args.self.now.design) v.items _ (take (array_vec_len v - 1) v.items) x (with_last v xs is item.3.0 x item.1) (written_last v xs is item.3.0 (taken_more x)) (partial_of c.in-Some-child.node) c.in-Some-child.ensures.child c.loop-level.invariant.lawful
