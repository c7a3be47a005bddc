use Rattle.std.proofs.Common.{◌≡◌, ◌<◌, [], ◌∷◌, ◌++◌, get_or, IfSome, Some, sym, ap, ◌∙◌, subst, arith}
use Rattle.std.proofs.lemmas.List.Elements.{All-get_or}
use Rattle.std.specs.Option.{option_map}
use Rattle.designs.specs.Grids.{grid_of}
use Rattle.designs.specs.Rows.{times}
use Rattle.partials.specs.Nodes.{partial_of}
use Rattle.partials.specs.Partials.{unplaced}
use Rattle.partials.specs.Children.{Free, all_free}
use Rattle.partials.proofs.Nth.{nth_adding, no_adding, few_unplaced}
use Rattle.partials.proofs.node.Node.with_right.Goals as goal

pub add-requires : goal.add-requires
add-requires c =
    let g = grid_of c.args.design.now in
    let p = partial_of c.args.self.now in
    let found = c.in_ok-v.ensures in
    let free : Free g p (get_or (unplaced g p) c.args.at 0) = All-get_or (Free g p) (unplaced g p) c.args.at 0 found.0 (all_free g p) in
    record { below = omega (arith, found.1, free.0, c.args.design.now.right.within.1); apart = subst (λ v. times v p.prefix ≡ 0) (sym found.1) free.1 }

pub returns-in_err-v : goal.returns-in_err-v
returns-in_err-v c =
    let p = partial_of c.args.self.now in
    record {
      child = ap (option_map partial_of) c.from_residual.ensures ∙ sym (no_adding p (unplaced (grid_of c.args.design.now) p) c.args.at c.in_err-v.ensures);
      few = subst (λ r. IfSome r (λ _. c.args.at < 48)) (sym c.from_residual.ensures) tt;
    }

pub returns : goal.returns
returns c =
    let g = grid_of c.args.design.now in
    let p = partial_of c.args.self.now in
    let found = c.in_ok-v.ensures in
    record {
      child = ap Some (c.add.ensures ∙ ap (λ v. record { placed = p.placed; prefix = p.prefix ++ (v ∷ []) }) found.1) ∙ sym (nth_adding p (unplaced g p) c.args.at found.0);
      few = omega (arith, found.0, few_unplaced g p, c.args.design.now.right.within.1);
    }
