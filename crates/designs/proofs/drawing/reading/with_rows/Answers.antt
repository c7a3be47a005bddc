use Rattle.std.proofs.Common.{◌≡◌, ℕ, Bool, true, false, cond, ◌&&◌, List, Some, None, Option, refl, ap, ◌∙◌}
use Rattle.std.specs.Option.{option_map}
use Rattle.designs.specs.Readings.{TwoRows, rows_of}
use Rattle.designs.specs.Rows.{is_order}
use Rattle.designs.proofs.Names.{decides_order}
use Rattle.designs.proofs.drawing.reading.with_rows.Goals as goal

-- a row that stands if a test does
abbrev row_if : Bool → List ℕ → Option (List ℕ)
row_if a xs = cond a (Some xs) None

-- two rows that stand if two tests do
abbrev rows_if : Bool → Bool → List ℕ → List ℕ → Option TwoRows
rows_if a b xs ys = cond (a && b) (Some (record { left = xs; right = ys })) None

no_left : (a b : Bool) (xs ys : List ℕ) → None ≡ row_if a xs → None ≡ rows_if a b xs ys
no_left true b xs ys e = cc
no_left false b xs ys e = refl

no_right : (a b : Bool) (xs ys : List ℕ) → None ≡ row_if b ys → None ≡ rows_if a b xs ys
no_right true true xs ys e = cc
no_right true false xs ys e = refl
no_right false b xs ys e = refl

both : (a b : Bool) (xs ys us vs : List ℕ) → Some us ≡ row_if a xs → Some vs ≡ row_if b ys → Some (record { left = us; right = vs }) ≡ rows_if a b xs ys
both true true xs ys us vs e f = cc
both true false xs ys us vs e f = cc
both false b xs ys us vs e f = cc

pub returns-in_err-left : goal.returns-in_err-left
returns-in_err-left c =
    let xs = c.args.left.now in
    let ys = c.args.right.now in
    let n = c.args.lefts.count in
    let m = c.args.rights.count in
    record {
      value = ap (option_map rows_of) c.from_residual.ensures ∙ no_left (is_order n xs) (is_order m ys) xs ys c.in_err-left.ensures;
      meaning = (decides_order n xs, decides_order m ys);
    }

pub returns-in_err-right : goal.returns-in_err-right
returns-in_err-right c =
    let xs = c.args.left.now in
    let ys = c.args.right.now in
    let n = c.args.lefts.count in
    let m = c.args.rights.count in
    record {
      value = ap (option_map rows_of) c.from_residual-in_err-right.ensures ∙ no_right (is_order n xs) (is_order m ys) xs ys c.in_err-right.ensures;
      meaning = (decides_order n xs, decides_order m ys);
    }

pub returns : goal.returns
returns c =
    let xs = c.args.left.now in
    let ys = c.args.right.now in
    let n = c.args.lefts.count in
    let m = c.args.rights.count in
    record {
      value = both (is_order n xs) (is_order m ys) xs ys _ _ c.in_ok-left.ensures c.in_ok-right.ensures;
      meaning = (decides_order n xs, decides_order m ys);
    }
