use Rattle.std.proofs.Common.{◌≡◌, ◌∙◌, ℕ, ◌-◌, true, false, cond, List, ◌++◌, length, replicate, Some, None, Option, MatchOption}
use Rattle.std.proofs.lemmas.List.{take_at}
use Rattle.std.specs.Option.{option_map}
use Rattle.designs.specs.Readings.{row_of}
use Rattle.designs.specs.Rows.{is_order, is_row}
use Rattle.designs.specs.declared.row.Row.{Row}
use Rattle.designs.proofs.Names.{filled_row}
use Rattle.designs.proofs.row.Row.of.Goals as goal

-- the row that is read from the filled up names
found : (n m : ℕ) (xs bs : List ℕ) (r : Option Row) → length xs ≡ n → bs ≡ xs ++ replicate m 255
    → MatchOption r (is_row n bs ≡ false) (λ x. (is_row n bs ≡ true) × (x.size.count ≡ n) × (x.switches ≡ bs)) → option_map row_of r ≡ cond (is_order n xs) (Some xs) None
found n m xs bs None l e h = let f = filled_row n m xs l in cc
found n m xs bs (Some x) l e h =
    let f = filled_row n m xs l in
    let t = take_at xs (replicate m 255) n l in
    cc

pub returns : goal.returns
returns c =
    let xs = c.args.names.now in
    found c.args.size.count (24 - length xs) xs c.filled.result c.read.result (c.if-names-from.false ∙ c.from.ensures) c.filled.ensures c.read.ensures.value
