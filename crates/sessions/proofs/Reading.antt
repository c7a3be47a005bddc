-- What the bytes of an offered drawing say.
use Rattle.std.proofs.Common.{◌≡◌, ℕ, zero, suc, ◌<◌, true, not, List, length, take, drop, Ok, Err, Result, refl, ap, ◌∙◌, arith}
use Rattle.std.specs.Prelude.{nat_lt}
use Rattle.std.proofs.lemmas.Bool.{cond_both, and_parts}
use Rattle.std.proofs.lemmas.List.{length-take}
use Rattle.std.proofs.lemmas.List.Filters.{length-filter_both}
use Rattle.designs.specs.Grids.{Grid}
use Rattle.designs.specs.Readings.{TwoRows, read_rows}
use Rattle.designs.specs.Rows.{times, Order, each_once, all_255, is_row}
use Rattle.designs.specs.declared.fault.RowFault.{RowFault}
use Rattle.designs.proofs.Orders.{decides_each_once}
use Rattle.partials.specs.Partials.{DrawingOf, below}
use Rattle.partials.specs.Belows.{below_none, below_next}
use Rattle.partials.specs.Children.{length-put}

-- where each switch below n is named once, there are n names of switches below n
names_below : (n : ℕ) (xs : List ℕ) → ((k : ℕ) → k < n → times k xs ≡ 1) → length (below n xs) ≡ n
names_below zero xs h = ap length (below_none xs)
names_below (suc n) xs h =
    let r = below_next n xs (h n (omega arith)) in
    ap length r.2 ∙ (length-put r.0 n (below n xs) ∙ ap suc (names_below n xs (λ k l. h k (omega arith))))

-- the names at the start of a row are an order
row_order : (n : ℕ) (bs : List ℕ) → is_row n bs ≡ true → Order n (take n bs)
row_order n bs e =
    let xs = take n bs in
    let once = (decides_each_once n xs).0 (and_parts (each_once n xs) (all_255 (drop n bs)) e).0 in
    let all = length-filter_both (λ a. nat_lt a n) (λ a. not (nat_lt a n)) (λ a. refl) xs in
    (omega (arith, names_below n xs once, all, length-take n bs), once)

-- what a drawing that was read is
abbrev pub Read : Grid → Result TwoRows RowFault → Type 0
Read g (Ok x) = DrawingOf g x
Read g (Err f) = Unit {0}

pub drawing_read : (g : Grid) (bs : List ℕ) → Read g (read_rows g bs)
drawing_read g bs = cond_both (is_row g.lefts (take 24 bs)) _ _ (Read g)
    (λ l. cond_both (is_row g.rights (drop 24 bs)) _ _ (Read g) (λ r. (row_order g.lefts (take 24 bs) l, row_order g.rights (drop 24 bs) r)) (λ _. tt {0}))
    (λ _. tt {0})
