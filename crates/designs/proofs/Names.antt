-- Rows from their names: the names filled up with 255, and what the test of an order decides.
use Rattle.std.proofs.Common.{◌≡◌, ℕ, zero, suc, Bool, true, false, ◌&&◌, eqb, List, ◌++◌, length, replicate, Decides, refl}
use Rattle.std.proofs.lemmas.List.{take_at, drop_at}
use Rattle.std.proofs.lemmas.Bool.{eq-eqb}
use Rattle.std.proofs.lemmas.Bool.Decides.{Decides-and, Decides-eqb}
use Rattle.designs.specs.Rows.{Order, each_once, all_255, is_order, is_row}
use Rattle.designs.proofs.Orders.{decides_each_once}

pub decides_order : (n : ℕ) (xs : List ℕ) → Decides (is_order n xs) (Order n xs)
decides_order n xs = Decides-and (eqb (length xs) n) (each_once n xs) (Decides-eqb (length xs) n) (decides_each_once n xs)

all_filler : (m : ℕ) → all_255 (replicate m 255) ≡ true
all_filler zero = refl
all_filler (suc m) = all_filler m

and_true : (b t : Bool) → t ≡ true → (b && t) ≡ b
and_true true t e = e
and_true false t e = refl

-- filled up names are a row if the names are an order
pub filled_row : (n m : ℕ) (xs : List ℕ) → length xs ≡ n → is_row n (xs ++ replicate m 255) ≡ is_order n xs
filled_row n m xs e =
    let t = eq-eqb (length xs) n e in
    rw (take_at xs (replicate m 255) n e, drop_at xs (replicate m 255) n e, t) (and_true (each_once n xs) (all_255 (replicate m 255)) (all_filler m))
