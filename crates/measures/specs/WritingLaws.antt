-- The written amounts of the delivered measures: how long they are, and that they have no space.
use Rattle.std.specs.Prelude.{◌<◌, ◌≤◌, ◌∷◌, length, decimal}
use Rattle.std.proofs.Common.{arith}
use Rattle.std.proofs.lemmas.Fmt.{decimal_nonempty}
use Rattle.measures.specs.Digits.{pair_length, short_decimal, decimal_unbroken, unbroken_append}
use Rattle.measures.specs.Unbroken.{NoSpace}
use Rattle.measures.specs.Writings.{strand_written, trunk_written}
use Rattle.measures.specs.declared.sum.Sum.{Sum}
use Rattle.measures.specs.declared.pair.Pair.{Pair}

pub strand_short : (x : Sum) → (0 < length (strand_written x)) × (length (strand_written x) ≤ 41)
strand_short x = (decimal_nonempty x.value x.fits, omega (arith, short_decimal x.value x.fits))

pub strand_unbroken : (x : Sum) → NoSpace (strand_written x)
strand_unbroken x = decimal_unbroken x.value x.fits

pub trunk_short : (x : Pair) → (0 < length (trunk_written x)) × (length (trunk_written x) ≤ 41)
trunk_short x =
    let l = pair_length x.trunk x.rest in
    let t = short_decimal x.trunk x.fits.0 in
    let r = short_decimal x.rest x.fits.1 in
    (omega arith, omega arith)

pub trunk_unbroken : (x : Pair) → NoSpace (trunk_written x)
trunk_unbroken x = unbroken_append (decimal x.trunk) (47 ∷ decimal x.rest) (decimal_unbroken x.trunk x.fits.0) (λ e. omega arith, decimal_unbroken x.rest x.fits.1)
