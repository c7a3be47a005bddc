-- The four laws of sums held at the top.
use Rattle.std.specs.Prelude.{◌≡◌, ℕ, min, true, ◌⊎◌, nat_le}
use Rattle.std.proofs.Common.{sym, ap, ◌∙◌, mul_comm, arith, leb-true}
use Rattle.std.proofs.lemmas.Bool.Decides.{nat_tests}
use Rattle.measures.specs.Amounts.{Lawful}
use Rattle.measures.specs.Sums.{sums, sum_held, most, plus}
use Rattle.measures.specs.Prices.{strand_price}
use Rattle.measures.specs.declared.link.Link.{Link}
use Rattle.measures.specs.Same.{sum_same}

-- a sum that is held already
held_plus : (m n : ℕ) → min (plus m n) most ≡ plus m n
held_plus m n = omega arith

plus_assoc : (x y z : ℕ) → plus (plus x y) z ≡ plus x (plus y z)
plus_assoc x y z = omega arith

pub held_assoc : (x y z : ℕ) → min (plus (min (plus x y) most) z) most ≡ min (plus x (min (plus y z) most)) most
held_assoc x y z =
    ap (λ k. min (plus k z) most) (held_plus x y)
    ∙ (ap (λ k. min k most) (plus_assoc x y z) ∙ sym (ap (λ k. min (plus x k) most) (held_plus y z)))

leb_total : (m n : ℕ) → (nat_le m n ≡ true) ⊎ (nat_le n m ≡ true)
leb_total m n = grind (arith, nat_tests)

leb_trans : (k m n : ℕ) → nat_le k m ≡ true → nat_le m n ≡ true → nat_le k n ≡ true
leb_trans k m n p q = grind (arith, nat_tests)

leb_least : (n : ℕ) → nat_le (min 0 most) n ≡ true
leb_least n = grind (arith, nat_tests)

leb_mono : (p q r : ℕ) → nat_le p q ≡ true → nat_le (min (plus p r) most) (min (plus q r) most) ≡ true
leb_mono p q r e = grind (arith, nat_tests)

pub sums_lawful : Lawful sums
sums_lawful = record {
  assoc = λ x y z. sum_same _ _ (held_assoc x.value y.value z.value);
  comm = λ x y. sum_same _ _ (omega arith);
  unit = λ x. sum_same _ _ (omega arith);
  total = λ x y. leb_total x.value y.value;
  trans = λ x y z p q. leb_trans x.value y.value z.value p q;
  antisym = λ x y p q. sum_same _ _ (omega (arith, leb-true _ _ p, leb-true _ _ q));
  least = λ x. leb_least x.value;
  mono = λ p q r e. leb_mono p.value q.value r.value e;
}

pub strands_exchanged : (a b : Link) → strand_price a b ≡ strand_price b a
strands_exchanged a b = ap sum_held (mul_comm a.strands b.strands)
