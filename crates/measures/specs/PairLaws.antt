-- The four laws of pairs, as facts of numbers.
use Rattle.std.specs.Prelude.{◌≡◌, ℕ, ◌*◌, ◌≤◌, min, Bool, true, false, cond, ◌&&◌, ◌||◌, ◌⊎◌, ◌==◌, nat_le, nat_lt, refl}
use Rattle.std.proofs.Common.{ap, ◌∙◌, mul_comm, arith}
use Rattle.std.proofs.lemmas.Bool.Decides.{nat_tests}
use Rattle.measures.specs.Amounts.{Lawful}
use Rattle.measures.specs.Sums.{most, plus}
use Rattle.measures.specs.Pairs.{pairs, pair_held, rest_held}
use Rattle.measures.specs.Prices.{trunk_price, is_trunk}
use Rattle.measures.specs.declared.link.Link.{Link}
use Rattle.measures.specs.Same.{pair_same}
use Rattle.measures.specs.SumLaws.{held_assoc}

plus_comm : (m n : ℕ) → plus m n ≡ plus n m
plus_comm m n = omega arith

rest_unit : (a r : ℕ) → a ≤ most → r ≤ most → (a ≡ most → r ≡ most) → rest_held (plus (min 0 most) a) (plus (rest_held 0 0) r) ≡ r
rest_unit a r h k t = grind (arith, nat_tests)

rest_assoc : (a b c r s t : ℕ) → rest_held (plus (min (plus a b) most) c) (plus (rest_held (plus a b) (plus r s)) t) ≡ rest_held (plus a (min (plus b c) most)) (plus r (rest_held (plus b c) (plus s t)))
rest_assoc a b c r s t = grind (arith, nat_tests)

-- the order of pairs
abbrev under : ℕ → ℕ → ℕ → ℕ → Bool
under a r b s = nat_lt a b || (a == b && nat_le r s)

under_total : (a r b s : ℕ) → (under a r b s ≡ true) ⊎ (under b s a r ≡ true)
under_total a r b s = grind (arith, nat_tests)

under_trans : (a r b s c t : ℕ) → under a r b s ≡ true → under b s c t ≡ true → under a r c t ≡ true
under_trans a r b s c t e f = grind (arith, nat_tests)

under_anti : (a r b s : ℕ) → under a r b s ≡ true → under b s a r ≡ true → (a ≡ b) × (r ≡ s)
under_anti a r b s e f = grind (arith, nat_tests)

under_least : (a r : ℕ) → under (min 0 most) (rest_held 0 0) a r ≡ true
under_least a r = grind (arith, nat_tests)

under_mono : (a r b s c t : ℕ) → under a r b s ≡ true → under (min (plus a c) most) (rest_held (plus a c) (plus r t)) (min (plus b c) most) (rest_held (plus b c) (plus s t)) ≡ true
under_mono a r b s c t e = grind (arith, nat_tests)

pub pairs_lawful : Lawful pairs
pairs_lawful = record {
  assoc = λ x y z. pair_same _ _ (held_assoc x.trunk y.trunk z.trunk) (rest_assoc x.trunk y.trunk z.trunk x.rest y.rest z.rest);
  comm = λ x y. ap (λ n. pair_held n (plus x.rest y.rest)) (plus_comm x.trunk y.trunk) ∙ ap (pair_held (plus y.trunk x.trunk)) (plus_comm x.rest y.rest);
  unit = λ x. pair_same _ _ (omega arith) (rest_unit x.trunk x.rest (omega arith) (omega arith) x.top);
  total = λ x y. under_total x.trunk x.rest y.trunk y.rest;
  trans = λ x y z p q. under_trans x.trunk x.rest y.trunk y.rest z.trunk z.rest p q;
  antisym = λ x y p q. let e = under_anti x.trunk x.rest y.trunk y.rest p q in pair_same _ _ e.0 e.1;
  least = λ x. under_least x.trunk x.rest;
  mono = λ p q r h. under_mono p.trunk p.rest q.trunk q.rest r.trunk r.rest h;
}

or_comm : (x y : Bool) → (x || y) ≡ (y || x)
or_comm true true = refl
or_comm true false = refl
or_comm false true = refl
or_comm false false = refl

pub trunks_exchanged : (a b : Link) → trunk_price a b ≡ trunk_price b a
trunks_exchanged a b =
    ap (λ t. cond t (pair_held (a.strands * b.strands) 0) (pair_held 0 (a.strands * b.strands))) (or_comm (is_trunk a.class) (is_trunk b.class))
    ∙ ap (λ n. cond (is_trunk b.class || is_trunk a.class) (pair_held n 0) (pair_held 0 n)) (mul_comm a.strands b.strands)
