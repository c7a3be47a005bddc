-- Amounts with the same numbers are the same: a ghost field has one proof at most.
use Rattle.std.specs.Prelude.{◌≡◌, ℕ, suc, ◌-◌, ◌^◌, ◌<◌}
use Rattle.std.proofs.Common.{ap}
use mathlib.Core.HLevel.{Σ_prop_path, Π_prop, ×_prop}
use Rattle.std.proofs.Math.Nat.{ℕ_set}
use Rattle.std.proofs.Math.Bridge.{le_prop}
use Rattle.measures.specs.declared.sum.Sum.{Sum}
use Rattle.measures.specs.declared.pair.Pair.{Pair}

pub sum_same : (x y : Sum) → x.value ≡ y.value → x ≡ y
sum_same x y e =
    let P : ℕ → Type 0 = λ k. k < 2 ^ 64 in
    let made : ((k : ℕ) × P k) → Sum = λ u. record { value = u.0; fits = u.1 } in
    ap made (Σ_prop_path {B = P} (λ (k : ℕ). le_prop {n = suc k} {m = 2 ^ 64}) {u = (x.value, x.fits)} {v = (y.value, y.fits)} e)

pub pair_same : (x y : Pair) → x.trunk ≡ y.trunk → x.rest ≡ y.rest → x ≡ y
pair_same x y e f =
    let P : (ℕ × ℕ) → Type 0 = λ p. ((p.0 < 2 ^ 64) × (p.1 < 2 ^ 64)) × (p.0 ≡ 2 ^ 64 - 1 → p.1 ≡ 2 ^ 64 - 1) in
    let made : ((p : ℕ × ℕ) × P p) → Pair = λ u. record { trunk = u.0.0; rest = u.0.1; fits = u.1.0; top = u.1.1 } in
    let one : (p : ℕ × ℕ) → IsProp (P p) = λ p. ×_prop (×_prop (le_prop {n = suc p.0} {m = 2 ^ 64}) (le_prop {n = suc p.1} {m = 2 ^ 64})) (Π_prop (λ _. ℕ_set p.1 (2 ^ 64 - 1))) in
    let same : ◌≡◌ {A = ℕ × ℕ} (x.trunk, x.rest) (y.trunk, y.rest) = λ i. (e i, f i) in
    ap made (Σ_prop_path {B = P} one {u = ((x.trunk, x.rest), (x.fits, x.top))} {v = ((y.trunk, y.rest), (y.fits, y.top))} same)
