-- Sizes that are absent above a ceiling.
use Rattle.std.proofs.Common.{◌≡◌, ℕ, zero, suc, ◌+◌, ◌-◌, ◌*◌, ◌<◌, ◌≤◌, Some, None, sym, ap, ◌∙◌, arith}
use Rattle.std.proofs.lemmas.Bool.Decides.{nat_tests}
use Rattle.partials.specs.Sizes.{right_size, left_size, unless_above}

over : (x y : ℕ) → x ≤ y → None ≡ unless_above x → None ≡ unless_above y
over x y le e = grind (arith, nat_tests)

under : (x b : ℕ) → Some b ≡ unless_above x → x ≡ b
under x b e = grind (arith, nat_tests)

grows : (f x : ℕ) → 0 < f → x ≤ f * (1 + x)
grows zero x h = omega arith
grows (suc f) x h = grind arith

-- one level of the tree: y nodes below each of f children
module _ (f x y : ℕ) (some : 0 < f) (step : y ≡ f * (1 + x)) where
  pub level_none : None ≡ unless_above x → None ≡ unless_above y
  level_none e = over x y (omega (arith, grows f x some)) e

  pub level_more : (b : ℕ) → Some b ≡ unless_above x → unless_above (f * (1 + b)) ≡ unless_above y
  level_more b e = ap unless_above (ap (λ n. f * (1 + n)) (sym (under x b e)) ∙ sym step)

pub right_step : (j : ℕ) → 0 < j → right_size j ≡ j * (1 + right_size (j - 1))
right_step zero h = omega arith
right_step (suc j) h = let e : j ≡ suc j - 1 = omega arith in ap (λ i. suc j * (1 + right_size i)) e

pub left_step : (m k d : ℕ) → 0 < d → left_size m k d ≡ (k + 1) * (1 + left_size m (k + 1) (d - 1))
left_step m k zero h = omega arith
left_step m k (suc d) h = let e : d ≡ suc d - 1 = omega arith in ap (λ i. (k + 1) * (1 + left_size m (k + 1) i)) e
